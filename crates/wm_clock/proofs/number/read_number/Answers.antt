use Rattle.std.proofs.Common.{◌≡◌, ◌<◌, get_or, arith}
use Rattle.wm_clock.proofs.Numbers.{bounded, first_is, from_parse, no_zero_first, not_parsed, other_first}
use Rattle.wm_clock.proofs.number.read_number.Goals as goal
use Rattle.wm_clock.proofs.number.read_number.Goals.{then-starts_with-via-then-starts_with, then-starts_with-via-else-starts_with+then-starts_with-2}

pub returns-then-starts_with : goal.returns-then-starts_with
returns-then-starts_with c n h e =
    let above : 48 < get_or c.args.text.now 0 0 = no_zero_first n c.args.text.now h e in
    elim c.then-starts_with.branch [
      | then-starts_with-via-then-starts_with w ↦
          let zero : get_or c.args.text.now 0 0 ≡ 48 = first_is 48 c.args.text.now _ c.starts_with.ensures.cases (omega arith) (omega arith) w.if-starts_with.true in
          absurd (omega arith)
      | then-starts_with-via-else-starts_with+then-starts_with-2 w ↦
          let plus : get_or c.args.text.now 0 0 ≡ 43 = first_is 43 c.args.text.now _ w.starts_with-else-starts_with.ensures.cases (omega arith) (omega arith) w.if-starts_with-2.true in
          absurd (omega arith)
    ]

pub returns-in-Ok : goal.returns-in-Ok
returns-in-Ok c =
    from_parse c.args.text.now c.in-Ok.n c.parse.result c.parse.ensures.value.0 c.in-Ok.is
    (other_first 43 c.args.text.now _ c.starts_with-else-starts_with.ensures.cases (omega arith) (omega arith) c.if-starts_with-2.false)
    (other_first 48 c.args.text.now _ c.starts_with.ensures.cases (omega arith) (omega arith) c.if-starts_with.false)
    (omega arith)

pub returns-in_default : goal.returns-in_default
returns-in_default c n h e = let p = not_parsed c.args.text.now c.parse.result n c.parse.ensures.value.0 h e in let le = bounded n h in grind arith

pub returns-in_default-2 : goal.returns-in_default-2
returns-in_default-2 c n h e = let p = not_parsed c.args.text.now c.parse.result n c.parse.ensures.value.0 h e in cc
