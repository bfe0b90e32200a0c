use Rattle.std.proofs.Common.{◌∙◌, ◌≡◌, ◌≤◌, ◌+◌, ◌-◌, ℕ, IfOk, ap, arith, length, rules, subst, sym, take-add}
use Rattle.std.proofs.lemmas.List.{length-drop}
use Rattle.std.specs.Io.KnownBytes.{Appends, WriteAppends}
use Rattle.std.specs.Prelude.{take}
use Rattle.wm_client.proofs.Sending.{all_taken, kept_grown, more_sent, none_grown, start_taken}
use Rattle.wm_client.proofs.talking.send_bytes.Goals as goal
use Rattle.wm_client.proofs.talking.send_bytes.Goals.{in-Ok, in-Err}

pub loop-init : goal.loop-init
loop-init g c = (none_grown _, search rules)

pub returns-then-sent-bytes-clause-sent : goal.returns-then-sent-bytes-clause-sent
returns-then-sent-bytes-clause-sent g c is = all_taken _ _ _ c.loop.sent (search rules) c.loop.invariant.0

pub returns-then-sent-bytes-clause-start : goal.returns-then-sent-bytes-clause-start
returns-then-sent-bytes-clause-start g c = start_taken _ _ _ c.loop.sent c.loop.invariant.0

pub returns-clause-start : goal.returns-clause-start
returns-clause-start g c = start_taken _ _ _ c.loop.sent c.loop.invariant.0

pub returns-in-Ok-eq0-clause-start : goal.returns-in-Ok-eq0-clause-start
returns-in-Ok-eq0-clause-start g c =
    let wrote : Appends (g.S.Write.contents c.loop.sender) (g.S.Write.contents c.write.new.self) (take c.in-Ok-eq0.field-0 c.split_at.result.1.now) =
    subst (λ r. WriteAppends (g.S.Write.contents c.loop.sender) (g.S.Write.contents c.write.new.self) r c.split_at.result.1.now) c.in-Ok-eq0.is c.write.ensures.bytes in
    start_taken _ _ _ (c.loop.sent + c.in-Ok-eq0.field-0) (more_sent _ _ _ c.args.bytes.now c.loop.sent c.in-Ok-eq0.field-0 (take-add c.loop.sent c.in-Ok-eq0.field-0 c.args.bytes.now) c.loop.invariant.0
    (subst (λ l. Appends (g.S.Write.contents c.loop.sender) (g.S.Write.contents c.write.new.self) (take c.in-Ok-eq0.field-0 l)) c.split_at.ensures.back wrote))

pub returns-in-Err-2-clause-start : goal.returns-in-Err-2-clause-start
returns-in-Err-2-clause-start g c = start_taken _ _ _ c.loop.sent (kept_grown _ _ _ _ c.loop.invariant.0 c.in-Err-2.ensures.bytes)

room : (s n len left : ℕ) → s ≤ len → left ≡ len - s → n ≤ left → s + n ≤ len
room s n len left p q r = omega arith

pub loop-preserved : goal.loop-preserved
loop-preserved g c = elim c.match-write.branch [
  | in-Ok w ↦
      let wrote : Appends (g.S.Write.contents c.loop.sender) (g.S.Write.contents c.write.new.self) (take w.in-Ok.count c.split_at.result.1.now) =
      subst (λ r. WriteAppends (g.S.Write.contents c.loop.sender) (g.S.Write.contents c.write.new.self) r c.split_at.result.1.now) w.in-Ok.is c.write.ensures.bytes in
      let fits : w.in-Ok.count ≤ length c.split_at.result.1.now = subst (λ r. IfOk r (λ n. n ≤ length c.split_at.result.1.now)) w.in-Ok.is c.write.ensures.bound in
      subst (λ s. Appends (g.S.Write.contents c.args.sender.now) (g.S.Write.contents c.write.new.self) (take s c.args.bytes.now) × (s ≤ length c.args.bytes.now)) (sym w.sent-is) (
        more_sent _ _ _ c.args.bytes.now c.loop.sent w.in-Ok.count (take-add c.loop.sent w.in-Ok.count c.args.bytes.now) c.loop.invariant.0
            (subst (λ l. Appends (g.S.Write.contents c.loop.sender) (g.S.Write.contents c.write.new.self) (take w.in-Ok.count l)) c.split_at.ensures.back wrote),
        room c.loop.sent w.in-Ok.count (length c.args.bytes.now) _ c.loop.invariant.1 (ap length c.split_at.ensures.back ∙ length-drop c.loop.sent c.args.bytes.now) fits,
      )
  | in-Err w ↦
      subst (λ s. Appends (g.S.Write.contents c.args.sender.now) (g.S.Write.contents c.write.new.self) (take s c.args.bytes.now) × (s ≤ length c.args.bytes.now)) (sym w.sent-is) (
        kept_grown _ _ _ _ c.loop.invariant.0 w.in-Err.ensures.bytes,
        c.loop.invariant.1,
      )
]
