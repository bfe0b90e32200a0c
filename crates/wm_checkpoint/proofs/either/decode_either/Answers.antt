use Rattle.std.proofs.Common.{◌≤◌, List, ℕ, length, ap, sym, subst, arith}
use Rattle.std.proofs.lemmas.List.{length-take}
use Rattle.wm_disk.specs.declared.refusal.Refusal.TheVariants.{Damaged as damaged}
use Rattle.wm_journal.specs.Areas.{area}
use Rattle.wm_checkpoint.specs.Layout.{header_len, sizes_2}
use Rattle.wm_checkpoint.specs.Machines.{meaning}
use Rattle.wm_checkpoint.specs.Meanings.{IsHeaderWith}
use Rattle.wm_checkpoint.specs.Layout.{sizes_1}
use Rattle.wm_checkpoint.proofs.Deciding.{front_area, no_header, same_err}
use Rattle.wm_checkpoint.proofs.Versions.{front_1, unless_header}
use Rattle.wm_checkpoint.specs.laws.Headers.{one_version}
use Rattle.wm_checkpoint.proofs.either.decode_either.Goals as goal

pub returns-in-Err-clause-damaged : goal.returns-in-Err-clause-damaged
returns-in-Err-clause-damaged g c = λ d front is.
    let bytes = c.args.bytes.now in
    let one = meaning g.M.Machine g.M.State.Wire g.M.Command.Wire sizes_1 in
    let yes = c.is_version_2.ensures.yes c.if-is_version_2.true in
    let header : IsHeaderWith sizes_2 yes.0 (area 0 header_len d) = subst (λ (x : List ℕ). IsHeaderWith sizes_2 yes.0 x) (front_area sizes_2 bytes d 0 header_len front (omega arith)) yes.1 in
    (no_header one d (λ r h. one_version (area 0 header_len d) r yes.0 h header), c.in-Err.ensures.damaged d front (same_err c.in-Err.refusal damaged is))

pub returns-in-Ok-decode_front-clause-found : goal.returns-in-Ok-decode_front-clause-found
returns-in-Ok-decode_front-clause-found g c = λ d front. c.in-Ok-decode_front.ensures.found d (front_1 c.args.bytes.now d front)

pub returns-in-Err-decode_front-clause-damaged : goal.returns-in-Err-decode_front-clause-damaged
returns-in-Err-decode_front-clause-damaged g c = λ d front is.
    let bytes = c.args.bytes.now in
    let two = meaning g.N.Machine g.N.State.Wire g.N.Command.Wire sizes_2 in (
      c.in-Err-decode_front.ensures.damaged d (front_1 bytes d front) (same_err c.in-Err-decode_front.refusal damaged is),
      unless_header two d (λ long r h.
          let there : header_len ≤ length bytes = omega (arith, ap length front.2, length-take front.0 d, front.1, long) in
          c.is_version_2.ensures.no c.if-is_version_2.false there r (subst (λ (x : List ℕ). IsHeaderWith sizes_2 r x) (sym (front_area sizes_2 bytes d 0 header_len front (omega arith))) h)),
    )
