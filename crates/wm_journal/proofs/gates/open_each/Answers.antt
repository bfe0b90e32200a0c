use Rattle.std.proofs.Common.{◌≡◌, ◌≤◌, ◌+◌, [], ◌∷◌, ℕ, length, get_or, subst, ap, arith, ◌∙◌}
use Rattle.wm_disk.specs.Moments.{goes_on}
use Rattle.wm_disk.specs.PointLaws.{length-overwritten}
use Rattle.wm_journal.specs.Records.{taken}
use Rattle.wm_journal.specs.Gates.{IsUnderGates, IsOpenTo}
use Rattle.wm_journal.proofs.Laying.{length-gate_places}
use Rattle.wm_journal.specs.laws.Areas.{same_twice}
use Rattle.wm_journal.proofs.Opening.{crash_one, opened_one, written_outside}
use Rattle.wm_journal.proofs.gates.open_each.Goals as goal

pub returns-in_err-write_at-clause-crash : goal.returns-in_err-write_at-clause-crash
returns-in_err-write_at-clause-crash g c = λ held added before h is under.
    let D = g.D.Disk in
    let i = c.loop-place.place-index in
    let lt = c.loop-place-test.true in
    let inv = c.loop-place.invariant in
    let so_far = c.write_at.ensures.honest h in
    let first = inv.honest so_far in
    let at_first = under (D.seen c.args.disk.now) (g.met.D.Disk.reads_stand c.args.disk.now first) in
    let lies : c.args.offset + c.args.len ≤ length before = omega (arith, at_first.outside.size, c.requires.lies first) in
    crash_one g.W.Wire held added c.args.offset c.args.len before c.args.gates.now i _ _ is lt (c.requires.inside i lt) lies (inv.crash held added before so_far is under) (c.write_at.ensures.crash h)

pub returns-in_err-write_at-clause-any_moment : goal.returns-in_err-write_at-clause-any_moment
returns-in_err-write_at-clause-any_moment g c = λ held added before is under h.
    let D = g.D.Disk in
    let inv = c.loop-place.invariant in
    let here = returns-in_err-write_at-clause-crash g c held added before h is under in
    goes_on D.moment D.left_since c.args.disk.now c.loop-place.disk c.write_at.new.self (IsUnderGates g.W.Wire c.args.offset c.args.len before held added) _ (inv.any_moment held added before is under (c.write_at.ensures.honest h)) (c.write_at.ensures.time h) here

pub loop-place-preserved : goal.loop-place-preserved
loop-place-preserved g c =
    let D = g.D.Disk in
    let W = g.W.Wire in
    let i = c.loop-place.place-index in
    let gates = c.args.gates.now in
    let inv = c.loop-place.invariant in
    let lt = c.loop-place-test.true in
    let inside = c.requires.inside i lt in
    let at = c.args.offset + get_or gates i 0 in
    record {
      honest = λ h. inv.honest (c.write_at.ensures.honest h);
      whole = c.in_ok-write_at.ensures.count.whole ∙ inv.whole;
      lies = λ h. let lies = inv.lies (c.write_at.ensures.honest h) in omega (arith, ap length (c.in_ok-write_at.ensures.written h), length-overwritten (D.seen c.loop-place.disk) (165 ∷ []) at (omega (arith, lies, inside)), lies);
      outside = λ h.
          let so_far = c.write_at.ensures.honest h in
          same_twice c.args.offset c.args.len (D.seen c.args.disk.now) (D.seen c.loop-place.disk) (D.seen c.write_at.new.self) (inv.outside so_far) (written_outside c.args.offset c.args.len (get_or gates i 0) 165 (D.seen c.loop-place.disk) (D.seen c.write_at.new.self) inside (inv.lies so_far) (c.in_ok-write_at.ensures.written h));
      opened = λ held added before h is under.
          let so_far = c.write_at.ensures.honest h in
          opened_one W held added c.args.offset c.args.len before gates (D.seen c.loop-place.disk) (D.seen c.write_at.new.self) i is lt inside (inv.lies so_far) (inv.opened held added before so_far is under) (c.in_ok-write_at.ensures.written h);
      crash = λ held added before h is under.
          let so_far = c.write_at.ensures.honest h in
          let first = inv.honest so_far in
          let at_first = under (D.seen c.args.disk.now) (g.met.D.Disk.reads_stand c.args.disk.now first) in
          let lies : c.args.offset + c.args.len ≤ length before = omega (arith, at_first.outside.size, c.requires.lies first) in
          crash_one W held added c.args.offset c.args.len before gates i _ _ is lt inside lies (inv.crash held added before so_far is under) (c.write_at.ensures.crash h);
      any_moment = λ held added before is under h.
          let so_far = c.write_at.ensures.honest h in
          let first = inv.honest so_far in
          let at_first = under (D.seen c.args.disk.now) (g.met.D.Disk.reads_stand c.args.disk.now first) in
          let lies : c.args.offset + c.args.len ≤ length before = omega (arith, at_first.outside.size, c.requires.lies first) in
          let here = crash_one W held added c.args.offset c.args.len before gates i _ _ is lt inside lies (inv.crash held added before so_far is under) (c.write_at.ensures.crash h) in
          goes_on D.moment D.left_since c.args.disk.now c.loop-place.disk c.write_at.new.self (IsUnderGates W c.args.offset c.args.len before held added) _ (inv.any_moment held added before is under so_far) (c.write_at.ensures.time h) here;
    }

pub returns-clause-opened : goal.returns-clause-opened
returns-clause-opened g c = λ held added before h is under.
    let W = g.W.Wire in
    let n : c.loop-place.place-index ≡ length added = omega (arith, ap length is, length-gate_places W.spelling (taken W.spelling held) added, c.loop-place-test.false) in
    subst (λ (k : ℕ). IsOpenTo W c.args.offset c.args.len before held added k (g.D.Disk.seen c.loop-place.disk)) n (c.loop-place.invariant.opened held added before h is under)
