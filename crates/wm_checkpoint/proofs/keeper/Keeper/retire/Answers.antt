use Rattle.std.proofs.Common.{ℕ, List, subst, sym, arith}
use Rattle.wm_disk.specs.laws.Runs.{weaker}
use Rattle.wm_journal.specs.Areas.{SameOutside}
use Rattle.wm_journal.specs.laws.Areas.{same_itself}
use Rattle.wm_checkpoint.specs.Machines.{meaning}
use Rattle.wm_checkpoint.specs.Retirement.{IsMeantOrRetired}
use Rattle.wm_checkpoint.proofs.Halves.{on_ok}
use Rattle.wm_checkpoint.proofs.Retiring.{retired_done, meant_or_retired}
use Rattle.wm_checkpoint.proofs.keeper.Keeper.retire.Goals as goal

pub returns-clause-retired : goal.returns-clause-retired
returns-clause-retired g c = λ state h means.
    let m = meaning g.M.Machine g.M.State.Wire g.M.Command.Wire g.L.Layout.sizes in
    on_ok c.put_durably.result (λ eq. retired_done m state _ _ means eq) (c.put_durably.ensures.written h)

pub returns-clause-any_moment : goal.returns-clause-any_moment
returns-clause-any_moment g c = λ state h only means.
    let D = g.D.Disk in
    let m = meaning g.M.Machine g.M.State.Wire g.M.Command.Wire g.L.Layout.sizes in
    let disk = c.args.disk.now in
    let old = D.seen disk in
    let run = c.put_durably.ensures.any_moment 12 1 old h (omega arith) (omega arith) (omega (arith, means.means.long)) (λ f left. subst (λ (x : List ℕ). SameOutside 12 1 old x) (sym (only f left)) (same_itself 12 1 old)) in
    weaker D.moment D.left_since disk c.put_durably.new.disk (SameOutside 12 1 old) (IsMeantOrRetired m state old) run (λ x s. meant_or_retired m state old x means s)
