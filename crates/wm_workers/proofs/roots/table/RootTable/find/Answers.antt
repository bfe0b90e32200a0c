use Rattle.std.proofs.Common.{ap, ◌∙◌, take, drop, sym, ◌+◌}
use Rattle.wm_workers.proofs.Parting.{parted_at}
use Rattle.wm_workers.proofs.roots.table.RootTable.find.Goals as goal

pub returns-then-eq : goal.returns-then-eq
returns-then-eq g c = (
  take c.loop-root.root-index c.args.self.now.roots,
  drop (c.loop-root.root-index + 1) c.args.self.now.roots,
  parted_at c.args.self.now.roots c.deref-root-items.result.now c.loop-root.root-index c.root-item.result (c.deref-root-items.ensures.value ∙ ap (λ w. w.roots) c.self.view_is) c.loop-root-test.true c.root-item.is,
  c.loop-root.invariant,
  sym c.eq.ensures ∙ c.if-eq.true,
)
