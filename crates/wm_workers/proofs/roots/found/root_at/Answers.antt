use Rattle.std.proofs.Common.{◌∙◌, ap, sym}
use Rattle.std.specs.Arc.{arc_value}
use Rattle.wm_root.specs.declared.watched_root.WatchedRoot.{WatchedRoot}
use Rattle.wm_workers.proofs.Names.{had_at}
use Rattle.wm_workers.proofs.roots.found.root_at.Goals as goal

pub returns-in-Ok-clause-had : goal.returns-in-Ok-clause-had
returns-in-Ok-clause-had g c =
    let same = ap (λ (w : WatchedRoot g.row.J.Denot g.row.K.Denot). w.number) (c.deref.ensures ∙ sym c.in-Ok.ensures) in
    had_at c.args.roots.now c.args.path.now c.in-Some.row.now (arc_value c.in-Ok.root).number c.numbers_rise.ensures c.in-Some.ensures (sym c.if-deref-row.false ∙ same)
