use Rattle.std.proofs.Common.{[], ap, refl, subst, ◌∙◌}
use Rattle.wm_session.specs.local.Locals.{front_state_of}
use Rattle.wm_session.specs.local.LocalLaws.{stays}
use Rattle.wm_session.specs.session.Watched.{Operated}
use Rattle.wm_session.proofs.lemmas.local.OperationLemmas.{operates}
use Rattle.wm_session.proofs.local.local_front.LocalFrontFront.operate.Goals as goal

pub returns-clause-met : goal.returns-clause-met
returns-clause-met g c =
    operates (front_state_of g.D.Disk) c.args.self.now _ c.args.root.now c.args.op c.operate.result c.operate.new.views.items refl
    (subst (λ roots. Operated c.args.root.now c.args.op roots c.args.self.now.views.items c.operate.result c.operate.new.views.items) (c.roots-roots.ensures ∙ ap (λ r. r.roots) c.registry.ensures.value) c.operate.ensures)

pub returns-clause-later : goal.returns-clause-later
returns-clause-later g c = stays g.D.Disk [] c.args.self.now.store
