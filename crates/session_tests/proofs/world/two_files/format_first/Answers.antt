use Rattle.std.proofs.Common.{subst, ◌∙◌, []}
use Rattle.std.specs.Prelude.{OnOk}
use Rattle.wm_checkpoint.specs.Meanings.{Means}
use Rattle.wm_checkpoint.specs.declared.layout.Slot.TheVariants.{A}
use Rattle.wm_registry.specs.MachineLaws.{watches}
use Rattle.wm_registry.specs.Roots.{State}
use Rattle.wm_registry.specs.declared.version.Version.TheVariants.{One}
use Rattle.session_tests.proofs.world.two_files.format_first.Goals as goal

pub returns-clause-formatted : goal.returns-clause-formatted
returns-clause-formatted g c = λ h. subst (λ (s : State). OnOk c.format.result (Means (watches One) (g.D.Disk.seen c.format.new.disk) A 1 s [])) (c.new-first.ensures ∙ c.new.ensures) (c.format.ensures.formatted h)
