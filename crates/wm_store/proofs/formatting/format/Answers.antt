use Rattle.std.proofs.Common.{subst, ◌∙◌, []}
use Rattle.std.specs.Prelude.{OnOk}
use Rattle.wm_checkpoint.specs.FirstFile.{IsFirstFile}
use Rattle.wm_checkpoint.specs.Layout.{sizes_2}
use Rattle.wm_checkpoint.specs.Meanings.{Means, slot_bytes}
use Rattle.wm_checkpoint.specs.declared.layout.Slot.TheVariants.{A}
use Rattle.wm_registry.specs.MachineLaws.{watches}
use Rattle.wm_registry.specs.Roots.{State}
use Rattle.wm_registry.specs.declared.version.Version.TheVariants.{Two}
use Rattle.wm_store.proofs.Keepers.{format_memory, format_kinds}
use Rattle.wm_store.proofs.formatting.format.Goals as goal

pub returns-clause-first : goal.returns-clause-first
returns-clause-first g c = λ h. subst (λ (s : State). OnOk c.format.result (IsFirstFile sizes_2 (slot_bytes (watches Two).state 1 s) (g.D.Disk.seen c.format.new.disk))) (c.new-first.ensures ∙ c.new.ensures) (c.format.ensures.first h)

pub returns-clause-memory : goal.returns-clause-memory
returns-clause-memory g c = format_memory _ c.format.result c.format.ensures.refused

pub returns-clause-kinds : goal.returns-clause-kinds
returns-clause-kinds g c = format_kinds _ c.format.result c.format.ensures.refused

pub returns-clause-formatted : goal.returns-clause-formatted
returns-clause-formatted g c = λ h. subst (λ (s : State). OnOk c.format.result (Means (watches Two) (g.D.Disk.seen c.format.new.disk) A 1 s [])) (c.new-first.ensures ∙ c.new.ensures) (c.format.ensures.formatted h)
