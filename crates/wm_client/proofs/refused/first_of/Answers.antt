use Rattle.std.proofs.Common.{◌∙◌, ◌||◌, ap₂, sym}
use Rattle.std.proofs.lemmas.List.Folds.{list_any_more}
use Rattle.wm_disk.specs.declared.refusal.Refusal.TheVariants.{BadLine}
use Rattle.wm_client.specs.RefusalLines.{is_refused_by}
use Rattle.wm_client.proofs.refused.first_of.Goals as goal

pub loop-refusal-preserved : goal.loop-refusal-preserved
loop-refusal-preserved c =
    list_any_more (λ r. is_refused_by r c.args.line.now) c.args.refusals.now c.loop-refusal.refusal-index BadLine c.loop-refusal-test.true
    ∙ ap₂ (λ a b. a || b) c.loop-refusal.invariant (sym c.is_of.ensures ∙ c.if-is_of.false)
