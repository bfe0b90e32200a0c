use Rattle.std.proofs.Common.{rules, tests, ◌==◌}
use Rattle.std.proofs.lemmas.Iterator.Search.{all_from_yields_List}
use Rattle.std.proofs.lemmas.Iterator.Splits.{YieldsList-from_slice_split}
use Rattle.wm_names.specs.Paths.{is_component}
use Rattle.wm_names.proofs.components.are_components.Goals as goal

pub returns : goal.returns
returns c =
    all_from_yields_List is_component _ _ c.all.result c.all.ensures.ran
    (YieldsList-from_slice_split _ (λ b. b == 47) c.args.rest.now c.split.ensures.rest c.split.ensures.done c.split.ensures.closure (λ x r q k. search (rules, tests)))
    (λ x b q k. search rules)
