use Rattle.std.proofs.Common.{rules, tests, ◌==◌, ◌∙◌}
use Rattle.std.proofs.lemmas.Iterator.Consumers.{YieldsList-from_rest}
use Rattle.std.proofs.lemmas.Iterator.Search.{any_from_yields_List}
use Rattle.wm_registry.proofs.States.{list_any-values}
use Rattle.wm_registry.proofs.wire.has_number.Goals as goal

pub returns : goal.returns
returns c =
    any_from_yields_List (λ r. r.number == c.args.number) _ _ c.any.result c.any.ensures.ran (YieldsList-from_rest _ c.values.ensures.rest) (λ x b q k. search (rules, tests))
    ∙ list_any-values (λ r. r.number == c.args.number) c.args.roots.now.entries
