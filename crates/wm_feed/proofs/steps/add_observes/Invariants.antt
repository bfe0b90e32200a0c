use Rattle.std.proofs.Common.{◌≡◌, ◌++◌, List, length, map, true}
use Rattle.wm_names.specs.Paths.{Path}
use Rattle.std.specs.List.{flat_map, list_all}
use Rattle.wm_feed.specs.Steps.{is_short, observe, step_in}
use Rattle.wm_feed.proofs.steps.add_observes.Given as goal

abbrev pub invariant-loop-rest : goal.invariant-loop-rest
invariant-loop-rest l =
    (lists : List (List Path)) × (map step_in l.steps.items ≡ map step_in l.initial.steps.items ++ map (λ list. observe list) lists)
    × (flat_map (λ list. list) lists ++ l.rest ≡ l.fn.paths)
    × (list_all is_short lists ≡ true)

abbrev pub decreases-loop-rest : goal.decreases-loop-rest
decreases-loop-rest l = length l.rest
