-- Reading each item of an array in turn.
use Rattle.std.proofs.Common.{List, ◌++◌}
use Rattle.std.specs.Prelude.{Option, option_map}

-- what was read before, and the rest
abbrev pub put_before : {X : Type 0} → List X → Option (List X) → Option (List X)
put_before front r = option_map (λ rest. front ++ rest) r
