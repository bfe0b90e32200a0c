use Rattle.std.proofs.Common.{◌≡◌, ◌∷◌, map, take}
use Rattle.std.specs.Prelude.{codes, option_map, string_bytes}
use Rattle.serde_json.specs.Data.{string}
use Rattle.serde_json.specs.View.{view}
use Rattle.wm_commands.specs.Questions.{pattern_data}
use Rattle.wm_commands.proofs.questions.any_of.Given as goal

abbrev pub invariant-loop-pattern : goal.invariant-loop-pattern
invariant-loop-pattern l = map view l.terms.items ≡ string (codes "anyof") ∷ map (pattern_data (option_map (λ b. b.now) l.below)) (map string_bytes (take l.pattern-index l.patterns))
