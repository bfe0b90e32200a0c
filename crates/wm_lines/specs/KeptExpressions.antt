-- Expressions that are kept with triggers, as texts.
use Rattle.std.specs.Prelude.{ℕ, List, Bool, true, Option, Some, None, option_map, is_some, unwrap_or, Result, Ok, Err, if◌then◌else◌}
use Rattle.std.specs.List.{list_all}
use Rattle.serde_json.specs.Data.{Data, string}
use Rattle.serde_json.specs.Read.{read}
use Rattle.serde_json.specs.Written.{compact_text}
use Rattle.wm_disk.specs.declared.refusal.Refusal.{Refusal}
use Rattle.wm_disk.specs.declared.refusal.Refusal.TheVariants.{BadExpression}
use Rattle.wm_expr.specs.Readings.{expression_of, kept}
use Rattle.wm_registry.specs.Roots as registry
use Rattle.wm_registry.specs.Triggers.{Definition}

abbrev pub is_expression : Data → Bool
is_expression d = is_some (expression_of d)

-- the text that is kept, compact JSON; none where the expression is missing
abbrev pub kept_text : Option Data → Result (Option (List ℕ)) Refusal
kept_text None = Ok None
kept_text (Some d) = if is_expression d then Ok (Some (compact_text d)) else Err BadExpression

-- the JSON value of a text that is an expression
abbrev pub expression_in : List ℕ → Option Data
expression_in text = kept is_expression (read text)

-- as JSON; a text that is no expression stays a text
abbrev pub expression_shown : List ℕ → Data
expression_shown text = unwrap_or (expression_in text) (string text)

abbrev pub has_expression : Definition → Bool
has_expression t = unwrap_or (option_map (λ text. is_some (expression_in text)) t.expression) true

-- each text that is kept with a trigger is an expression
abbrev pub have_expressions : registry.State → Bool
have_expressions s = list_all (λ root. list_all has_expression root.1.triggers) s.roots
