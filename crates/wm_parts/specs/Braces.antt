-- The first pattern with a brace in a request's expression. It stands for itself there, which who writes `*.{c,h}` doesn't mean.
use Rattle.std.specs.Prelude.{◌==◌, ℕ, zero, suc, Bool, List, Option, None, Some, codes, option_and_then, if◌then◌else◌}
use Rattle.std.specs.List.{list_any}
use Rattle.std.specs.Option.{option_or}
use Rattle.std.specs.Str.{bytes_eq}
use Rattle.serde_json.specs.Data.{Data, Items, array, item, no_items, string}
use Rattle.serde_json.specs.Find.{get}
use Rattle.wm_explain.specs.Shown.{shown_text}
use Rattle.wm_expr.specs.Readings.{kept}
use Rattle.wm_parts.specs.PartLines.{named_line}
use Rattle.wm_parts.specs.RefusedParts.{object_of}
use Rattle.wm_parts.specs.RefusedTerms.{holds_terms}

-- a text has an opening brace (123)
abbrev pub has_brace : List ℕ → Bool
has_brace text = list_any (λ b. b == 123) text

-- the text that stands first, if it has a brace
abbrev pub braced_text : Items → Option (List ℕ)
braced_text (item (string text) ds) = kept has_brace (Some text)
braced_text ds = None

abbrev mutual
  -- the first pattern with a brace in a term, whose parts stand at most so deep
  pub braced : ℕ → Data → Option (List ℕ)
  braced zero d = None
  braced (suc levels) (array ds) = braced_list levels ds
  braced (suc levels) d = None

  pub braced_list : ℕ → Items → Option (List ℕ)
  braced_list levels (item (string word) ds) = if bytes_eq word (codes "match") then braced_text ds else (if holds_terms word then first_braced levels ds else None)
  braced_list levels ds = None

  pub first_braced : ℕ → Items → Option (List ℕ)
  first_braced levels no_items = None
  first_braced levels (item d ds) = option_or (braced levels d) (first_braced levels ds)

-- the same of what stands behind a word
abbrev pub braced_behind : ℕ → List ℕ → Items → Option (List ℕ)
braced_behind levels word ds = if bytes_eq word (codes "match") then braced_text ds else (if holds_terms word then first_braced levels ds else None)

-- the first pattern with a brace in a request's expression, which is 32 levels deep at most
abbrev pub braced_in : Data → Option (List ℕ)
braced_in d = option_and_then (braced 32) (option_and_then (λ o. get (codes "expression") o.1) (object_of d))

abbrev pub braces_line : List ℕ → List ℕ
braces_line pattern = named_line (shown_text pattern) (codes "has braces, which stand for themselves in a pattern: for a choice write a pattern each, as [\"anyof\",[\"match\",\"*.c\"],[\"match\",\"*.md\"]]")
