-- Words of private clauses: the tokens of a file, and the text of some files.
use Rattle.std.specs.Prelude.{◌≡◌, ℕ, Bool, List, ◌++◌, length, map, take}
use Rattle.json.specs.Token.{Token}
use Rattle.json.specs.Tree.{json_tokens, members_tokens}
use Rattle.serde_json.specs.Data.{Data, Members, array}
use Rattle.serde_json.specs.View.{items_of}
use Rattle.serde_json.specs.Written.{comma_if, compact_text, members_outline, outline}
use Rattle.wm_clock.specs.declared.clock_id.ClockId.{ClockId}
use Rattle.wm_since.specs.declared.field.Field.{Field}
use Rattle.wm_since.specs.declared.listed.Listed.{Listed}
use Rattle.wm_since.specs.Rendered.{file_data}

abbrev pub tokens_of : Data → List Token
tokens_of d = json_tokens (outline d)

-- with the closing brace
abbrev pub members_tokens_of : Members → List Token
members_tokens_of ms = members_tokens (members_outline ms)

-- a text, after a comma where it isn't the first
abbrev pub item_text : Bool → List ℕ → List ℕ
item_text is_later text = comma_if is_later ++ text

abbrev pub files_text : List Field → ClockId → List Listed → List ℕ
files_text fields clock files = compact_text (array (items_of (map (file_data fields clock) files)))

-- what stood there still stands in front
abbrev pub KeepsTextPrefix : List ℕ → List ℕ → Type 0
KeepsTextPrefix old new = take (length old) new ≡ old
