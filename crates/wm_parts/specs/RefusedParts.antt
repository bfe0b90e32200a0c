-- The part of a request that is the cause of its refusal.
use Rattle.std.specs.Prelude.{◌||◌, ◌&&◌, not, ℕ, Bool, List, Option, None, Some, codes, is_none, is_some, option_and_then, option_map, unwrap_or, if◌then◌else◌}
use Rattle.std.specs.Option.{option_or}
use Rattle.std.specs.Str.{bytes_eq}
use Rattle.serde_json.specs.Data.{Data, Items, Members, item, member, no_items, no_members, string}
use Rattle.serde_json.specs.Find.{as_array, as_object, as_str, at, get}
use Rattle.serde_json.specs.View.{view}
use Rattle.wm_disk.specs.declared.refusal.Refusal.{Refusal}
use Rattle.wm_disk.specs.declared.refusal.Refusal.TheVariants.{BadCommand, BadArguments, BadPath, BadClock, BadExpression, BadField, BadTrigger}
use Rattle.wm_expr.specs.Patterns.{is_pattern}
use Rattle.wm_expr.specs.Readings.{kept}
use Rattle.wm_lines.specs.Arguments.{text_at}
use Rattle.wm_lines.specs.QueryLines.{has_query_keys}
use Rattle.wm_lines.specs.TriggerLines.{has_known_keys}
use Rattle.wm_names.specs.Entries.{kind_of}
use Rattle.wm_names.specs.Paths.{is_root_path}
use Rattle.wm_since.specs.Fields.{field_of}
use Rattle.wm_parts.specs.RefusedTerms.{refused_term_in, term_form}
use Rattle.wm_parts.specs.RefusedValues.{form_of, key_name, refused_value}
use Rattle.wm_parts.specs.declared.keys.Asking.{Asking}
use Rattle.wm_parts.specs.declared.keys.Asking.TheVariants.{Query, Trigger}
use Rattle.wm_parts.specs.declared.parts.Part.{Part}
use Rattle.wm_parts.specs.declared.parts.Part.TheVariants as parts
use Rattle.wm_parts.specs.declared.values.Key.{Key}
use Rattle.wm_parts.specs.declared.values.Key.TheVariants as keys

-- a part of a request, as clauses see it
pub data PartSeen : Type 0 where
  command_seen : List ℕ → PartSeen
  root_seen : List ℕ → PartSeen
  key_seen : Asking → List ℕ → PartSeen
  value_seen : Key → Data → PartSeen
  term_seen : Data → PartSeen
  misformed_seen : Data → List ℕ → PartSeen
  pattern_seen : List ℕ → PartSeen
  letter_seen : List ℕ → PartSeen
  field_seen : Data → PartSeen
  form_seen : List ℕ → PartSeen

abbrev pub part_seen : Part → PartSeen
part_seen (parts.Command name) = command_seen name.now
part_seen (parts.Root path) = root_seen path.now
part_seen (parts.Key asking key) = key_seen asking key.now
part_seen (parts.Value key value) = value_seen key (view value.now)
part_seen (parts.Term value) = term_seen (view value.now)
part_seen (parts.Misformed value form) = misformed_seen (view value.now) form.now
part_seen (parts.Pattern text) = pattern_seen text.now
part_seen (parts.Letter text) = letter_seen text.now
part_seen (parts.Field value) = field_seen (view value.now)
part_seen (parts.Form form) = form_seen form.now

-- ---- fields and keys

abbrev pub is_field : Data → Bool
is_field d = is_some (option_and_then field_of (as_str d))

-- the first of some values that names no field
abbrev pub first_unknown : Items → Option Data
first_unknown no_items = None
first_unknown (item d ds) = if is_field d then first_unknown ds else Some d

abbrev pub is_query_key : List ℕ → Bool
is_query_key k = bytes_eq k (codes "since") || (bytes_eq k (codes "expression") || (bytes_eq k (codes "fields") || (bytes_eq k (codes "empty_on_fresh_instance") || bytes_eq k (codes "sync_timeout"))))

abbrev pub is_trigger_key : List ℕ → Bool
is_trigger_key k = bytes_eq k (codes "name") || (bytes_eq k (codes "command") || (bytes_eq k (codes "expression") || (bytes_eq k (codes "append_files") || (bytes_eq k (codes "stdin") || bytes_eq k (codes "max_files_stdin")))))

-- what is said of a key that it may not have
abbrev pub keys_said : Asking → List ℕ
keys_said Query = codes "is no key of such a request: these are since, expression, fields, empty_on_fresh_instance and sync_timeout"
keys_said Trigger = codes "is no key of a trigger: these are name, command, expression, append_files, stdin and max_files_stdin"

abbrev pub is_key : Asking → List ℕ → Bool
is_key Query k = is_query_key k
is_key Trigger k = is_trigger_key k

-- the first key that the object of such a request may not have
abbrev pub unknown_key : Asking → Members → Option (List ℕ)
unknown_key asking no_members = None
unknown_key asking (member k d ms) = if is_key asking k then unknown_key asking ms else Some k

abbrev pub unknown_key_in : Asking → Data → Option (List ℕ)
unknown_key_in asking d = option_and_then (unknown_key asking) (as_object d)

-- the reader takes the keys of such an object
abbrev pub takes_keys : Asking → Data → Bool
takes_keys Query d = has_query_keys d
takes_keys Trigger d = has_known_keys d && (is_some (get (codes "name") d) && is_some (get (codes "command") d))

-- ---- requests

-- whose object a request of this name has, and at which place
abbrev pub asking_of : List ℕ → Option (Asking × ℕ)
asking_of name =
    if bytes_eq name (codes "query") then Some (Query, 2)
    else (if bytes_eq name (codes "subscribe") then Some (Query, 3)
    else (if bytes_eq name (codes "trigger") then Some (Trigger, 2)
    else None))

abbrev pub object_of : Data → Option (Asking × Data)
object_of d = option_and_then (λ asked. option_map (λ o. (asked.0, o)) (at asked.1 d)) (option_and_then asking_of (text_at 0 d))

abbrev pub command_part : Data → Option PartSeen
command_part d = option_map command_seen (text_at 0 d)

-- a path that can't be that of a root
abbrev pub refused_root : List ℕ → Option PartSeen
refused_root path = if is_root_path path then None else Some (root_seen path)

abbrev pub root_part : Data → Option PartSeen
root_part d = option_and_then refused_root (text_at 1 d)

abbrev pub key_part : Data → Option PartSeen
key_part d = option_and_then (λ o. option_map (key_seen o.0) (unknown_key_in o.0 o.1)) (object_of d)

-- the text of a `match` that is no pattern
abbrev pub pattern_part : Data → Option PartSeen
pattern_part d = option_map pattern_seen (kept (λ t. not (is_pattern t)) (text_at 1 d))

-- the text of a `type` that is no kind's letter
abbrev pub letter_part : Data → Option PartSeen
letter_part d = option_map letter_seen (kept (λ t. is_none (kind_of t)) (text_at 1 d))

abbrev pub wrong_text_of : Data → List ℕ → Option PartSeen
wrong_text_of d word = if bytes_eq word (codes "match") then pattern_part d else (if bytes_eq word (codes "type") then letter_part d else None)

abbrev pub wrong_text : Data → Option PartSeen
wrong_text d = option_and_then (wrong_text_of d) (text_at 0 d)

-- the word of a term
abbrev pub term_word : Data → Option (List ℕ)
term_word (string word) = Some word
term_word d = text_at 0 d

-- a term that is none, with the form of those of its word if there are some
abbrev pub whole_part : Data → PartSeen
whole_part d = unwrap_or (option_map (misformed_seen d) (option_and_then term_form (term_word d))) (term_seen d)

-- what is wrong in a term: its pattern, its letter, or else all of it
abbrev pub inner_part : Data → PartSeen
inner_part d = unwrap_or (wrong_text d) (whole_part d)

abbrev pub term_part : Data → Option PartSeen
term_part d = option_map inner_part (option_and_then refused_term_in (option_and_then (λ o. get (codes "expression") o.1) (object_of d)))

abbrev pub field_part : Data → Option PartSeen
field_part d = option_map field_seen (option_and_then first_unknown (option_and_then as_array (option_and_then (λ o. get (codes "fields") o.1) (object_of d))))

abbrev pub value_part : Data → Option PartSeen
value_part d = option_map (λ v. value_seen v.0 v.1) (option_and_then (λ o. refused_value o.0 o.1) (object_of d))

-- what the object has at the key
abbrev pub part_at : Key → Data → Option PartSeen
part_at key d = option_map (value_seen key) (option_and_then (λ o. get (key_name key) o.1) (object_of d))

abbrev pub form_part : Data → Option PartSeen
form_part d = option_map form_seen (option_and_then form_of (text_at 0 d))

-- a key, a value that isn't of its kind, or else how such a request is written
abbrev pub argument_part : Data → Option PartSeen
argument_part d = option_or (key_part d) (option_or (value_part d) (form_part d))

-- the part for which a request is refused so
abbrev pub refusing_part : Refusal → Data → Option PartSeen
refusing_part BadCommand d = command_part d
refusing_part BadPath d = root_part d
refusing_part BadArguments d = argument_part d
refusing_part BadTrigger d = argument_part d
refusing_part BadClock d = option_or (part_at keys.Since d) (form_part d)
refusing_part BadExpression d = term_part d
refusing_part BadField d = option_or (field_part d) (part_at keys.Fields d)
refusing_part refusal d = None
