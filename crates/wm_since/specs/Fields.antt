-- The fields that an answer may tell of a file, and lists of their names.
use Rattle.std.specs.Prelude.{ℕ, Bool, true, not, ◌&&◌, List, [], ◌∷◌, length, nat_lt, codes, Option, Some, None, is_some, if◌then◌else◌}
use Rattle.std.specs.List.{filter, find, list_all, list_any}
use Rattle.std.specs.Ordering.{nat_cmp, is_lt}
use Rattle.std.specs.Cmp.Lexicographic.{slice_cmp}
use Rattle.std.specs.Str.{bytes_eq}
use Rattle.wm_since.specs.declared.field.Field.{Field}
use Rattle.wm_since.specs.declared.field.Field.TheVariants.{Name, Exists, New, Size, «Type», MtimeMs, Cclock, Oclock}

abbrev pub field_name : Field → List ℕ
field_name Name = codes "name"
field_name Exists = codes "exists"
field_name New = codes "new"
field_name Size = codes "size"
field_name «Type» = codes "type"
field_name MtimeMs = codes "mtime_ms"
field_name Cclock = codes "cclock"
field_name Oclock = codes "oclock"

-- in the order of the bytes of their names
abbrev pub by_name : List Field
by_name = Cclock ∷ Exists ∷ MtimeMs ∷ Name ∷ New ∷ Oclock ∷ Size ∷ «Type» ∷ []

-- the field with that name
abbrev pub field_of : List ℕ → Option Field
field_of name = find (λ x. bytes_eq name (field_name x)) by_name

-- what is told where a question names no fields
abbrev pub default_fields : List Field
default_fields = Exists ∷ Name ∷ New ∷ Size ∷ []

-- ---- lists of names

abbrev pub are_known : List (List ℕ) → Bool
are_known names = list_all (λ n. is_some (field_of n)) names

abbrev pub is_among : List ℕ → List (List ℕ) → Bool
is_among name names = list_any (λ n. bytes_eq n name) names

-- none stands there twice
abbrev pub are_distinct : List (List ℕ) → Bool
are_distinct [] = true
are_distinct (n ∷ ns) = not (is_among n ns) && are_distinct ns

abbrev pub are_fields : List (List ℕ) → Bool
are_fields names = nat_lt 0 (length names) && (are_known names && are_distinct names)

-- the fields that the list names, by their names, and `None` where one is unknown or stands there twice, or there is none
abbrev pub fields_of : List (List ℕ) → Option (List Field)
fields_of names = if are_fields names then Some (filter (λ x. is_among (field_name x) names) by_name) else None

-- ---- the order of fields

-- the field's name comes before those of the others
abbrev pub is_before : Field → List Field → Bool
is_before x others = list_all (λ y. is_lt (slice_cmp nat_cmp (field_name x) (field_name y))) others

abbrev pub are_ordered : List Field → Bool
are_ordered [] = true
are_ordered (x ∷ others) = is_before x others && are_ordered others
