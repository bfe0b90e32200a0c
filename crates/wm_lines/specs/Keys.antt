-- The keys of objects in lines.
use Rattle.std.specs.Prelude.{ℕ, suc, Bool, true, false, ◌==◌, Option, Some, None, option_map, option_and_then, unwrap_or, is_some, if◌then◌else◌}
use Rattle.serde_json.specs.Data.{Data, Members, no_members, member}
use Rattle.serde_json.specs.Find.{at, as_bool, as_object}

abbrev pub members_len : Members → ℕ
members_len no_members = 0
members_len (member key d ms) = suc (members_len ms)

-- an object with so many keys
abbrev pub has_keys : ℕ → Data → Bool
has_keys n d = unwrap_or (option_map (λ ms. members_len ms == n) (as_object d)) false

abbrev pub one_if : Bool → ℕ
one_if true = 1
one_if false = 0

-- false where it is missing
abbrev pub flag_in : Option Data → Option Bool
flag_in None = Some false
flag_in (Some d) = as_bool d

-- the object at a place
abbrev pub object_at : ℕ → Data → Option Data
object_at i d = option_and_then (λ v. if is_some (as_object v) then Some v else None) (at i d)
