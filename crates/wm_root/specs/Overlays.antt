-- What was observed of a root while it was read, and the listing that is handed to the view then.
use Rattle.std.specs.Prelude.{◌≡◌, ℕ, Bool, true, false, List, Option, unwrap_or}
use Rattle.std.specs.FinMap.{find}
use Rattle.wm_names.specs.Entries.{covers}
use Rattle.wm_names.specs.Paths.{Path, path_cmp}
use Rattle.wm_names.specs.declared.entry.Meta.{Meta}
use Rattle.wm_view.specs.Files.{at}
use Rattle.wm_view.specs.Listings.{Found}

-- of each path that was observed since the reading began, what was observed last: its metadata, or that it isn't there; and whether an observation was left out
pub record Noted : Type 0 where
  pub states : List (Path × Option Meta)
  pub incomplete : Bool

-- all that was observed
abbrev pub noted : List (Path × Option Meta) → Noted
noted states = record { states = states; incomplete = false }

-- the most paths that are noted
abbrev pub max_observed : ℕ
max_observed = 65536

-- the state of a path at the end of the reading: what was observed last of it, and else what was read
abbrev pub overlaid_state : Noted → Path → Option Meta → Option Meta
overlaid_state n p read = unwrap_or (find path_cmp p n.states) read

-- the listing of the same part has each path of it in its state at the end of the reading
abbrev pub IsOverlaid : Noted → Found → Found → Type 0
IsOverlaid n read result = (result.subtree ≡ read.subtree) × ((p : Path) → covers read.subtree p ≡ true → at result.files p ≡ overlaid_state n p (at read.files p))
