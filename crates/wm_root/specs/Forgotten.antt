-- What is forgotten of a root's view, by the floor of that: the tick of the last deletion that was forgotten.
use Rattle.std.specs.Prelude.{ℕ, Bool, nat_lt, Option, Some, None, if◌then◌else◌}
use Rattle.wm_share.specs.PublishedLists.{PublishedList, history}

-- the floor of what was published last; 0 if nothing was
abbrev pub floor_last : Option PublishedList → ℕ
floor_last None = 0
floor_last (Some list) = (history list).floor

-- the number after, if it is greater than the one before
abbrev pub if_greater : (before after : ℕ) → Option ℕ
if_greater before after = if nat_lt before after then Some after else None

-- the floor after what was published, if it rose
abbrev pub risen_floor : (before after : Option PublishedList) → Option ℕ
risen_floor before after = if_greater (floor_last before) (floor_last after)

-- an operation of the root of a number: whether it was published, and the floor if that rose with it
pub record RootChange : Type 0 where
  pub root : ℕ
  pub is_published : Bool
  pub forgot : Option ℕ
