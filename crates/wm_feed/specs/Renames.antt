-- The places that the name of a folder may stand for once folders were renamed.
use Rattle.std.specs.Prelude.{◌≡◌, ◌≤◌, ℕ, not, ◌++◌, ◌∷◌, [], Bool, true, false, ◌&&◌, ◌||◌, List, Option, Some, None, drop, length, nat_lt, if◌then◌else◌}
use Rattle.std.specs.List.{list_all, list_any, position, remove, slice_get}
use Rattle.std.specs.Str.{bytes_eq}
use Rattle.wm_names.specs.Paths.{Path, is_rel_path, is_under, same_path}
use Rattle.wm_feed.specs.Batches.{entry_path}
use Rattle.wm_feed.specs.Records.{Bytes, RecordTells, entry, left, came}

-- ---- what is known of the names

-- a folder that left by a move of this word
pub record Departed : Type 0 where
  pub cookie : Bytes
  pub path : Path

-- a folder that was at one path and then at another
pub record Renamed : Type 0 where
  pub from : Path
  pub to : Path

-- the folders that left and weren't seen to arrive, and those that were renamed
pub record FolderNames : Type 0 where
  pub departed : List Departed
  pub renamed : List Renamed

-- whether the names can be followed further, and what is known then
pub record Followed : Type 0 where
  pub is_certain : Bool
  pub names : FolderNames

abbrev pub nothing_renamed : FolderNames
nothing_renamed = record { departed = []; renamed = [] }

abbrev pub certain : FolderNames → Followed
certain names = record { is_certain = true; names = names }

abbrev pub uncertain : FolderNames → Followed
uncertain names = record { is_certain = false; names = names }

-- a folder left by a move of this word and didn't come yet
abbrev pub has_departed : Bytes → FolderNames → Bool
has_departed cookie names = list_any (λ one. bytes_eq one.cookie cookie) names.departed

-- a folder left, of which 1,024 are kept
abbrev pub departed_by : Bytes → Path → FolderNames → Followed
departed_by cookie p names =
    if is_rel_path p && nat_lt (length names.departed) 1024
    then certain (record { departed = names.departed ++ record { cookie = cookie; path = p } ∷ []; renamed = names.renamed })
    else uncertain names

-- one of the two was renamed to the other
abbrev pub joins : Path → Path → Renamed → Bool
joins p q one = (same_path one.from p && same_path one.to q) || (same_path one.from q && same_path one.to p)

-- a folder was renamed, of which 4,096 are kept, each pair once
abbrev pub renamed_to : Path → Path → FolderNames → Followed
renamed_to from to names =
    if list_any (λ one. joins from to one) names.renamed
    then certain names
    else if nat_lt (length names.renamed) 4096
    then certain (record { departed = names.departed; renamed = names.renamed ++ record { from = from; to = to } ∷ [] })
    else uncertain names

abbrev pub came_from : Option Departed → Path → FolderNames → Followed
came_from None p names = uncertain names
came_from (Some one) p names = renamed_to one.path p names

-- the first that left by the same word came; one of another word came from elsewhere, and may be any that left or a part of it
abbrev pub came_at : Option ℕ → Path → FolderNames → Followed
came_at None p names = record { is_certain = nat_lt (length names.departed) 1; names = names }
came_at (Some i) p names = came_from (slice_get names.departed i) p (record { departed = remove names.departed i; renamed = names.renamed })

abbrev pub came_by : Bytes → Path → FolderNames → Followed
came_by cookie p names =
    if is_rel_path p
    then came_at (position (λ one. bytes_eq one.cookie cookie) names.departed) p names
    else uncertain names

abbrev pub followed_by : RecordTells → FolderNames → Followed
followed_by (entry folder name (left cookie)) names = departed_by cookie (entry_path folder name) names
followed_by (entry folder name (came cookie)) names = came_by cookie (entry_path folder name) names
followed_by _ names = certain names

-- ---- places

-- where a path is that stood at `from` or below it, once that is at `to`
abbrev pub moved : Path → Path → Path → Option Path
moved from to p =
    if same_path p from then Some to
    else if is_under from p then Some (to ++ drop (length from) p)
    else None

-- the same where a view can hold it
abbrev pub held : Option Path → Option Path
held None = None
held (Some p) = if is_rel_path p then Some p else None

abbrev pub held_moved : Path → Path → Path → Option Path
held_moved from to p = held (moved from to p)

-- a path is among these
abbrev pub is_place : Path → List Path → Bool
is_place p places = list_any (λ q. same_path p q) places

-- so is one that is found, if any is
abbrev pub has : List Path → Option Path → Bool
has places None = true
has places (Some p) = is_place p places

-- one more, where it isn't among them
abbrev pub with_place : Option Path → List Path → List Path
with_place None places = places
with_place (Some p) places = if is_place p places then places else places ++ p ∷ []

-- what a rename joins to a path, in either direction
abbrev pub with_ends : Path → Renamed → List Path → List Path
with_ends p one places = with_place (held_moved one.to one.from p) (with_place (held_moved one.from one.to p) places)

-- with a path there is each one that a rename joins it to
abbrev pub has_next : List Renamed → Path → List Path → Bool
has_next renamed p places = list_all (λ one. has places (held_moved one.from one.to p) && has places (held_moved one.to one.from p)) renamed

abbrev pub AreClosed : List Renamed → List Path → Type 0
AreClosed renamed places = (p : Path) → is_place p places ≡ true → has_next renamed p places ≡ true

-- the fewest paths that have the name and are closed
pub record ArePlaces (renamed : List Renamed) (name : Path) (places : List Path) : Type 0 where
  pub there : is_place name places ≡ true
  pub closed : AreClosed renamed places
  pub fewest : (others : List Path) → is_place name others ≡ true → AreClosed renamed others → (p : Path) → is_place p places ≡ true → is_place p others ≡ true

-- no path stands twice
abbrev pub are_different : List Path → Bool
are_different [] = true
are_different (p ∷ places) = not (is_place p places) && are_different places

-- too many places: each list that has the name and is closed has these different paths, which are 64 at least
pub record StandsForMany (renamed : List Renamed) (name : Path) : Type 0 where
  pub places : List Path
  pub many : 64 ≤ length places
  pub different : are_different places ≡ true
  pub needed : (others : List Path) → is_place name others ≡ true → AreClosed renamed others → (p : Path) → is_place p places ≡ true → is_place p others ≡ true
