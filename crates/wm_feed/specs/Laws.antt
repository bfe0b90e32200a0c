-- What holds of every record and every batch.
use Rattle.std.specs.Prelude.{◌≡◌, ℕ, Bool, true, false, not, List, [], ◌∷◌, ◌++◌, ◌==◌, Some, codes}
use Rattle.std.specs.List.{list_all, list_any}
use Rattle.std.specs.Str.{is_utf8}
use Rattle.wm_names.specs.Paths.{Path, is_rel_path, same_path}
use Rattle.wm_feed.specs.Records.{Bytes, RecordTells, Happened, happened_in, entry, doubt, has, is_lost, record_of, record_tells}
use Rattle.wm_feed.specs.Batches.{Gathered, changes_holder, gathered_by, entry_path}

-- what inotifywait writes for a folder, events, the word of a move and a name
abbrev pub written : Bytes → Bytes → Bytes → Bytes → Bytes
written folder events cookie name = folder ++ 0 ∷ (events ++ 0 ∷ (cookie ++ 0 ∷ 47 ∷ (name ++ 0 ∷ [])))

-- no path, no event, no word and no name holds a zero byte
abbrev pub no_zero : Bytes → Bool
no_zero bytes = list_all (λ b. not (b == 0)) bytes

-- a record that is written is read as what was written, whatever else stands in its names
abbrev pub WrittenIsRead : Type 0
WrittenIsRead = (folder events cookie name : Bytes) → no_zero folder ≡ true → no_zero events ≡ true → no_zero cookie ≡ true → no_zero name ≡ true
    → record_of (written folder events cookie name) ≡ Some (record { folder = folder; events = events; cookie = cookie; name = name })

-- lost events are a doubt, wherever they are told
abbrev pub LostIsDoubted : Type 0
LostIsDoubted = (root folder events cookie name : Bytes) → no_zero folder ≡ true → no_zero events ≡ true → no_zero cookie ≡ true → no_zero name ≡ true
    → has events (codes "Q_OVERFLOW") ≡ true → record_tells root (written folder events cookie name) ≡ doubt

-- the path of a folder below a root as inotifywait writes it, with a slash at the end; the root's own where the second is empty
abbrev pub folder_path : Bytes → Bytes → Bytes
folder_path root [] = root ++ 47 ∷ []
folder_path root (b ∷ below) = root ++ 47 ∷ ((b ∷ below) ++ 47 ∷ [])

-- what happens to a name in a folder is told of that name in that folder, unless events were lost
abbrev pub EntryIsTold : Type 0
EntryIsTold = (root below events cookie : Bytes) (b : ℕ) (name : Bytes) → no_zero (folder_path root below) ≡ true → no_zero events ≡ true
    → no_zero cookie ≡ true → no_zero (b ∷ name) ≡ true → is_lost events ≡ false → is_utf8 below ≡ true → is_utf8 (b ∷ name) ≡ true
    → record_tells root (written (folder_path root below) events cookie (b ∷ name)) ≡ entry below (b ∷ name) (happened_in events cookie)

-- ---- batches

abbrev pub is_asked_path : Path → List Path → Bool
is_asked_path p paths = list_any (λ q. same_path p q) paths

-- no path that was asked for is dropped
abbrev pub NoneIsDropped : Type 0
NoneIsDropped = (t : RecordTells) (a : Gathered) (p : Path) → is_asked_path p a.paths ≡ true → is_asked_path p (gathered_by t a).paths ≡ true

-- an entry asks for itself, and for its folder if that changed too, or for the whole root
abbrev pub EntryAsksForBoth : Type 0
EntryAsksForBoth = (folder name : Path) (b : Happened) (a : Gathered) → (gathered_by (entry folder name b) a).is_whole ≡ false
    → (changes_holder b ≡ true → is_rel_path folder ≡ true → is_asked_path folder (gathered_by (entry folder name b) a).paths ≡ true)
    × (is_rel_path (entry_path folder name) ≡ true → is_asked_path (entry_path folder name) (gathered_by (entry folder name b) a).paths ≡ true)
