-- What a record of inotifywait tells of a root. It is written by the format `%w%0%e%0%c%0/%f%0`: the folder in which something
-- happened, what happened, a word that the two records of one move share, and the name there behind a slash, a zero byte behind
-- each. A folder's path ends with a slash.
use Rattle.std.specs.Prelude.{ℕ, Bool, ◌||◌, List, [], ◌∷◌, ◌+◌, ◌-◌, ◌==◌, Option, Some, None, option_map, option_and_then, take, drop, length, codes, if◌then◌else◌}
use Rattle.std.specs.List.{list_any, position, slice_split}
use Rattle.std.specs.Str.{bytes_eq, is_utf8}
use Rattle.wm_feed.specs.declared.record.Told.{Told}
use Rattle.wm_feed.specs.declared.record.Told.TheVariants as told
use Rattle.wm_feed.specs.declared.record.Change.{Change}
use Rattle.wm_feed.specs.declared.record.Change.TheVariants as changes
use Rattle.wm_feed.specs.declared.record.Parts.{Parts}

abbrev pub Bytes : Type 0
Bytes = List ℕ

-- what happened to an entry: to the content of a file, or to what is known of it; a file was made, removed or renamed; something to a
-- folder; a folder was made or removed, or left or came by a move of this word
pub data Happened : Type 0 where
  content_changed : Happened
  file_changed : Happened
  folder_changed : Happened
  made : Happened
  removed : Happened
  left : Bytes → Happened
  came : Bytes → Happened

-- what a `Change` of the code says
abbrev pub change_in : Change → Happened
change_in changes.Content = content_changed
change_in changes.File = file_changed
change_in changes.Folder = folder_changed
change_in changes.Made = made
change_in changes.Removed = removed
change_in (changes.Left cookie) = left cookie.now
change_in (changes.Came cookie) = came cookie.now

pub data RecordTells : Type 0 where
  nothing : RecordTells
  -- this folder below the root, this name in it, and what happened to it
  entry : Bytes → Bytes → Happened → RecordTells
  -- this folder alone
  folder_alone : Bytes → RecordTells
  doubt : RecordTells

-- what a `Told` of the code says
abbrev pub tells_of : Told → RecordTells
tells_of told.Nothing = nothing
tells_of (told.Entry folder name change) = entry folder.now name.now (change_in change)
tells_of (told.Folder folder) = folder_alone folder.now
tells_of told.Doubt = doubt

-- the same of another folder
abbrev pub told_elsewhere : Bytes → RecordTells → RecordTells
told_elsewhere other (entry _ name change) = entry other name change
told_elsewhere other (folder_alone _) = folder_alone other
told_elsewhere other nothing = nothing
told_elsewhere other doubt = doubt

-- ---- the parts of a record

pub record Record : Type 0 where
  pub folder : Bytes
  pub events : Bytes
  pub cookie : Bytes
  pub name : Bytes

-- what a `Parts` of the code says
abbrev pub record_in : Parts → Record
record_in parts = record { folder = parts.folder.now; events = parts.events.now; cookie = parts.cookie.now; name = parts.name.now }

-- what stands before the first zero byte, and behind it
abbrev pub cut_of : Bytes → Option (Bytes × Bytes)
cut_of bytes = option_map (λ i. (take i bytes, drop (i + 1) bytes)) (position (λ b. b == 0) bytes)

-- a name behind a slash (47), where nothing else follows
abbrev pub name_of : Bytes → Bytes → Option Bytes
name_of (b ∷ name) [] = if b == 47 then Some name else None
name_of _ _ = None

abbrev pub with_name : Bytes → Bytes → Bytes → Option (Bytes × Bytes) → Option Record
with_name folder events cookie None = None
with_name folder events cookie (Some p) = option_map (λ name. record { folder = folder; events = events; cookie = cookie; name = name }) (name_of p.0 p.1)

abbrev pub with_cookie : Bytes → Bytes → Option (Bytes × Bytes) → Option Record
with_cookie folder events None = None
with_cookie folder events (Some p) = with_name folder events p.0 (cut_of p.1)

abbrev pub with_events : Bytes → Option (Bytes × Bytes) → Option Record
with_events folder None = None
with_events folder (Some p) = with_cookie folder p.0 (cut_of p.1)

abbrev pub with_folder : Option (Bytes × Bytes) → Option Record
with_folder None = None
with_folder (Some p) = with_events p.0 (cut_of p.1)

abbrev pub record_of : Bytes → Option Record
record_of bytes = with_folder (cut_of bytes)

-- ---- what happened

-- the events are told one behind the other, with commas (44) between them
abbrev pub has : Bytes → Bytes → Bool
has events event = list_any (λ one. bytes_eq one event) (slice_split (λ b. b == 44) events)

-- events were lost, or the file system is gone
abbrev pub is_lost : Bytes → Bool
is_lost events = has events (codes "Q_OVERFLOW") || has events (codes "UNMOUNT")

-- the watched folder itself is no longer where it was
abbrev pub is_own_end : Bytes → Bool
is_own_end events = has events (codes "DELETE_SELF") || has events (codes "MOVE_SELF")

-- an entry was made, removed or renamed, so that its folder changed too
abbrev pub is_listed_anew : Bytes → Bool
is_listed_anew events = has events (codes "CREATE") || has events (codes "DELETE") || has events (codes "MOVED_FROM") || has events (codes "MOVED_TO")

-- what happened to an entry that is no folder
abbrev pub happened_to_file : Bytes → Happened
happened_to_file events = if is_listed_anew events then file_changed else content_changed

-- what happened to an entry
abbrev pub happened_in : Bytes → Bytes → Happened
happened_in events cookie =
    if has events (codes "ISDIR")
    then (if has events (codes "MOVED_FROM") then left cookie
    else if has events (codes "MOVED_TO") then came cookie
    else if has events (codes "CREATE") then made
    else if has events (codes "DELETE") then removed
    else folder_changed)
    else happened_to_file events

-- ---- where

-- what follows the root's path
abbrev pub behind_root : Bytes → Bytes → Option Bytes
behind_root root folder = if bytes_eq (take (length root) folder) root then Some (drop (length root) folder) else None

-- without the slash at the end, which only an empty path lacks
abbrev pub without_last_slash : Bytes → Option Bytes
without_last_slash [] = Some []
without_last_slash (x ∷ xs) =
    let path : Bytes = x ∷ xs in
    if bytes_eq (drop (length path - 1) path) (codes "/") then Some (take (length path - 1) path) else None

-- between the slashes in front and at the end
abbrev pub inner_path : Bytes → Option Bytes
inner_path [] = None
inner_path (b ∷ path) = if b == 47 then without_last_slash path else None

-- the path below the root, empty for the root itself
abbrev pub below_of : Bytes → Bytes → Option Bytes
below_of root folder = option_and_then inner_path (behind_root root folder)

-- ---- what is told

-- a folder that moves is a doubt where its folder or its name isn't a text: the folders in it may be told by that name from then on
abbrev pub told_other : RecordTells → Happened → RecordTells
told_other told (left _) = doubt
told_other told (came _) = doubt
told_other told _ = told

-- a view holds texts alone
abbrev pub told_happened : Bytes → Bytes → Happened → RecordTells
told_happened folder name change =
    if is_utf8 folder
    then (if is_utf8 name then entry folder name change else told_other (folder_alone folder) change)
    else told_other nothing change

-- something happened to a watched folder itself: what that tells of any but the root, the folder above tells too
abbrev pub own_of : Bytes → Bytes → RecordTells
own_of [] events = if is_own_end events then doubt else nothing
own_of (b ∷ folder) events = nothing

abbrev pub at_name : Bytes → Bytes → Bytes → Bytes → RecordTells
at_name folder events cookie [] = own_of folder events
at_name folder events cookie (b ∷ name) = told_happened folder (b ∷ name) (happened_in events cookie)

abbrev pub at_folder : Option Bytes → Bytes → Bytes → Bytes → RecordTells
at_folder None events cookie name = doubt
at_folder (Some folder) events cookie name = at_name folder events cookie name

abbrev pub of_record : Bytes → Option Record → RecordTells
of_record root None = doubt
of_record root (Some r) = if is_lost r.events then doubt else at_folder (below_of root r.folder) r.events r.cookie r.name

abbrev pub record_tells : Bytes → Bytes → RecordTells
record_tells root bytes = of_record root (record_of bytes)
