-- Which cause a refusal has, by what the program did and what is found at the path afterwards.
use Rattle.std.specs.Prelude.{List, ℕ, Bool, true, false, Option, None, Some, nat_lt, option_map, if◌then◌else◌}
use Rattle.std.specs.Str.{bytes_eq}
use Rattle.wm_disk.specs.Refusals.{refusal_text}
use Rattle.wm_disk.specs.declared.refusal.Refusal.{Refusal}
use Rattle.wm_disk.specs.declared.refusal.Refusal.TheVariants as refusals
use Rattle.wm_explain.specs.declared.causes.Doing.{Doing}
use Rattle.wm_explain.specs.declared.causes.Doing.TheVariants.{Opening, Making, Moving, Filling}
use Rattle.wm_explain.specs.declared.causes.End.{End}
use Rattle.wm_explain.specs.declared.causes.End.TheVariants.{Server, Client}
use Rattle.wm_explain.specs.declared.found.Found.{Found}
use Rattle.wm_explain.specs.declared.found.Found.TheVariants.{Nothing, NoFolder, Denied, Folder, File, Served, Unserved}
use Rattle.wm_explain.specs.declared.found.Head.{Head}
use Rattle.wm_explain.specs.declared.found.Head.TheVariants.{Foreign, VersionOne, VersionTwo}
use Rattle.wm_explain.specs.declared.found.Lock.{Lock}
use Rattle.wm_explain.specs.declared.found.Lock.TheVariants.{Free, Unknown, Watchmand, Program}
use Rattle.wm_explain.specs.declared.lines.Cause.{Cause}
use Rattle.wm_explain.specs.declared.lines.Cause.TheVariants as causes
use Rattle.wm_explain.specs.declared.lines.Trouble.{Trouble}
use Rattle.wm_explain.specs.declared.lines.Trouble.TheVariants as troubles

-- a regular file is there that begins as a state file
abbrev pub begins_as_state : Found → Bool
begins_as_state (File lock Foreign) = false
begins_as_state (File lock head) = true
begins_as_state found = false

-- the refusal of a start whose text this is, of those that a file or a socket may explain
abbrev pub refusal_said : List ℕ → Option Refusal
refusal_said text =
    if bytes_eq text (refusal_text refusals.DeviceFailed) then Some refusals.DeviceFailed
    else (if bytes_eq text (refusal_text refusals.Damaged) then Some refusals.Damaged
    else (if bytes_eq text (refusal_text refusals.Retired) then Some refusals.Retired
    else None))

-- ---- a file that can't be opened, or used

abbrev pub by_holder : Lock → Option Cause
by_holder Free = None
by_holder Unknown = Some (causes.Fixed troubles.Locked)
by_holder (Watchmand process) = Some (causes.Watchmand process)
by_holder (Program process) = Some (causes.Program process)

abbrev pub missing : Doing → Cause
missing Opening = causes.NoFile
missing Making = causes.Fixed troubles.NotMade
missing Moving = causes.Fixed troubles.NoSuchFile
missing Filling = causes.Fixed troubles.NoTarget

abbrev pub unopened : Doing → Found → Option Cause
unopened doing Nothing = Some (missing doing)
unopened doing NoFolder = Some (causes.Fixed troubles.NoFolder)
unopened doing Denied = Some (causes.Fixed troubles.Denied)
unopened doing Folder = Some (causes.Fixed troubles.IsFolder)
unopened doing (File lock head) = by_holder lock
unopened doing found = Some (causes.Fixed troubles.NoRegularFile)

-- a file that can't be made
abbrev pub unmade : Found → Cause
unmade Nothing = causes.Fixed troubles.NotMade
unmade NoFolder = causes.Fixed troubles.NoFolder
unmade Denied = causes.Fixed troubles.Denied
unmade found = causes.Fixed troubles.IsThere

-- ---- a file that was opened, and can't be read as it should be

abbrev pub misread : Doing → Head → Option Cause
misread doing Foreign = Some (causes.Fixed troubles.NoStateFile)
misread Opening head = Some causes.Damaged
misread Filling head = Some (causes.Fixed troubles.NotTarget)
misread Moving VersionTwo = Some (causes.Fixed troubles.HasMoved)
misread Moving VersionOne = Some (causes.Fixed troubles.IsDamaged)
misread doing head = None

abbrev pub unread : Doing → Found → Option Cause
unread doing (File lock head) = misread doing head
unread doing found = None

-- Retired: the file of a start. Other refusals aren't explained by a file.
abbrev pub file_cause : Refusal → Doing → Found → Option Cause
file_cause refusals.DeviceFailed Making found = Some (unmade found)
file_cause refusals.DeviceFailed doing found = unopened doing found
file_cause refusals.Damaged doing found = unread doing found
file_cause refusals.Retired Opening found = Some (causes.Fixed troubles.IsRetired)
file_cause refusal doing found = None

-- ---- a socket

abbrev pub no_listener : Found → Trouble
no_listener Nothing = troubles.NotMade
no_listener NoFolder = troubles.NoFolder
no_listener Denied = troubles.Denied
no_listener Unserved = troubles.Denied
no_listener Served = troubles.Listened
no_listener found = troubles.NoSocket

abbrev pub no_talk : Found → Option Trouble
no_talk Nothing = Some troubles.NoServer
no_talk NoFolder = Some troubles.NoFolder
no_talk Denied = Some troubles.Denied
no_talk Unserved = Some troubles.Unserved
no_talk Served = None
no_talk found = Some troubles.NoSocket

abbrev pub end_cause : End → Found → Option Cause
end_cause Server found = Some (causes.Fixed (no_listener found))
end_cause Client found = option_map (λ t. causes.Fixed t) (no_talk found)

-- a path of more than 107 bytes can't be a socket's
abbrev pub socket_cause : End → (length : ℕ) → Found → Option Cause
socket_cause end length found = if nat_lt 107 length then Some (causes.LongPath length) else end_cause end found
