-- What is said of a refusal that no part of the request explains: why it came, and what to do.
use Rattle.std.specs.Prelude.{◌≡◌, ◌++◌, ℕ, List, Option, None, Some, Result, Ok, Err, codes}
use Rattle.serde_json.specs.Data.{Data}
use Rattle.wm_disk.specs.declared.refusal.Refusal.{Refusal}
use Rattle.wm_disk.specs.declared.refusal.Refusal.TheVariants as refusals
use Rattle.wm_lines.specs.declared.recrawl.ServerRequest.{ServerRequest}
use Rattle.wm_parts.specs.PartLines.{IsLineOf, no_json}
use Rattle.wm_parts.specs.RefusedParts.{PartSeen, refusing_part}
use Rattle.wm_parts.specs.RequestKinds.{kind_of_request}
use Rattle.wm_parts.specs.declared.kinds.RequestKind.{RequestKind}
use Rattle.wm_parts.specs.declared.kinds.RequestKind.TheVariants as kinds

abbrev pub at_too_many : RequestKind → List ℕ
at_too_many kinds.Watch = codes "the server watches 256 roots, or all of its 31 sessions are taken: 'wm unwatch' what nobody needs, or try later"
at_too_many kinds.Trigger = codes "the root has 64 triggers, or all of the server's 31 sessions are taken: end a trigger by trigger-del, or try later"
at_too_many kinds.Observe = codes "it has over 65,536 pairs, or all of the server's 31 sessions are taken: send fewer at once, or try later"
at_too_many kinds.Query = codes "the root has 256 cursors, or all of the server's 31 sessions are taken: ask by a clock, or try later"
at_too_many kinds.Subscribe = codes "the root has 256 cursors, or all of the server's 31 sessions are taken: ask by a clock, or try later"
at_too_many kinds.Recrawl = codes "all of the server's 31 sessions are taken: try later, or end what holds them, as 'wm run' and feeds do"
at_too_many kinds.Other = codes "all of the server's 31 sessions are taken: try later, or end what holds them, as 'wm run' and feeds do"

abbrev pub at_failure : RequestKind → List ℕ
at_failure kinds.Recrawl = codes "a folder of the root can't be read, which 'wm status' and the server's log name: give the server's user the right to it, or watch a folder below"
at_failure kind = codes "the server can't write its state file: look at the disk and at the server's log, start it again, and ask what is there by watch-list or trigger-list"

-- the cause is in the request
abbrev pub advice_by_request : Refusal → List ℕ
advice_by_request refusals.BadLine = codes "a request is one line of JSON of at most 1,048,576 bytes"
advice_by_request refusals.BadCommand = codes "a request is a list that begins with the name of a command, as [\"watch-list\"]"
advice_by_request refusals.BadPath = codes "the path of a file or a folder in a root has no / at its ends, and no part that is empty, . or .."
advice_by_request refusals.BadClock = codes "the listing began at a tick that isn't the root's, or is no longer good: ask for the clock, and read the folder again"
advice_by_request refusal = codes "this wmctl and the server may be of two versions: 'wm down' and 'wm up' start the new one"

-- the cause is in the server
abbrev pub by_server : Refusal → List ℕ
by_server refusals.NotWatched = codes "the root isn't watched: 'wm watch ROOT' or [\"watch\",ROOT] watches it, and [\"watch-list\"] has those that are"
by_server refusals.NotReady = codes "the root isn't crawled yet: try again, or send [\"recrawl\",ROOT], which waits"
by_server refusals.Full = codes "the state file has no space left: 'wm unwatch' what nobody needs, or end triggers by trigger-del"
by_server refusals.StoreFailed = codes "the state file failed before: look at the disk and at the server's log, and start it again"
by_server refusals.Exhausted = codes "a counter of the state file is at its end: make a new state file"
by_server refusals.NoMemory = codes "the server has no memory left: ask for fewer files, or later"
by_server refusals.NoPlace = codes "the root is no longer watched, or too many sessions ask about it: try again"
by_server refusals.OldVersion = codes "max_files_stdin needs a state file of version 2: leave it out, or 'watchmand migrate' the file"
by_server refusal = advice_by_request refusal

abbrev pub refusal_advice : Refusal → RequestKind → List ℕ
refusal_advice refusals.TooMany kind = at_too_many kind
refusal_advice refusals.DeviceFailed kind = at_failure kind
refusal_advice refusal kind = by_server refusal

abbrev pub advice_line : Refusal → RequestKind → List ℕ
advice_line refusal kind = refusal_advice refusal kind ++ codes "\n"

-- what to do if no feed answered a sync
abbrev pub no_feed_line : (socket : List ℕ) → List ℕ
no_feed_line socket = codes "no feed answered in time: 'wm up' or 'wmfeed " ++ socket ++ codes "' starts one, and --sync-timeout gives it more time; without one send [\"recrawl\",ROOT], and then ask\n"

-- where the log is of a server that `wm up` started
abbrev pub log_line : (log : List ℕ) → List ℕ
log_line log = codes "the log of a server that 'wm up' started is " ++ log ++ codes "\n"

-- ---- the line of a refusal

-- the part is said, or if there is none, what to do
abbrev pub SaysPartOr : Refusal → Option PartSeen → List ℕ → Type 0
SaysPartOr e None line = line ≡ advice_line e kinds.Other
SaysPartOr e (Some part) line = IsLineOf part line

-- of a request that is refused so as it is read: its part, or that it is no JSON text
abbrev pub SaysRead : Refusal → Option Data → List ℕ → Type 0
SaysRead e None line = (column : ℕ) × (line ≡ no_json column)
SaysRead e (Some d) line = SaysPartOr e (refusing_part e d) line

-- what is said of a refusal, by how a server reads the request
abbrev pub Explains : Refusal → Result ServerRequest Refusal → Option Data → List ℕ → Type 0
Explains e (Ok request) value line = line ≡ advice_line e (kind_of_request request)
Explains e (Err r) value line = (r ≡ e → SaysRead e value line) × ((r ≡ e → ⊥) → line ≡ advice_line e kinds.Other)
