-- What a line asks.
use Rattle.std.specs.Prelude.{ℕ, List, Bool, ◌&&◌, length, nat_le, if◌then◌else◌, Option, Some, None, option_and_then, is_none, Result, Ok, Err, codes}
use Rattle.std.specs.Str.{is_utf8, bytes_eq}
use Rattle.std.specs.Io.BufRead.{ends_with_byte}
use Rattle.serde_json.specs.Data.{Data}
use Rattle.serde_json.specs.Read.{read}
use Rattle.serde_json.specs.Find.{at, as_str}
use Rattle.wm_disk.specs.declared.refusal.Refusal.{Refusal}
use Rattle.wm_disk.specs.declared.refusal.Refusal.TheVariants.{BadLine, BadCommand, BadArguments}
use Rattle.wm_lines.specs.declared.request.CommandName.{CommandName}
use Rattle.wm_lines.specs.declared.request.CommandName.TheVariants as named
use Rattle.wm_lines.specs.declared.request.Request.{Request}
use Rattle.wm_lines.specs.AgeOutLines.{age_out_request}
use Rattle.wm_lines.specs.Arguments.{only_root}
use Rattle.wm_lines.specs.ClockLines.{since_request}
use Rattle.wm_lines.specs.ListingLines.{listing_request}
use Rattle.wm_lines.specs.QueryLines.{query_request}
use Rattle.wm_lines.specs.PairLines.{observe_request}
use Rattle.wm_lines.specs.declared.request.Request.TheVariants.{Version, Watch, WatchDel, WatchList, TriggerList, Clock}
use Rattle.wm_lines.specs.SubscribeLines.{subscribe_request, unsubscribe_request}
use Rattle.wm_lines.specs.TriggerLines.{trigger_request, trigger_del_request}

-- the most bytes of a line, its newline among them
abbrev pub max_line : ℕ
max_line = 1048576

-- a newline ends the line, and it isn't too long
abbrev pub is_whole_line : List ℕ → Bool
is_whole_line line = ends_with_byte 10 line && nat_le (length line) max_line

-- the JSON value that a line with its newline is: UTF-8, and nesting at most 127
unfoldable pub value_of_line : List ℕ → Option Data
value_of_line line = if is_whole_line line && is_utf8 line then read line else None

-- a command without arguments
abbrev pub plain_request : Data → Request → Result Request Refusal
plain_request d request = if is_none (at 1 d) then Ok request else Err BadArguments

-- a request with what was read, or why it isn't read
abbrev pub request_with : (List ℕ → Request) → Result (List ℕ) Refusal → Result Request Refusal
request_with make (Ok path) = Ok (make path)
request_with make (Err e) = Err e

-- the command of a name
abbrev pub command_of : List ℕ → Option CommandName
command_of name =
    if bytes_eq name (codes "version") then Some named.Version
    else (if bytes_eq name (codes "watch") then Some named.Watch
    else (if bytes_eq name (codes "watch-del") then Some named.WatchDel
    else (if bytes_eq name (codes "watch-list") then Some named.WatchList
    else (if bytes_eq name (codes "trigger") then Some named.Trigger
    else (if bytes_eq name (codes "trigger-list") then Some named.TriggerList
    else (if bytes_eq name (codes "trigger-del") then Some named.TriggerDel
    else (if bytes_eq name (codes "observe") then Some named.Observe
    else (if bytes_eq name (codes "listing") then Some named.Listing
    else (if bytes_eq name (codes "age-out") then Some named.AgeOut
    else (if bytes_eq name (codes "clock") then Some named.Clock
    else (if bytes_eq name (codes "since") then Some named.Since
    else (if bytes_eq name (codes "query") then Some named.Query
    else (if bytes_eq name (codes "subscribe") then Some named.Subscribe
    else (if bytes_eq name (codes "unsubscribe") then Some named.Unsubscribe
    else None))))))))))))))

-- the table of the commands
abbrev pub request_named : Data → Option CommandName → Result Request Refusal
request_named d None = Err BadCommand
request_named d (Some named.Version) = plain_request d Version
request_named d (Some named.Watch) = request_with (λ path. Watch path) (only_root d)
request_named d (Some named.WatchDel) = request_with (λ path. WatchDel path) (only_root d)
request_named d (Some named.WatchList) = plain_request d WatchList
request_named d (Some named.Trigger) = trigger_request d
request_named d (Some named.TriggerList) = request_with (λ path. TriggerList path) (only_root d)
request_named d (Some named.TriggerDel) = trigger_del_request d
request_named d (Some named.Observe) = observe_request d
request_named d (Some named.Listing) = listing_request d
request_named d (Some named.AgeOut) = age_out_request d
request_named d (Some named.Clock) = request_with (λ path. Clock path) (only_root d)
request_named d (Some named.Since) = since_request d
request_named d (Some named.Query) = query_request d
request_named d (Some named.Subscribe) = subscribe_request d
request_named d (Some named.Unsubscribe) = unsubscribe_request d

unfoldable pub request_of : Data → Result Request Refusal
request_of d = request_named d (option_and_then command_of (option_and_then as_str (at 0 d)))

abbrev pub request_of_text : Option Data → Result Request Refusal
request_of_text None = Err BadLine
request_of_text (Some d) = request_of d

-- a line, with its newline if it has one
abbrev pub request_of_line : List ℕ → Result Request Refusal
request_of_line line = request_of_text (value_of_line line)
