-- The values of an object's keys by their kinds, and the forms of requests.
use Rattle.std.specs.Prelude.{◌&&◌, Bool, List, Option, None, Some, ℕ, codes, is_some, option_and_then, if◌then◌else◌}
use Rattle.std.specs.Option.{option_or}
use Rattle.std.specs.Str.{bytes_eq}
use Rattle.serde_json.specs.Data.{Data}
use Rattle.serde_json.specs.Find.{as_array, as_bool, as_str, get}
use Rattle.wm_lines.specs.Arguments.{count_of}
use Rattle.wm_lines.specs.ClockLines.{may_be_clock}
use Rattle.wm_lines.specs.Keys.{flag_in}
use Rattle.wm_lines.specs.QueryLines.{empty_key, has_query_kinds}
use Rattle.wm_lines.specs.TriggerLines.{definition_in, file_count_in, stdin_in}
use Rattle.wm_parts.specs.declared.keys.Asking.{Asking}
use Rattle.wm_parts.specs.declared.keys.Asking.TheVariants.{Query, Trigger}
use Rattle.wm_parts.specs.declared.values.Key.{Key}
use Rattle.wm_parts.specs.declared.values.Key.TheVariants as keys

abbrev pub key_name : Key → List ℕ
key_name keys.Since = codes "since"
key_name keys.Fields = codes "fields"
key_name keys.SyncTimeout = codes "sync_timeout"
key_name keys.EmptyOnFreshInstance = codes "empty_on_fresh_instance"
key_name keys.Name = codes "name"
key_name keys.Command = codes "command"
key_name keys.AppendFiles = codes "append_files"
key_name keys.Stdin = codes "stdin"
key_name keys.MaxFilesStdin = codes "max_files_stdin"

-- what is said of a value that can't be at the key
abbrev pub value_said : Key → List ℕ
value_said keys.Since = codes "can't be 'since': this is a clock, a cursor or a time in seconds, as \"c:1:2:3\", \"n:build\" or 1700000000"
value_said keys.Fields = codes "can't be 'fields': this is a list of one or more fields, none of them twice, as [\"name\",\"size\"]"
value_said keys.SyncTimeout = codes "can't be 'sync_timeout': this is a whole number of milliseconds, as 1000"
value_said keys.EmptyOnFreshInstance = codes "can't be 'empty_on_fresh_instance': this is true or false"
value_said keys.Name = codes "can't be 'name': this is a text, as \"build\""
value_said keys.Command = codes "can't be 'command': this is a list of texts, as [\"make\",\"all\"]"
value_said keys.AppendFiles = codes "can't be 'append_files': this is true or false"
value_said keys.Stdin = codes "can't be 'stdin': this is \"/dev/null\" or \"NAME_PER_LINE\""
value_said keys.MaxFilesStdin = codes "can't be 'max_files_stdin': this is a whole number from 1 to 4294967295"

-- the value is of the kind that the reader wants at the key
abbrev pub has_kind : Key → Data → Bool
has_kind keys.Since d = may_be_clock d
has_kind keys.Fields d = is_some (as_array d)
has_kind keys.SyncTimeout d = is_some (count_of d)
has_kind keys.EmptyOnFreshInstance d = is_some (as_bool d)
has_kind keys.Name d = is_some (as_str d)
has_kind keys.Command d = is_some (as_array d)
has_kind keys.AppendFiles d = is_some (as_bool d)
has_kind keys.Stdin d = is_some (stdin_in (Some d))
has_kind keys.MaxFilesStdin d = is_some (file_count_in (Some d))

-- the value at the key, if it isn't of its kind
abbrev pub refused_at : Key → Data → Option (Key × Data)
refused_at key d = option_and_then (λ v. if has_kind key v then None else Some (key, v)) (get (key_name key) d)

-- the first value of such an object that isn't of its kind, in the order in which the reader looks at them
abbrev pub refused_value : Asking → Data → Option (Key × Data)
refused_value Query d = option_or (refused_at keys.Since d) (option_or (refused_at keys.Fields d) (option_or (refused_at keys.SyncTimeout d) (refused_at keys.EmptyOnFreshInstance d)))
refused_value Trigger d = option_or (refused_at keys.Name d) (option_or (refused_at keys.Command d) (option_or (refused_at keys.AppendFiles d) (option_or (refused_at keys.Stdin d) (refused_at keys.MaxFilesStdin d))))

-- the reader takes the values of such an object, as far as their kinds go
abbrev pub takes_kinds : Asking → Data → Bool
takes_kinds Query d = has_query_kinds d && is_some (flag_in (empty_key d))
takes_kinds Trigger d = is_some (definition_in None d)

-- a request of the command of this name
abbrev pub form_of : List ℕ → Option (List ℕ)
form_of name =
    if bytes_eq name (codes "version") then Some (codes "[\"version\"]")
    else (if bytes_eq name (codes "watch") then Some (codes "[\"watch\",\"/proj\"]")
    else (if bytes_eq name (codes "watch-del") then Some (codes "[\"watch-del\",\"/proj\"]")
    else (if bytes_eq name (codes "watch-list") then Some (codes "[\"watch-list\"]")
    else (if bytes_eq name (codes "clock") then Some (codes "[\"clock\",\"/proj\"]")
    else (if bytes_eq name (codes "since") then Some (codes "[\"since\",\"/proj\",\"c:1:2:3\"]")
    else (if bytes_eq name (codes "query") then Some (codes "[\"query\",\"/proj\",{\"fields\":[\"name\"]}]")
    else (if bytes_eq name (codes "subscribe") then Some (codes "[\"subscribe\",\"/proj\",\"n\",{\"fields\":[\"name\"]}]")
    else (if bytes_eq name (codes "unsubscribe") then Some (codes "[\"unsubscribe\",\"/proj\",\"n\"]")
    else (if bytes_eq name (codes "trigger") then Some (codes "[\"trigger\",\"/proj\",{\"name\":\"n\",\"command\":[\"make\"]}]")
    else (if bytes_eq name (codes "trigger-list") then Some (codes "[\"trigger-list\",\"/proj\"]")
    else (if bytes_eq name (codes "trigger-del") then Some (codes "[\"trigger-del\",\"/proj\",\"n\"]")
    else (if bytes_eq name (codes "recrawl") then Some (codes "[\"recrawl\",\"/proj\"]")
    else (if bytes_eq name (codes "observe") then Some (codes "[\"observe\",\"/proj\",[[\"gone.c\",null]]]")
    else (if bytes_eq name (codes "listing") then Some (codes "[\"listing\",\"/proj\",0,\"\",[]]")
    else (if bytes_eq name (codes "age-out") then Some (codes "[\"age-out\",\"/proj\",3600]")
    else None)))))))))))))))
