-- What the command-line words of `wmctl` ask for. A word is a text, as the list of its bytes.
use Rattle.std.specs.Prelude.{◌≡◌, ◌==◌, ℕ, false, List, Option, Some, None, codes, option_map}
use Rattle.std.specs.List.{list_any}
use Rattle.std.specs.String.{string_bytes}
use Rattle.clap.specs.Words.{App, Row, Text, first_of, matches_of, with_rule}
use Rattle.wm_arguments.specs.ArgumentRules.{bare_program, needed_rule, option_rule}
use Rattle.wm_arguments.specs.ArgumentValues.{TellsNumber}
use Rattle.wm_arguments.specs.Parses.{AsksBy}
use Rattle.wm_client.specs.declared.words.Request.{Request}
use Rattle.wm_client.specs.declared.words.Sync.{Sync}
use Rattle.wm_client.specs.declared.words.Words.{Words}
use Rattle.wm_client.specs.declared.words.Words.TheVariants as words

-- ---- what may be asked

-- a sync of the root at this path, which is waited for so many milliseconds
pub record SyncWanted : Type 0 where
  pub root : Text
  pub timeout : ℕ

pub data Wanted : Type 0 where
  -- this line is sent to the socket of this path, and so many lines are printed beside the reply; a sync may be wanted before
  talk_to : Text → Text → ℕ → Option SyncWanted → Wanted
  -- a text is shown, and the program ends with this status
  shown_status : ℕ → Wanted

abbrev pub sync_wanted_of : Sync → SyncWanted
sync_wanted_of sync = record { root = string_bytes sync.root; timeout = sync.timeout }

abbrev pub request_wanted_of : Request → Wanted
request_wanted_of r = talk_to (string_bytes r.socket) (string_bytes r.json) r.follow (option_map sync_wanted_of r.sync)

-- what a `Words` of the code says, but for the text that it shows
abbrev pub wanted_of : Words → Wanted
wanted_of (words.Talk request) = request_wanted_of request
wanted_of (words.Shown text status) = shown_status status

-- ---- the command line as clap is told of it

abbrev pub words_app : App
words_app = with_rule (with_rule (bare_program (codes "wmctl")) (needed_rule (codes "SOCKET"))) (needed_rule (codes "JSON"))

abbrev pub wmctl_app : App
wmctl_app = with_rule (with_rule (with_rule words_app (option_rule (codes "follow"))) (option_rule (codes "sync"))) (option_rule (codes "sync-timeout"))

-- ---- what clap finds in the words

-- what is there for `--sync` and `--sync-timeout` tells this sync: no timeout without a root, and a second if none is told
abbrev pub TellsSync : (sync_word timeout_word : Option Text) → Option SyncWanted → Type 0
TellsSync None timeout_word sync = (timeout_word ≡ None) × (sync ≡ None)
TellsSync (Some root) timeout_word None = ⊥
TellsSync (Some root) timeout_word (Some sync) = (sync.root ≡ root) × TellsNumber 1000 timeout_word sync.timeout

-- these words are there for SOCKET, JSON and the options, and tell this line, which has no newline (10), this number and this sync
pub record TellsTalk (socket_word json_word follow_word sync_word timeout_word : Option Text) (socket json : Text) (follow : ℕ) (sync : Option SyncWanted) : Type 0 where
  pub socket_is : socket_word ≡ Some socket
  pub json_is : json_word ≡ Some json
  pub one_line : list_any (λ byte. byte == 10) json ≡ false
  pub follow_is : TellsNumber 0 follow_word follow
  pub sync_is : TellsSync sync_word timeout_word sync

-- what they tell is wanted; where that is no talk, it is a fault
abbrev pub TellsOf : (socket_word json_word follow_word sync_word timeout_word : Option Text) → Wanted → Type 0
TellsOf socket_word json_word follow_word sync_word timeout_word (talk_to socket json follow sync) =
    TellsTalk socket_word json_word follow_word sync_word timeout_word socket json follow sync
TellsOf socket_word json_word follow_word sync_word timeout_word (shown_status status) =
    (status ≡ 2) × ((socket json : Text) (follow : ℕ) (sync : Option SyncWanted) → TellsTalk socket_word json_word follow_word sync_word timeout_word socket json follow sync → ⊥)

-- what was found is wanted
abbrev pub FindsFor : List Row → Wanted → Type 0
FindsFor rows wanted =
    TellsOf (first_of (codes "SOCKET") rows) (first_of (codes "JSON") rows) (first_of (codes "follow") rows) (first_of (codes "sync") rows) (first_of (codes "sync-timeout") rows) wanted

-- what the words ask for
abbrev pub AsksFor : List Text → Wanted → Type 0
AsksFor words = AsksBy wmctl_app (FindsFor (matches_of wmctl_app words)) shown_status words
