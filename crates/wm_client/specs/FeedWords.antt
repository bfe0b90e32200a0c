-- What the command-line words ask of `wmfeed`. A word is a text, as the list of its bytes.
use Rattle.std.specs.Prelude.{◌≡◌, ℕ, Bool, List, Option, Some, None, codes, option_map}
use Rattle.std.specs.String.{string_bytes}
use Rattle.clap.specs.Words.{App, Row, Text, first_of, matches_of, with_rule}
use Rattle.wm_arguments.specs.ArgumentRules.{bare_program, flag_rule, needed_rule, optional_rule}
use Rattle.wm_arguments.specs.ArgumentValues.{is_flag_set}
use Rattle.wm_arguments.specs.Parses.{AsksBy}
use Rattle.wm_client.specs.declared.feed_words.FeedWords.{FeedWords}
use Rattle.wm_client.specs.declared.feed_words.FeedWords.TheVariants as words

-- ---- what may be asked

pub data FeedWanted : Type 0 where
  -- the server at the socket of this path is told what changes below this root, or below each watched root if none is named; paths are told at
  -- every event if the flag is set
  feed_to : Text → Option Text → Bool → FeedWanted
  -- a text is shown, and the program ends with this status
  feed_shown : ℕ → FeedWanted

-- what `FeedWords` of the code say, but for the text that it shows
abbrev pub feed_wanted_of : FeedWords → FeedWanted
feed_wanted_of (words.Feed socket root is_every_event) = feed_to (string_bytes socket) (option_map string_bytes root) is_every_event
feed_wanted_of (words.Shown text status) = feed_shown status

-- ---- the command line as clap is told of it

abbrev pub wmfeed_app : App
wmfeed_app = with_rule (with_rule (with_rule (bare_program (codes "wmfeed")) (needed_rule (codes "SOCKET"))) (optional_rule (codes "ROOT"))) (flag_rule (codes "every-event"))

-- ---- what clap finds in the words

-- what is there for SOCKET, ROOT and `--every-event` is wanted; if SOCKET is missing, it is a fault
abbrev pub FeedTellsOf : (socket_word root_word event_word : Option Text) → FeedWanted → Type 0
FeedTellsOf socket_word root_word event_word (feed_to socket root is_every_event) =
    (socket_word ≡ Some socket) × (root ≡ root_word) × (is_every_event ≡ is_flag_set event_word)
FeedTellsOf socket_word root_word event_word (feed_shown status) = (status ≡ 2) × (socket_word ≡ None)

-- what was found is wanted
abbrev pub FeedFindsFor : List Row → FeedWanted → Type 0
FeedFindsFor rows wanted = FeedTellsOf (first_of (codes "SOCKET") rows) (first_of (codes "ROOT") rows) (first_of (codes "every-event") rows) wanted

-- what the words ask for
abbrev pub FeedAsksFor : List Text → FeedWanted → Type 0
FeedAsksFor words = AsksBy wmfeed_app (FeedFindsFor (matches_of wmfeed_app words)) feed_shown words
