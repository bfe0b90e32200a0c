-- What a reply shows, and with which status a command ends by it.
use Rattle.std.specs.Prelude.{◌≡◌, ◌++◌, ◌&&◌, ℕ, Bool, true, false, List, [], Option, None, Some, codes, map, flat_map, is_some, if◌then◌else◌, option_and_then, option_map, string_bytes, unwrap_or}
use Rattle.serde_json.specs.Data.{Data, Items, item, no_items, string}
use Rattle.serde_json.specs.Find.{as_array, as_bool, as_str, get}
use Rattle.serde_json.specs.View.{items_of}
use Rattle.wm_names.specs.Paths.{Path}
use Rattle.wm_commands.specs.Folders.{reported_name}
use Rattle.wm_commands.specs.declared.answers.Answer.{Answer}
use Rattle.wm_commands.specs.declared.showing.Shown.{Shown}
use Rattle.wm_commands.specs.declared.showing.Style.{Style}

-- ---- what a reply says

-- the reply is a refusal: an object with a member `error`
abbrev pub is_refused : Data → Bool
is_refused reply = is_some (get (codes "error") reply)

-- the reply is the answer to a question for names
pub record IsAnswer (reply : Data) (answer : Answer) : Type 0 where
  pub clock : option_and_then as_str (get (codes "clock") reply) ≡ Some (string_bytes answer.clock)
  pub fresh : option_and_then as_bool (get (codes "is_fresh_instance") reply) ≡ Some answer.is_fresh
  pub names : option_and_then as_array (get (codes "files") reply) ≡ Some (items_of (map string (map string_bytes answer.names.items)))

-- the values are texts
abbrev pub are_texts : Items → Bool
are_texts no_items = true
are_texts (item value rest) = is_some (as_str value) && are_texts rest

-- The reply is such an answer: its clock is a text, it says whether it is fresh, and its files are a list of texts.
abbrev pub is_answer : Data → Bool
is_answer reply =
    is_some (option_and_then as_str (get (codes "clock") reply))
    && (is_some (option_and_then as_bool (get (codes "is_fresh_instance") reply))
    && unwrap_or (option_map are_texts (option_and_then as_array (get (codes "files") reply))) false)

-- ---- what is shown of it

-- what ends a name: a newline, or a zero byte
abbrev pub ending_of : Style → List ℕ
ending_of style = if style.is_nul then codes "\0" else codes "\n"

abbrev pub ended_by : List ℕ → Option (List ℕ) → List ℕ
ended_by ending None = []
ended_by ending (Some text) = text ++ ending

-- the names of a root's files as they are reported from a folder, each with its ending; those outside of the folder aren't shown
abbrev pub names_shown : List ℕ → (root dir : Path) → List Path → List ℕ
names_shown ending root dir names = flat_map (λ name. ended_by ending (reported_name root dir name)) names

-- the clock stands behind the names, if it is asked for
abbrev pub clock_behind : Style → List ℕ → List ℕ
clock_behind style clock = if style.is_clock then clock ++ ending_of style else []

abbrev pub answer_shown : Style → (root dir : Path) → Answer → List ℕ
answer_shown style root dir answer =
    names_shown (ending_of style) root dir (map string_bytes answer.names.items) ++ clock_behind style (string_bytes answer.clock)

-- 0: an answer is shown
abbrev pub ShowsAnswer : Style → (root dir : Path) → Data → Shown → Type 0
ShowsAnswer style root dir reply shown = (answer : Answer) × IsAnswer reply answer × (shown.status ≡ 0) × (string_bytes shown.text ≡ answer_shown style root dir answer)

-- with this status nothing is shown
abbrev pub ShowsNothing : ℕ → Shown → Type 0
ShowsNothing status shown = (shown.status ≡ status) × (string_bytes shown.text ≡ [])

-- A refusal ends with 1. Anything else is shown as it came, if that is asked for; else an answer is shown, and what is none ends with 3.
abbrev pub ShowsBy : (is_refusal is_json is_answer : Bool) → (line : List ℕ) → (as_answer : Type 0) → Shown → Type 0
ShowsBy true is_json is_answer line as_answer shown = ShowsNothing 1 shown
ShowsBy false true is_answer line as_answer shown = (shown.status ≡ 0) × (string_bytes shown.text ≡ line)
ShowsBy false false true line as_answer shown = as_answer
ShowsBy false false false line as_answer shown = ShowsNothing 3 shown

-- What is shown of a line by the value that it is; one that is none ends with 3.
abbrev pub ShowsReply : Style → (root dir : Path) → (line : List ℕ) → Option Data → Shown → Type 0
ShowsReply style root dir line None shown = ShowsNothing 3 shown
ShowsReply style root dir line (Some reply) shown =
    ShowsBy (is_refused reply) style.is_json (is_answer reply) line (ShowsAnswer style root dir reply shown) shown
