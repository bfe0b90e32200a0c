-- When a request is sent that waits for a sync, and what was seen before.
use Rattle.std.specs.Prelude.{◌≡◌, ◌⊎◌, ◌++◌, ◌*◌, ◌∷◌, ⊤, ℕ, zero, suc, true, List, [], Option, Some, None, codes, decimal, option_and_then}
use Rattle.std.specs.Io.BufRead.{drop_through, take_through}
use Rattle.std.specs.Io.KnownBytes.{Appends}
use Rattle.std.specs.List.{All, concat}
use Rattle.std.specs.Str.{IsUtf8}
use Rattle.serde_json.specs.Data.{Data, array, string}
use Rattle.serde_json.specs.Find.{as_str, get}
use Rattle.serde_json.specs.Read.{read as read_text}
use Rattle.serde_json.specs.Written.{compact_text}
use Rattle.serde_json.specs.View.{items_of}
use Rattle.wm_clock.specs.Clocks.{Names}
use Rattle.wm_clock.specs.declared.clock_id.ClockId.{ClockId}
use Rattle.wm_disk.specs.declared.refusal.Refusal.TheVariants.{NotReady}
use Rattle.wm_client.specs.ClientWords.{SyncWanted}
use Rattle.wm_client.specs.RefusalLines.{is_refused_by}
use Rattle.wm_client.specs.Talks.{IsStartOf, Prints, PrintsLines}
use Rattle.wm_client.specs.Waits.{HasPassed}
use Rattle.wm_client.specs.declared.talking.TalkEnd.TheVariants as talk
use Rattle.wm_client.specs.declared.syncing.SyncEnd.{SyncEnd}
use Rattle.wm_client.specs.declared.syncing.SyncEnd.TheVariants.{Talked, Unsynced, Unreadable, NoFeed}

-- ---- the folder

-- where the files lie that a feed removes, for the root of this number
abbrev pub sync_folder : List ℕ → ℕ → List ℕ
sync_folder socket root = socket ++ codes ".sync/" ++ decimal root

-- `["clock",ROOT]`, the request whose reply says the root's number
abbrev pub clock_request : List ℕ → List ℕ
clock_request root = compact_text (array (items_of (string (codes "clock") ∷ string root ∷ [])))

-- the reply is an object whose member `clock` is the text of a clock of the root of this number
abbrev pub IsClockOf : List ℕ → ℕ → Type 0
IsClockOf reply root = (d : Data) × (text : List ℕ) × (c : ClockId) × (read_text reply ≡ Some d) × (option_and_then as_str (get (codes "clock") d) ≡ Some text) × Names text c × (root ≡ c.root)

-- the reply is a text, and has no clock
abbrev pub LacksClock : List ℕ → Type 0
LacksClock reply = IsUtf8 reply → (root : ℕ) → IsClockOf reply root → ⊥

-- ---- what is sent

-- what was sent are starts of a line, one behind the other
abbrev pub SendsStarts : List ℕ → Option (List ℕ) → Option (List ℕ) → Type 0
SendsStarts line held holds = (starts : List (List ℕ)) × All (IsStartOf line) starts × Appends held holds (concat starts)

-- a file in the folder of some root of this server was seen to be gone
abbrev pub IsSynced : (List ℕ → Type 0) → List ℕ → Type 0
IsSynced gone_in socket = (root : ℕ) × gone_in (sync_folder socket root)

-- Without a sync nothing is said. With one, nothing but requests for the clock is sent until a file was seen to be gone.
abbrev pub SendsInOrder : (List ℕ → Type 0) → List ℕ → Option SyncWanted → Option (List ℕ) → Option (List ℕ) → Type 0
SendsInOrder gone_in socket None held holds = ⊤
SendsInOrder gone_in socket (Some sync) held holds = IsSynced gone_in socket ⊎ SendsStarts (clock_request sync.root ++ codes "\n") held holds

-- ---- what is printed of what comes

-- An input begins with so many refusals for now (6 NotReady), and this is the rest of it.
abbrev pub IsAfterWaits : ℕ → List ℕ → List ℕ → Type 0
IsAfterWaits zero input rest = rest ≡ input
IsAfterWaits (suc k) input rest = (is_refused_by NotReady (take_through 10 input) ≡ true) × IsAfterWaits k (drop_through 10 input) rest

-- What was printed, by how a request with a sync ended. The line was sent: behind the refusals for now came the clock of a root, a file in whose
-- folder was seen to be gone, and then a talk. No clock was told: as in a talk about it. Unreadable: the reply has none, and nothing was printed. No feed:
-- nothing was printed.
abbrev pub SyncPrints : (List ℕ → Type 0) → List ℕ → ℕ → List ℕ → Option (List ℕ) → Option (List ℕ) → SyncEnd → Type 0
SyncPrints gone_in socket follow input held holds (Talked end) = (k : ℕ) × (root : ℕ) × (rest : List ℕ) × IsAfterWaits k input rest × IsClockOf (take_through 10 rest) root
    × gone_in (sync_folder socket root) × Prints follow (drop_through 10 rest) held holds end
SyncPrints gone_in socket follow input held holds (Unsynced end) = (k : ℕ) × (rest : List ℕ) × IsAfterWaits k input rest × Prints 0 rest held holds end
SyncPrints gone_in socket follow input held holds Unreadable = (k : ℕ) × (rest : List ℕ) × IsAfterWaits k input rest × LacksClock (take_through 10 rest) × (holds ≡ held)
SyncPrints gone_in socket follow input held holds NoFeed = holds ≡ held

-- the same with a sync or without one
abbrev pub PrintsAsAsked : (List ℕ → Type 0) → List ℕ → Option SyncWanted → ℕ → List ℕ → Option (List ℕ) → Option (List ℕ) → SyncEnd → Type 0
PrintsAsAsked gone_in socket None follow input held holds (Talked end) = Prints follow input held holds end
PrintsAsAsked gone_in socket None follow input held holds other = ⊥
PrintsAsAsked gone_in socket (Some sync) follow input held holds end = SyncPrints gone_in socket follow input held holds end

-- When a sync was given up: the folder of some root had no file in it, or a file that was made there was removed, and the time has passed. A root that isn't ready is
-- refused only once the time has passed.
abbrev pub WaitsAsAsked : (ℕ → Type 0) → (List ℕ → Type 0) → List ℕ → Option SyncWanted → Option (List ℕ) → Option (List ℕ) → SyncEnd → Type 0
WaitsAsAsked passed gave_up socket (Some sync) held holds NoFeed = ((root : ℕ) × gave_up (sync_folder socket root)) × HasPassed passed (sync.timeout * 1000)
WaitsAsAsked passed gave_up socket (Some sync) held holds (Unsynced talk.Refused) =
    (reply : List ℕ) × PrintsLines (reply ∷ []) held holds × (is_refused_by NotReady reply ≡ true → HasPassed passed (sync.timeout * 1000))
WaitsAsAsked passed gave_up socket sync held holds end = ⊤
