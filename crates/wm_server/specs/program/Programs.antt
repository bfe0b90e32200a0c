-- `lines`: what is written for an input, and what the file is left to mean.
use Rattle.std.specs.Prelude.{◌≡◌, ◌⊎◌, ℕ, ◌+◌, ◌≤◌, List, ◌++◌, true, false, Option, codes}
use Rattle.std.specs.List.{AllByRecursion}
use Rattle.std.specs.Io.KnownBytes.{Appends}
use Rattle.wm_disk.specs.Refusals.{refusal_text}
use Rattle.wm_disk.specs.declared.refusal.Refusal.{Refusal}
use Rattle.wm_registry.specs.declared.command.Command.TheVariants.{Begin}
use Rattle.wm_registry.specs.declared.command.Command.{Command}
use Rattle.wm_registry.specs.declared.reply.Reply.TheVariants.{Changed}
use Rattle.wm_registry.specs.Registry.{reply_to, after_command}
use Rattle.wm_registry.specs.Roots as registry
use Rattle.wm_disk.specs.declared.disk.Disk.{Ghosts}
use Rattle.wm_disk.specs.Parts.{IsPartOf}
use Rattle.wm_session.specs.local.Stores.{IsKeptOn}
use Rattle.wm_session.specs.session.Asked.{asked_in}
use Rattle.wm_session.specs.session.Inputs.{lines_of}
use Rattle.wm_session.specs.session.Sessions.{SessionState, WithSubscriptions}
use Rattle.wm_session.specs.session.Faults.{FrontState, Meeting, Way, Defined, Device, Memory, Spent}
use Rattle.wm_session.specs.session.Runs.{RunsLines}
use Rattle.wm_session.specs.session.Stands.{without_subscriptions}
use Rattle.wm_session.specs.session.Streams.{writer_failed, writer_of}
use Rattle.wm_session.specs.declared.session.output.Output.{Output}
use Rattle.wm_session.specs.session.Watched.{first_views}
use Rattle.wm_store.specs.Meant.{MeansAfter, MeansRegistry}
use Rattle.wm_checkpoint.specs.Machines.{replayed}

-- line k, counted from 1, has the moment k
abbrev pub line_number : ℕ → ℕ
line_number k = k + 1

-- the line was answered as it is defined; or `NoMemory` where memory ran out, or `Exhausted` where the slot's number is spent, and then
-- nothing changed
abbrev pub IsQuiet : Way → Type 0
IsQuiet Defined = Unit {0}
IsQuiet Device = ⊥
IsQuiet Memory = Unit {0}
IsQuiet Spent = Unit {0}

-- what a session finds that begins on a file with this meaning
abbrev pub first_state : registry.State → SessionState
first_state was = record { registry = after_command was Begin; has_failed = false; views = first_views (after_command was Begin) }

-- A file meant a registry, and is left to mean it with a `Begin` and the accepted commands, whatever a crash does. These are of the
-- commands that were asked for, in their order.
pub record KeepsAccepted {D : Type 0} (disk : Ghosts D) (old : D) (was left : registry.State) (asked : List Command) (new : D) : Type 0 where
  pub means : MeansRegistry was (disk.seen old)
  pub begins : reply_to was Begin ≡ Changed
  pub accepted : List Command
  pub part : IsPartOf accepted asked
  pub replayed : left ≡ replayed after_command (after_command was Begin) accepted
  pub kept : IsKeptOn disk left new

-- The device failed over a file that meant a registry: a crash leaves it to mean that with a `Begin` and the accepted commands, and
-- perhaps a prefix of those that were in flight. All these are of the commands that were asked for, in their order.
pub record CutShort {D : Type 0} (disk : Ghosts D) (old : D) (was left : registry.State) (asked : List Command) (new : D) : Type 0 where
  pub means : MeansRegistry was (disk.seen old)
  pub begins : reply_to was Begin ≡ Changed
  pub accepted : List Command
  pub in_flight : List Command
  pub part : IsPartOf (accepted ++ in_flight) asked
  pub replayed : left ≡ replayed after_command (after_command was Begin) accepted
  pub leaves : (c : List ℕ) → disk.may_leave new c → MeansAfter left in_flight c

-- Lines were met over a file that meant a registry, with these bytes as their replies, and what they left was kept.
pub record LinesMet {D : Type 0} (disk : Ghosts D) (old : D) (lines : List (List ℕ)) (bytes : List ℕ) (new : D) : Type 0 where
  pub was : registry.State
  -- how often the device had failed before the first line, and the number of the slot
  pub before : ℕ
  pub number : ℕ
  pub meetings : List Meeting
  pub quiet : AllByRecursion (λ meeting. IsQuiet meeting.way) meetings
  pub left : WithSubscriptions FrontState
  pub run : RunsLines (without_subscriptions (record { state = first_state was; failures = before; number = number })) line_number 0 lines meetings bytes left
  pub kept : KeepsAccepted disk old was left.front.state.registry (asked_in lines) new
  -- a start raises the number of the file's slot by one at most
  pub number_is : number ≤ kept.means.number + 1

-- the lines of an input were met, and their replies written
pub record LinesServed {D : Type 0} (disk : Ghosts D) (old : D) (input : List ℕ) (held holds : Option (List ℕ)) (new : D) : Type 0 where
  pub bytes : List ℕ
  pub met : LinesMet disk old (lines_of input) bytes new
  pub appends : Appends held holds bytes

-- a prefix of an input's lines was met
pub record LinesBroken {D : Type 0} (disk : Ghosts D) (old : D) (input : List ℕ) (new : D) : Type 0 where
  pub prefix : List (List ℕ)
  pub more : List (List ℕ)
  pub lines : lines_of input ≡ prefix ++ more
  pub bytes : List ℕ
  pub met : LinesMet disk old prefix bytes new

-- a prefix of an input's lines was met, and the device failed among them, or behind them
pub record LinesCut {D : Type 0} (disk : Ghosts D) (old : D) (input : List ℕ) (new : D) : Type 0 where
  pub prefix : List (List ℕ)
  pub more : List (List ℕ)
  pub lines : lines_of input ≡ prefix ++ more
  pub was : registry.State
  pub before : ℕ
  pub number : ℕ
  pub meetings : List Meeting
  pub bytes : List ℕ
  pub left : WithSubscriptions FrontState
  pub run : RunsLines (without_subscriptions (record { state = first_state was; failures = before; number = number })) line_number 0 prefix meetings bytes left
  pub cut : CutShort disk old was left.front.state.registry (asked_in prefix) new
  pub number_is : number ≤ cut.means.number + 1

-- what a program that is refused tells: its name, and the number and name of the refusal
abbrev pub message_of : Refusal → List ℕ
message_of refusal = (codes "watchmand: " ++ refusal_text refusal) ++ codes "\n"

-- it was told, unless the writer failed
abbrev pub IsTold : {E : Type 0} → (E → Option (List ℕ)) → Refusal → Output E → Output E → Type 0
IsTold contents refusal old new = (writer_failed new ≡ true) ⊎ Appends (contents (writer_of old)) (contents (writer_of new)) (message_of refusal)

-- Lines were answered with these bytes from some start on, at which the store works and each root has a view that has just begun. This
-- asks nothing of the disk.
pub record LinesAnswered (input : List ℕ) (held holds : Option (List ℕ)) : Type 0 where
  pub begun : FrontState
  pub works : begun.state.has_failed ≡ false
  pub views : begun.state.views ≡ first_views begun.state.registry
  pub meetings : List Meeting
  pub bytes : List ℕ
  pub left : WithSubscriptions FrontState
  pub run : RunsLines (without_subscriptions begun) line_number 0 (lines_of input) meetings bytes left
  pub appends : Appends held holds bytes
