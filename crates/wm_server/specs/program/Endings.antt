-- How `lines` ends.
use Rattle.std.specs.Prelude.{◌≡◌, ◌⊎◌, true, false, ℕ, List, ◌∷◌, Option, Some}
use Rattle.wm_registry.specs.Roots as registry
use Rattle.wm_registry.specs.declared.command.Command.{Command}
use Rattle.wm_registry.specs.declared.command.Command.TheVariants.{Begin}
use Rattle.wm_disk.specs.Contents.{Rose}
use Rattle.wm_disk.specs.Moments.{LeavesOnly}
use Rattle.wm_disk.specs.declared.disk.Disk.{Ghosts}
use Rattle.wm_disk.specs.declared.refusal.Refusal.{Refusal}
use Rattle.wm_disk.specs.declared.refusal.Refusal.TheVariants as refusals
use Rattle.wm_disk.specs.Parts.{IsPartOf}
use Rattle.wm_session.specs.session.Asked.{AreAskedOf}
use Rattle.wm_store.specs.Openings.{WritesNothing}
use Rattle.wm_session.specs.local.Stores.{StartCut, StartRefused}
use Rattle.wm_server.specs.program.Programs.{CutShort, IsTold, KeepsAccepted, LinesBroken, LinesCut}
use Rattle.wm_session.specs.session.Streams.{IsCutOff, StandAsBefore, writer_closed}
use Rattle.wm_session.specs.declared.session.input.Input.{Input}
use Rattle.wm_session.specs.declared.session.output.Output.{Output}
use Rattle.wm_server.specs.declared.program.lines.Ending.{Ending}
use Rattle.wm_server.specs.declared.program.lines.Ending.TheVariants.{Served, Refused, Broken, Unread}
use Rattle.wm_store.specs.Meant.{MeansAfter, MeansRegistry}

-- what was accepted is kept in a file that is closed
abbrev pub KeepsAll : {D : Type 0} → Ghosts D → D → D → Type 0
KeepsAll disk old new = disk.honest new → (was : registry.State) × (left : registry.State) × (asked : List Command) × KeepsAccepted disk old was left asked new

-- the reader or the writer failed, where the reader told what it holds: what a prefix of its lines left is kept
abbrev pub KeepsPrefixOfLines : {D : Type 0} → Ghosts D → Option (List ℕ) → D → D → Type 0
KeepsPrefixOfLines disk holds old new = disk.honest new → (input : List ℕ) → holds ≡ Some input → LinesBroken disk old input new

-- the device failed after the start: what was accepted stands, and, where the reader told what it holds, a prefix of its lines did that
abbrev pub CutsLines : {D : Type 0} → Ghosts D → Option (List ℕ) → D → D → Type 0
CutsLines disk holds old new = disk.honest new → ((was : registry.State) × (left : registry.State) × (asked : List Command) × CutShort disk old was left asked new)
    × ((input : List ℕ) → holds ≡ Some input → LinesCut disk old input new)

-- why `lines` was refused: at its start, and what that left; or because the device failed, at its close or meanwhile
abbrev pub LinesRefused : {D : Type 0} → Ghosts D → Refusal → Option (List ℕ) → D → D → Type 0
LinesRefused disk refusals.StoreFailed holds old new = Rose (disk.failures old) (disk.failures new) × CutsLines disk holds old new
LinesRefused disk refusals.DeviceFailed holds old new = Rose (disk.failures old) (disk.failures new) × (StartCut disk old new ⊎ CutsLines disk holds old new)
LinesRefused disk refusal holds old new = StartRefused disk refusal old new × StartCut disk old new

-- A refusal has its cause, and has left the file as it says. In the other endings what was accepted is kept.
abbrev pub Ends : {D : Type 0} → Ghosts D → Ending → Option (List ℕ) → D → D → Type 0
Ends disk Served holds old new = KeepsAll disk old new
Ends disk (Refused refusal) holds old new = LinesRefused disk refusal holds old new
Ends disk Broken holds old new = KeepsAll disk old new × KeepsPrefixOfLines disk holds old new
Ends disk Unread holds old new = KeepsAll disk old new × KeepsPrefixOfLines disk holds old new

abbrev pub status_of : Ending → ℕ
status_of Served = 0
status_of (Refused refusal) = 1
status_of Broken = 1
status_of Unread = 1

-- Why it ended so: where the start was refused but for a failure of the device, nothing was read or written; where the session was broken
-- off, the reader or the writer failed, and it is unread exactly where nobody reads what is written any more; and else neither did.
abbrev pub EndsBy : {R W : Type 0} → Ending → Input R → Input R → Output W → Output W → Type 0
EndsBy Served old new held holds = StandAsBefore old new held holds
EndsBy (Refused refusals.StoreFailed) old new held holds = Unit {0}
EndsBy (Refused refusals.DeviceFailed) old new held holds = Unit {0}
EndsBy (Refused refusal) old new held holds = (new ≡ old) × (holds ≡ held)
EndsBy Broken old new held holds = IsCutOff new holds × (writer_closed holds ≡ false)
EndsBy Unread old new held holds = IsCutOff new holds × (writer_closed holds ≡ true)

-- what is told of it
abbrev pub Tells : {E : Type 0} → (E → Option (List ℕ)) → Ending → Output E → Output E → Type 0
Tells contents Served old new = new ≡ old
Tells contents (Refused refusal) old new = IsTold contents refusal old new
Tells contents Broken old new = IsTold contents refusals.DeviceFailed old new
Tells contents Unread old new = new ≡ old

-- ---- moments

-- From old to new a file was taken up that meant a registry. There is a moment between the two: until it a crash leaves what one before
-- old might have left; and from it on that registry, or that with a prefix of a `Begin` and some of the commands asked for, in their
-- order.
pub record TakesUpFile {D : Type 0} (disk : Ghosts D) (old : D) (was : registry.State) (asked : List Command) (new : D) : Type 0 where
  pub means : MeansRegistry was (disk.seen old)
  pub taken : List Command
  pub part : IsPartOf taken asked
  pub synced : D
  pub until : WritesNothing disk old synced
  pub from : LeavesOnly disk.moment disk.left_since synced new (MeansAfter was (Begin ∷ taken))

-- what a crash at any moment of a session leaves
abbrev pub LeavesAnytime : {D : Type 0} → Ghosts D → Option (List ℕ) → D → D → Type 0
LeavesAnytime disk holds old new = disk.honest new → WritesNothing disk old new ⊎ ((was : registry.State) × (asked : List Command) × AreAskedOf holds asked × TakesUpFile disk old was asked new)
