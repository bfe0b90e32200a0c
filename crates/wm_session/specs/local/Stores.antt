-- What lines see of a store, and what a store keeps on its disk from one moment to a later one.
use Rattle.std.specs.Prelude.{◌≡◌, ◌⊎◌, ◌≤◌, ℕ, List, [], ◌++◌, true, false, if◌then◌else◌}
use Rattle.wm_disk.specs.Contents.{Rose}
use Rattle.wm_disk.specs.Moments.{LeavesOnly}
use Rattle.wm_disk.specs.declared.disk.Disk.{Ghosts}
use Rattle.wm_disk.specs.declared.refusal.Refusal.{Refusal}
use Rattle.wm_disk.specs.declared.refusal.Refusal.TheVariants as refusals
use Rattle.wm_disk.specs.Counters.{max_counter}
use Rattle.wm_session.specs.declared.local.root_views.RootView.{RootView}
use Rattle.wm_registry.specs.declared.command.Command.{Command}
use Rattle.wm_registry.specs.declared.command.Command.TheVariants.{Begin}
use Rattle.wm_registry.specs.declared.reply.Reply.{Reply}
use Rattle.wm_registry.specs.declared.reply.Reply.TheVariants.{Refused}
use Rattle.wm_registry.specs.Registry.{after_command, is_change, reply_to}
use Rattle.wm_registry.specs.Roots as registry
use Rattle.wm_store.specs.Openings.{FindsRegistry, WritesNothing}
use Rattle.wm_store.specs.Stored.{Stored}
use Rattle.wm_lines.specs.KeptExpressions.{have_expressions}
use Rattle.wm_session.specs.session.Sessions.{SessionState, views_after}
use Rattle.wm_session.specs.session.Faults.{FrontState}
use Rattle.wm_disk.specs.Parts.{IsPartOf}
use Rattle.wm_store.specs.Meant.{IsDamagedFile, IsRetiredFile, MeansAfter, MeansRegistry}
use Rattle.wm_checkpoint.specs.Machines.{replayed}

-- a crash leaves a content that means this registry
abbrev pub IsKeptOn : {D : Type 0} → Ghosts D → registry.State → D → Type 0
IsKeptOn disk state d = (c : List ℕ) → disk.may_leave d c → MeansRegistry state c

-- the views after a command with this reply
abbrev pub views_met : Reply → SessionState → Command → List RootView
views_met reply s command = if is_change reply then views_after s command else s.views

module _ {D : Type 0} where
  -- a store that hasn't failed isn't closed
  abbrev pub IsOpenUnlessFailed : Stored D → Type 0
  IsOpenUnlessFailed store = store.failed ≡ false → store.closed ≡ false

  -- what lines see of a store beside these views
  abbrev pub state_with : Stored D → List RootView → SessionState
  state_with store views = record { registry = store.registry; has_failed = store.failed; views = views }

  abbrev pub front_state_with : Ghosts D → Stored D → List RootView → FrontState
  front_state_with disk store views = record { state = state_with store views; failures = disk.failures store.disk; number = store.number }

  -- a disk after some calls: it isn't honest where it wasn't before, and the count of its failures didn't fall
  pub record Later (disk : Ghosts D) (old new : D) : Type 0 where
    pub honest : disk.honest new → disk.honest old
    pub count : disk.failures old ≤ disk.failures new

  -- Of the commands asked for between an earlier and a later moment of a store some were accepted, and perhaps others were in flight when
  -- the device failed. Either the two moments are the same and no call of the disk was made between them; or a crash between them leaves
  -- the registry after a prefix of all these commands. After a failure a crash leaves what was accepted, with a prefix of what was
  -- in flight.
  pub record Commits (disk : Ghosts D) (asked : List Command) (old new : Stored D) : Type 0 where
    pub accepted : List Command
    pub in_flight : List Command
    pub part : IsPartOf (accepted ++ in_flight) asked
    pub registry : new.registry ≡ replayed after_command old.registry accepted
    pub works : new.failed ≡ false → in_flight ≡ []
    pub leaves : new.failed ≡ true → disk.honest new.disk → (c : List ℕ) → disk.may_leave new.disk c → MeansAfter new.registry in_flight c
    pub any_moment : (new ≡ old) ⊎ (disk.honest new.disk → LeavesOnly disk.moment disk.left_since old.disk new.disk (MeansAfter old.registry (accepted ++ in_flight)))

  -- an earlier and a later moment of a store, and the commands that were asked for between them
  pub record LeadsTo (disk : Ghosts D) (asked : List Command) (old new : Stored D) : Type 0 where
    pub later : Later disk old.disk new.disk
    pub failed : old.failed ≡ true → new.failed ≡ true
    -- nothing more is asked of a disk that has failed
    pub still : old.failed ≡ true → new ≡ old
    pub cause : old.failed ≡ false → new.failed ≡ true → Rose (disk.failures old.disk) (disk.failures new.disk)
    pub commits : old.failed ≡ false → Commits disk asked old new

  -- the store was begun, and a trigger keeps a text that is no expression
  abbrev pub KeepsNoExpression : Ghosts D → D → D → Type 0
  KeepsNoExpression disk old new = (found : registry.State) × (have_expressions found ≡ false) × FindsRegistry disk old new found

  -- why a start was refused; that nothing was written where the file means no registry; and that it has no `Begin` where that is refused
  abbrev pub StartRefused : Ghosts D → Refusal → D → D → Type 0
  StartRefused disk refusals.Damaged old new = disk.honest new → (IsDamagedFile (disk.seen old) × WritesNothing disk old new) ⊎ KeepsNoExpression disk old new
  StartRefused disk refusals.Retired old new = disk.honest new → IsRetiredFile (disk.seen old) × WritesNothing disk old new
  StartRefused disk refusals.Exhausted old new = disk.honest new → ((found : registry.State) × (m : MeansRegistry found (disk.seen old)) × ((reply_to found Begin ≡ Refused refusals.Exhausted) ⊎ (max_counter ≤ m.number)))
      × ((found : registry.State) × MeansRegistry found (disk.seen old) × IsKeptOn disk found new)
  StartRefused disk refusals.DeviceFailed old new = Rose (disk.failures old) (disk.failures new)
  StartRefused disk refusals.NoMemory old new = Unit {0}
  StartRefused disk _ old new = ⊥

  -- what a refused start left: what a crash might have left before, or the registry that the file meant, perhaps with one more `Begin`
  abbrev pub StartCut : Ghosts D → D → D → Type 0
  StartCut disk old new = disk.honest new → WritesNothing disk old new ⊎ ((found : registry.State) × FindsRegistry disk old new found)
