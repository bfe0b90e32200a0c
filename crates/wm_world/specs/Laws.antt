-- What holds of every run.
use Rattle.std.specs.Prelude.{◌≡◌, ◌⊎◌, ℕ, ◌+◌, ◌≤◌, length, Bool, true, false, not, List, [], ◌∷◌, ◌++◌, Some, MatchOption}
use Rattle.std.specs.List.{AllByRecursion, filter}
use Rattle.wm_disk.specs.Contents.{Rose}
use Rattle.wm_disk.specs.Parts.{IsPartOf}
use Rattle.wm_names.specs.Paths.{Path}
use Rattle.wm_names.specs.declared.entry.Entry.{Entry}
use Rattle.wm_clock.specs.declared.clock_id.ClockId.{ClockId}
use Rattle.wm_clock.specs.Clocks.{clock_text, is_clock}
use Rattle.wm_registry.specs.declared.command.Command.{Command}
use Rattle.wm_registry.specs.declared.command.Command.TheVariants.{Begin}
use Rattle.wm_registry.specs.declared.root.Root.{Root}
use Rattle.wm_registry.specs.declared.version.Version.TheVariants.{Two}
use Rattle.wm_registry.specs.Registry.{changes}
use Rattle.wm_registry.specs.Roots.{root_at}
use Rattle.wm_store.specs.Batches.{accepted_of, is_begin}
use Rattle.wm_view.specs.Files.{Paths}
use Rattle.wm_view.specs.Histories.{History, is_ready, map_at, tick_of}
use Rattle.wm_since.specs.declared.query.Answer.{Answer}
use Rattle.wm_since.specs.Answers.{clock_of}
use Rattle.wm_since.specs.Matching.{matching_at}
use Rattle.wm_world.specs.declared.connection.Connection.{Connection}
use Rattle.wm_world.specs.declared.event.Event.{Event}
use Rattle.wm_world.specs.declared.event.Event.TheVariants as events
use Rattle.wm_world.specs.Worlds.{After, Alone, Between, World, history_in, cannot_rise, in_version, live, registry, replay, wants}
use Rattle.wm_world.specs.Steps.{IsPrefix, BatchDone, IsReached, Leads, Run, Step, answer_about, fits_migration}

-- ---- clients

-- these are exactly the files that pass in the view at the clock
abbrev pub MatchesAt : List History → (Entry → Bool) → Paths → ClockId → Type 0
MatchesAt hs passes files clock = (h : History) × (history_in hs clock.incarnation clock.root ≡ Some h) × (clock.tick ≤ tick_of h) × (files ≡ matching_at h passes clock.tick)

-- the clock is that of a root that was watched at the path, after some of the commands that are kept
pub record IsClockAt (kept : List Command) (path : Path) (clock : ClockId) : Type 0 where
  pub part : List Command
  pub begins : IsPrefix part kept
  pub root : Root
  pub there : root_at path (replay part) ≡ Some root
  pub number : root.number ≡ clock.root
  pub incarnation : (replay part).incarnation ≡ clock.incarnation

-- The list is exactly the matching files of the client's root in the view at the last clock, also where that incarnation is over. Before
-- the first answer it is empty.
abbrev pub ClientHolds : World → Connection → Type 0
ClientHolds w c = MatchOption c.mirror.clock (c.mirror.files ≡ []) (λ k. MatchesAt w.histories (wants c) c.mirror.files k × IsClockAt w.kept c.mirror.root k)

abbrev pub ClientsHold : Type 0
ClientsHold = (w : World) → IsReached w → AllByRecursion (ClientHolds w) w.clients

-- ---- clocks

abbrev pub IsAmong : History → List History → Type 0
IsAmong h [] = ⊥
IsAmong h (g ∷ gs) = (h ≡ g) ⊎ IsAmong h gs

-- two views are at one moment: of one history, with the same maps up to now
pub record SameMoment (g h : History) : Type 0 where
  pub incarnation : g.incarnation ≡ h.incarnation
  pub root : g.root ≡ h.root
  pub tick : tick_of g ≡ tick_of h
  pub maps : (t : ℕ) → t ≤ tick_of g → map_at g t ≡ map_at h t

-- the text of a view that is ready
abbrev pub IsTextOf : List ℕ → History → Type 0
IsTextOf text h = (is_ready h ≡ true) × (text ≡ clock_text (clock_of h))

-- One clock text names one moment: two views that stand in states of one run, in one state or in two, are at one moment if their
-- clocks have one text.
abbrev pub OneMoment : Type 0
OneMoment = (old new : World) (events : List Event) (g h : History) (text : List ℕ) → IsReached old → Run old events new
    → IsAmong g old.histories → IsAmong h new.histories → IsTextOf text g → IsTextOf text h → SameMoment g h

-- the answer is the one that a client is given now, about this view
pub record Gives (w : World) (a : Answer) (h : History) : Type 0 where
  pub client : Connection
  pub about : live w client.mirror.root ≡ Some h
  pub answer : answer_about client (Some h) ≡ Some a

-- and two answers whose clocks have one text were given at one moment
abbrev pub OneMomentOfAnswers : Type 0
OneMomentOfAnswers = (old new : World) (events : List Event) (a b : Answer) (g h : History) → IsReached old → Run old events new
    → Gives old a g → Gives new b h → clock_text a.clock ≡ clock_text b.clock → SameMoment g h

-- the numbers of each clock are those that a clock's text may have
abbrev pub InRange : Type 0
InRange = (w : World) (h : History) → IsReached w → IsAmong h w.histories → is_ready h ≡ true → is_clock (clock_of h) ≡ true

-- ---- commands

-- nothing is in flight while the server is up
abbrev pub PendingIsOwn : Type 0
PendingIsOwn = (w : World) → IsReached w → w.up ≡ true → w.pending ≡ []

abbrev pub without_begins : List Command → List Command
without_begins commands = filter (λ c. not (is_begin c)) commands

-- the commands that an event gives: those of a batch, in which a Begin is refused, and the Begin of a start
abbrev pub given_by : Event → List Command
given_by (events.Commands commands) = without_begins commands.items
given_by events.Open = Begin ∷ []
given_by _ = []

abbrev pub given : List Event → List Command
given [] = []
given (event ∷ events) = given_by event ++ given events

-- Nothing is invented: what is kept or in flight was given, in this order, each once.
abbrev pub NothingInvented : Type 0
NothingInvented = (events : List Event) (w : World) → Leads events w → IsPartOf (w.kept ++ w.pending) (given events)

-- what is kept stays, and a batch that is done keeps what it accepted
abbrev pub AcknowledgedStays : Type 0
AcknowledgedStays = (old mid new : World) (commands : List Command) (events : List Event) → BatchDone old commands mid → Run mid events new
    → IsPrefix (old.kept ++ accepted_of commands mid.replies) new.kept

abbrev pub KeptStays : Type 0
KeptStays = (old new : World) (events : List Event) → Run old events new → IsPrefix old.kept new.kept

-- by how much an event may raise the slot's number
abbrev pub raise_by : Event → ℕ
raise_by (events.Commands commands) = length commands.items
raise_by events.Checkpoint = 1
raise_by events.Open = 1
raise_by _ = 0

abbrev pub raised : List Event → ℕ
raised [] = 0
raised (event ∷ events) = raise_by event + raised events

-- so a short run spends no slot number
abbrev pub SlotBound : Type 0
SlotBound = (old new : World) (events : List Event) → Run old events new → new.slot ≤ old.slot + raised events

-- ---- restarts

-- A restart finds what was kept, a prefix of what was in flight, and one Begin more, which begins an incarnation. Where the server
-- isn't up after it, the same is kept without that Begin, and the device failed, or the incarnation or the slot's number is spent, or a
-- migration was cut and had retired the file.
abbrev pub RestartFinds : Type 0
RestartFinds = (old new : World) → old.up ≡ false → Step old events.Open new → (part : List Command) × IsPrefix part old.pending
    × (((new.up ≡ true) × (changes (replay (old.kept ++ part)) Begin ≡ true) × (registry new ≡ in_version old.version (replay (old.kept ++ part ++ Begin ∷ []))))
    ⊎ ((new.up ≡ false) × (new.kept ≡ old.kept ++ part) × (Rose old.faults new.faults ⊎ (cannot_rise old.slot ≡ true) ⊎ (changes (registry new) Begin ≡ false) ⊎ (old.stage ≡ Between))))

-- ---- migrations

-- A migration that fits finds what was kept, and a prefix of what was in flight. It is done: the file in use has version 2, with the registry
-- of that, and nothing is in flight; or the count of one of the devices rose, and the next migration fits. So one that isn't cut finishes.
abbrev pub MigrationFinds : Type 0
MigrationFinds = (old new : World) → fits_migration old ≡ true → Step old events.Migrate new → (part : List Command) × IsPrefix part old.pending × (new.up ≡ false) × (new.kept ≡ old.kept ++ part)
    × (((new.stage ≡ After) × (new.version ≡ Two) × (new.pending ≡ []) × (registry new ≡ in_version Two (replay (old.kept ++ part))))
    ⊎ ((Rose old.faults new.faults ⊎ Rose old.other_faults new.other_faults) × (new.version ≡ old.version) × (fits_migration new ≡ true)))

-- ---- files

-- where there is no other disk, none comes, and the file stays in its version
abbrev pub StaysAlone : Type 0
StaysAlone = (old new : World) (events : List Event) → Run old events new → old.stage ≡ Alone → (new.stage ≡ Alone) × (new.version ≡ old.version)
