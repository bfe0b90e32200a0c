-- How a world goes on, by one row for each kind of event.
use Rattle.std.specs.Prelude.{◌≡◌, ◌≢◌, ◌⊎◌, ℕ, zero, suc, ◌+◌, ◌≤◌, true, false, ◌&&◌, not, Bool, cond, List, [], ◌∷◌, ◌++◌, length, map, nat_le, Option, Some, None, MatchBool}
use Rattle.std.specs.List.{FoldsTo}
use Rattle.std.specs.Option.{option_map_or}
use Rattle.wm_disk.specs.Contents.{Rose}
use Rattle.wm_names.specs.Paths.{Path}
use Rattle.wm_expr.specs.Meanings.{is_path_only}
use Rattle.wm_expr.specs.Views.{term}
use Rattle.wm_registry.specs.Limits.{max_batch}
use Rattle.wm_registry.specs.declared.command.Command.{Command}
use Rattle.wm_registry.specs.declared.command.Command.TheVariants.{Begin}
use Rattle.wm_registry.specs.declared.reply.Reply.{Reply}
use Rattle.wm_registry.specs.Registry.{changes}
use Rattle.wm_registry.specs.Roots.{root_at}
use Rattle.wm_store.specs.Batches.{AreAnswered, IsOutOfMemory, accepted_of}
use Rattle.wm_view.specs.declared.op.Op.{Op}
use Rattle.wm_view.specs.declared.op.Op.TheVariants as ops
use Rattle.wm_view.specs.Histories.{History, after_operation, is_ready}
use Rattle.wm_since.specs.declared.query.Answer.{Answer}
use Rattle.wm_since.specs.Answers.{answer_to}
use Rattle.wm_since.specs.Clients.{next_question, received}
use Rattle.wm_world.specs.declared.connection.Connection.{Connection}
use Rattle.wm_world.specs.declared.event.Event.{Event}
use Rattle.wm_world.specs.declared.event.Event.TheVariants as events
use Rattle.wm_registry.specs.declared.version.Version.TheVariants.{Two}
use Rattle.wm_world.specs.Worlds.{Stage, Alone, Before, Between, After, World, at_first, begun_all, begun_between, connected, is_of, cannot_rise, live, nothing_yet, nothing_yet_of_two, registry, replay, wants, without_answer}

-- the number rose by so much at most
abbrev pub MayRaise : ℕ → ℕ → ℕ → Type 0
MayRaise before later by = (before ≤ later) × (later ≤ before + by)

-- the server goes down: each answer on its way is lost
abbrev pub down : World → World
down w = record w { up = false; clients = map without_answer w.clients }

-- this is a prefix of those
abbrev pub IsPrefix : List Command → List Command → Type 0
IsPrefix part whole = (rest : List Command) × (part ++ rest ≡ whole)

-- ---- commands

-- A batch that is done: each command is answered as the registry has it, and none `16`. The accepted ones are kept, and
-- each root number that they gave away begins a history, also one that the same batch took back.
abbrev pub BatchDone : World → List Command → World → Type 0
BatchDone old commands new =
    (replies : List Reply) × AreAnswered (registry old).version new.slot 0 (registry old) commands replies × (IsOutOfMemory replies → ⊥)
    × MayRaise old.slot new.slot (length commands)
    × (new ≡ record old {
      kept = old.kept ++ accepted_of commands replies;
      replies = replies;
      slot = new.slot;
      histories = old.histories ++ begun_between (registry old) (replay (old.kept ++ accepted_of commands replies));
    })

-- The device failed, which only a rise of its count tells: the server goes down with these commands in flight.
abbrev pub Cut : ℕ → World → List Command → World → Type 0
Cut by old commands new =
    Rose old.faults new.faults × (old.faults ≤ new.faults) × MayRaise old.slot new.slot by
    × (new ≡ record (down old) { pending = commands; faults = new.faults; slot = new.slot })

-- In flight is what the batch accepts, which is something. A growth may have been refused for some commands before the device failed:
-- the batch's one answer doesn't tell.
abbrev pub BatchCut : World → List Command → World → Type 0
BatchCut old commands new =
    (replies : List Reply) × AreAnswered (registry old).version new.slot 0 (registry old) commands replies × (accepted_of commands replies ≢ [])
    × Cut (length commands) old (accepted_of commands replies) new

-- done, or refused since the slot's number is spent
abbrev pub Checkpointed : World → World → Type 0
Checkpointed old new = (new ≡ record old { slot = old.slot + 1 }) ⊎ ((cannot_rise old.slot ≡ true) × (new ≡ old))

-- ---- a start

-- what is kept turns out to be this: what was, and a prefix of what was in flight
abbrev pub Finds : World → List Command → Type 0
Finds old found = (part : List Command) × IsPrefix part old.pending × (found ≡ old.kept ++ part)

-- the Begin of a start, where the registry accepts it
abbrev pub begin_on : List Command → List Command
begin_on found = cond (changes (replay found) Begin) (Begin ∷ []) []

-- where the file turns out not to be retired, the migration is to be begun anew
abbrev pub reopened : Stage → Stage
reopened Between = Before
reopened Alone = Alone
reopened Before = Before
reopened After = After

abbrev pub Opened : World → World → Type 0
Opened old new = (found : List Command) × Finds old found × MayRaise old.slot new.slot 1 × (changes (replay found) Begin ≡ true)
    × (new ≡ record old {
      stage = reopened old.stage;
      kept = found ++ Begin ∷ [];
      pending = [];
      up = true;
      slot = new.slot;
      histories = old.histories ++ begun_all (replay (found ++ Begin ∷ []));
    })

-- the device failed before its content was made durable
abbrev pub OpenCutEarly : World → World → Type 0
OpenCutEarly old new = Rose old.faults new.faults × (old.faults ≤ new.faults) × (new ≡ record old { faults = new.faults })

-- the device failed later: what is kept is known, and the Begin may be in flight
abbrev pub OpenCutLate : World → World → Type 0
OpenCutLate old new = Rose old.faults new.faults × (old.faults ≤ new.faults) × MayRaise old.slot new.slot 1
    × ((found : List Command) × Finds old found × (new ≡ record old { stage = reopened old.stage; kept = found; pending = begin_on found; faults = new.faults; slot = new.slot }))

-- refused, since the incarnation or the slot's number is spent
abbrev pub OpenSpent : World → World → Type 0
OpenSpent old new = MayRaise old.slot new.slot 1
    × ((found : List Command) × Finds old found × ((changes (replay found) Begin ≡ false) ⊎ (cannot_rise old.slot ≡ true))
    × (new ≡ record old { stage = reopened old.stage; kept = found; pending = []; slot = new.slot }))

-- refused, since a migration was cut and had retired the file
abbrev pub OpenRetired : World → World → Type 0
OpenRetired old new = (old.stage ≡ Between) × (new ≡ old)

abbrev pub OpenEnds : World → World → Type 0
OpenEnds old new = Opened old new ⊎ OpenCutEarly old new ⊎ OpenCutLate old new ⊎ OpenSpent old new ⊎ OpenRetired old new

-- a loss of power keeps what was kept, and a prefix of what was in flight
abbrev pub Crashed : World → World → Type 0
Crashed old new = (found : List Command) × Finds old found × (new ≡ record (down old) { kept = found; pending = [] })

-- ---- a migration

-- done: what is kept is known, and the server goes on with the new file, which keeps it in version 2. So the disks change places
abbrev pub MigrateDone : World → World → Type 0
MigrateDone old new = (found : List Command) × Finds old found
    × (new ≡ record old { version = Two; stage = After; kept = found; pending = []; faults = old.other_faults; other_faults = old.faults })

-- one of the two devices failed, which only a rise of its count tells
abbrev pub OneFailed : World → World → Type 0
OneFailed old new = (Rose old.faults new.faults ⊎ Rose old.other_faults new.other_faults) × (old.faults ≤ new.faults) × (old.other_faults ≤ new.other_faults)

-- before anything was written
abbrev pub MigrateCutEarly : World → World → Type 0
MigrateCutEarly old new = OneFailed old new × (new ≡ record old { faults = new.faults; other_faults = new.other_faults })

-- later: what is kept is known, and the old file may be retired
abbrev pub MigrateCutLate : World → World → Type 0
MigrateCutLate old new = OneFailed old new
    × ((found : List Command) × Finds old found × (new ≡ record old { stage = Between; kept = found; pending = []; faults = new.faults; other_faults = new.other_faults }))

abbrev pub MigrateEnds : World → World → Type 0
MigrateEnds old new = MigrateDone old new ⊎ MigrateCutEarly old new ⊎ MigrateCutLate old new

-- there is another disk, and the migration isn't done
abbrev pub is_to_migrate : Stage → Bool
is_to_migrate Alone = false
is_to_migrate Before = true
is_to_migrate Between = true
is_to_migrate After = false

-- ---- views

-- an operation on the history of a watched root; one that is refused changes nothing
abbrev pub operated : Path → Op → World → World
operated path op w =
    option_map_or (λ root. record w { histories = at_first (is_of (registry w).incarnation root.number) (λ h. after_operation h op) w.histories }) (root_at path (registry w)) w

-- ---- clients

-- the answer about this history, and none where it isn't ready
abbrev pub answer_about : Connection → Option History → Option Answer
answer_about c None = None
answer_about c (Some h) = cond (is_ready h) (Some (answer_to (wants c) h (next_question c.mirror))) None

-- an answer is on its way; a question that is refused has none, and is lost
abbrev pub with_answer : Connection → Option Answer → Connection
with_answer c None = c
with_answer c (Some a) = record { mirror = record c.mirror { asked = true }; answer = Some a }

-- a client whose question is open asks no other
abbrev pub asking : World → Connection → Connection
asking w c = cond c.mirror.asked c (with_answer c (answer_about c (live w c.mirror.root)))

abbrev pub applied : Connection → Option Answer → Connection
applied c None = c
applied c (Some a) = record { mirror = received c.mirror a; answer = None }

abbrev pub receiving : Connection → Connection
receiving c = applied c c.answer

-- the client with this number is changed
abbrev pub changed_at : (Connection → Connection) → ℕ → List Connection → List Connection
changed_at f n [] = []
changed_at f zero (c ∷ cs) = f c ∷ cs
changed_at f (suc n) (c ∷ cs) = c ∷ changed_at f n cs

abbrev pub with_client : (Connection → Connection) → ℕ → World → World
with_client f n w = record w { clients = changed_at f n w.clients }

-- ---- what needs the server up or down

-- not too many commands, while the server is up
abbrev pub batch : List Command → World → World → Type 0
batch commands old new = MatchBool (old.up && nat_le (length commands) max_batch) (BatchDone old commands new ⊎ BatchCut old commands new) (new ≡ old)

abbrev pub checkpointed : World → World → Type 0
checkpointed old new = MatchBool old.up (Checkpointed old new ⊎ Cut 1 old [] new) (new ≡ old)

abbrev pub opened : World → World → Type 0
opened old new = MatchBool old.up (new ≡ old) (OpenEnds old new)

-- a migration fits while the server is down, and there is one to be done
abbrev pub fits_migration : World → Bool
fits_migration w = not w.up && is_to_migrate w.stage

abbrev pub migrated : World → World → Type 0
migrated old new = MatchBool (fits_migration old) (MigrateEnds old new) (new ≡ old)

-- ---- the relation. An event that doesn't fit changes nothing

abbrev pub Step : World → Event → World → Type 0
Step old (events.Commands commands) new = batch commands.items old new
Step old events.Checkpoint new = checkpointed old new
Step old events.Open new = opened old new
Step old events.Migrate new = migrated old new
Step old (events.Arm calls) new = new ≡ old
Step old (events.ArmOther calls) new = new ≡ old
Step old events.Crash new = Crashed old new
Step old events.Stop new = new ≡ down old
Step old (events.Observe path moment pairs) new = new ≡ cond old.up (operated path (ops.Observe moment pairs) old) old
Step old (events.Recrawl path moment begun_at found) new = new ≡ cond old.up (operated path (ops.Recrawl moment begun_at found) old) old
Step old (events.AgeOut path time age) new = new ≡ cond old.up (operated path (ops.AgeOut time age) old) old
Step old (events.Client path test) new = new ≡ cond (is_path_only (term test)) (record old { clients = old.clients ++ connected path test ∷ [] }) old
Step old (events.Ask n) new = new ≡ cond old.up (with_client (asking old) n old) old
Step old (events.Receive n) new = new ≡ with_client receiving n old
Step old (events.Lose n) new = new ≡ with_client without_answer n old

abbrev pub Run : World → List Event → World → Type 0
Run old events new = FoldsTo Step old events new

-- a run over these events leads here, from nothing accepted and the server down, on one file or on two
abbrev pub Leads : List Event → World → Type 0
Leads events w = ((faults : ℕ) × Run (nothing_yet faults) events w) ⊎ ((faults : ℕ) × (other_faults : ℕ) × Run (nothing_yet_of_two faults other_faults) events w)

abbrev pub IsReached : World → Type 0
IsReached w = (events : List Event) × Leads events w
