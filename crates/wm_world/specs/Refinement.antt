-- How a world that runs stands to the definition.
use Rattle.std.specs.Prelude.{◌≡◌, ◌⊎◌, ◌≤◌, ◌<◌, ℕ, Bool, true, false, cond, List, [], ◌++◌, map, ◌==◌, Option, Some, None, option_map}
use Rattle.std.specs.List.{AllByRecursion, find}
use Rattle.std.specs.Option.{option_map_or}
use Rattle.wm_disk.specs.Calls.{EachLeft}
use Rattle.wm_disk.specs.declared.disk.Disk as disks
use Rattle.wm_checkpoint.specs.Numbers.{IsNumberedTo}
use Rattle.wm_checkpoint.specs.Layout.{sizes_1}
use Rattle.wm_checkpoint.specs.Meanings.{IsRetired}
use Rattle.wm_names.specs.Paths.{Path}
use Rattle.wm_disk.specs.declared.refusal.Refusal.TheVariants.{NoMemory}
use Rattle.wm_registry.specs.declared.reply.Reply.{Reply}
use Rattle.wm_registry.specs.declared.reply.Reply.TheVariants.{Refused}
use Rattle.wm_registry.specs.Roots.{State, root_at}
use Rattle.wm_registry.specs.Versions.{sizes_of}
use Rattle.wm_registry.specs.declared.version.Version.TheVariants.{One, Two}
use Rattle.wm_store.specs.Migrations.{HoldsMoved}
use Rattle.wm_store.specs.Stored.{Stored}
use Rattle.wm_view.specs.Histories.{History}
use Rattle.wm_view.specs.Summaries.{Summary, summary}
use Rattle.wm_since.specs.declared.query.Answer.{Answer}
use Rattle.wm_since.specs.Answers.{answer_by}
use Rattle.wm_since.specs.Clients.{next_question}
use Rattle.wm_world.specs.declared.connection.Connection.{Connection}
use Rattle.wm_world.specs.declared.other.Other.{Other}
use Rattle.wm_world.specs.declared.other.Other.TheVariants.{Nothing, New, Old}
use Rattle.wm_world.specs.declared.world.World.{World as Running}
use Rattle.wm_world.specs.declared.world.Server.{Server}
use Rattle.wm_world.specs.declared.world.Server.TheVariants.{Up, Down}
use Rattle.wm_world.specs.Worlds.{Alone, Before, Between, After, World, registry, wants}
use Rattle.wm_world.specs.Steps.{IsReached, with_answer}
use Rattle.wm_store.specs.Meant.{MeansAfter}

-- ---- by what the views show alone

-- the view of the root with the number
abbrev pub is_root : ℕ → Summary → Bool
is_root number view = view.root == number

abbrev pub view_at : State → List Summary → Path → Option Summary
view_at s views path = option_map_or (λ root. find (is_root root.number) views) (root_at path s) None

abbrev pub answer_by_view : Connection → Option Summary → Option Answer
answer_by_view c None = None
answer_by_view c (Some view) = cond view.ready (Some (answer_by (wants c) view (next_question c.mirror))) None

abbrev pub asking_by : State → List Summary → Connection → Connection
asking_by s views c = cond c.mirror.asked c (with_answer c (answer_by_view c (view_at s views c.mirror.root)))

-- memory ran out for the command with this reply
abbrev pub is_out_of_memory : Reply → Bool
is_out_of_memory (Refused NoMemory) = true
is_out_of_memory _ = false

-- ---- disks

-- the disk in use, and the one beside it
pub record Disks (D : Type 0) : Type 0 where
  pub used : D
  pub other : Other D

-- the disk beside is so, where there is one
abbrev pub OtherIs : {D : Type 0} → (D → Type 0) → Other D → Type 0
OtherIs P Nothing = Unit {0}
OtherIs P (New d) = P d
OtherIs P (Old d) = P d

-- ---- a world that runs

-- The views are those of the histories of this incarnation, in their order.
pub record AreViews (views : List Summary) (w : World) : Type 0 where
  pub past : List History
  pub present : List History
  pub all : w.histories ≡ past ++ present
  pub over : AllByRecursion (λ h. h.incarnation < (registry w).incarnation) past
  pub now : AllByRecursion (λ h. h.incarnation ≡ (registry w).incarnation) present
  pub shown : views ≡ map summary present

-- the number of the root that is watched at the path, while the server is up
abbrev pub number_at : {D : Type 0} → Server D → Path → Option ℕ
number_at (Up store other) path = option_map (λ root. root.number) (root_at path store.registry)
number_at (Down d other) path = None

-- what a world that runs shows: its registry while it is up, the last replies, its views, and its clients
abbrev pub server_registry : {D : Type 0} → Server D → Option State
server_registry (Up store other) = Some store.registry
server_registry (Down d other) = None

abbrev pub registry_of : {D : Type 0} → Running D → Option State
registry_of world = server_registry world.server

abbrev pub replies_of : {D : Type 0} → Running D → List Reply
replies_of world = world.shown.replies.items

abbrev pub views_of : {D : Type 0} → Running D → List Summary
views_of world = world.shown.views.items

abbrev pub clients_of : {D : Type 0} → Running D → List Connection
clients_of world = world.shown.clients.items

module _ {D : Type 0} (disk : disks.Ghosts D) where
  -- ---- contents

  -- The old file was retired by a migration that was cut: then every content that a crash may leave of the new one means the registry, the
  -- server is down and nothing is in flight.
  pub record IsMovedTo (new : D) (w : World) (content : List ℕ) : Type 0 where
    pub stage : w.stage ≡ Between
    pub down : w.up ≡ false
    pub none : w.pending ≡ []
    pub retired : IsRetired sizes_1 content
    pub holds : HoldsMoved disk new (registry w)

  abbrev pub IsRetiredBeside : Other D → World → List ℕ → Type 0
  IsRetiredBeside Nothing w content = ⊥
  IsRetiredBeside (New new) w content = IsMovedTo new w content
  IsRetiredBeside (Old old) w content = ⊥

  -- The content means the replay of what is kept and a prefix of what is in flight; or it is retired, and the new file means that.
  pub record KeepsPrefix (other : Other D) (w : World) (content : List ℕ) : Type 0 where
    pub means : MeansAfter (registry w) w.pending content ⊎ IsRetiredBeside other w content
    pub numbered : IsNumberedTo (sizes_of w.version) w.slot content

  -- The disk beside is as the stage has it, and has failed so often; the file in use is of version 1 if a new one stands beside it,
  -- and else of version 2. An old file stays retired.
  abbrev pub IsBeside : Other D → World → Type 0
  IsBeside Nothing w = (w.stage ≡ Alone) × (w.version ≡ Two)
  IsBeside (New new) w = ((w.stage ≡ Before) ⊎ (w.stage ≡ Between)) × (w.version ≡ One) × (disk.failures new ≡ w.other_faults)
  IsBeside (Old old) w = (w.stage ≡ After) × (w.version ≡ Two) × (disk.failures old ≡ w.other_faults) × EachLeft disk old (IsRetired sizes_1)

  -- Every content that a crash may leave keeps the prefix, the disk in use has failed so often, and the other is as the stage has it.
  pub record IsOn (d : Disks D) (w : World) : Type 0 where
    pub prefix : EachLeft disk d.used (KeepsPrefix d.other w)
    pub faults : disk.failures d.used ≡ w.faults
    pub beside : IsBeside d.other w

  pub record IsUp (store : Stored D) (other : Other D) (views : List Summary) (w : World) : Type 0 where
    pub up : w.up ≡ true
    pub whole : store.failed ≡ false
    pub open_yet : store.closed ≡ false
    pub registry_is : store.registry ≡ registry w
    pub number : store.number ≤ w.slot
    pub on : IsOn (record { used = store.disk; other = other }) w
    pub views_are : AreViews views w

  pub record IsDown (d : D) (other : Other D) (views : List Summary) (w : World) : Type 0 where
    pub down : w.up ≡ false
    pub none : views ≡ []
    pub on : IsOn (record { used = d; other = other }) w

  abbrev pub IsServer : Server D → List Summary → World → Type 0
  IsServer (Up store other) views w = IsUp store other views w
  IsServer (Down d other) views w = IsDown d other views w

  abbrev pub disks_of_server : Server D → Disks D
  disks_of_server (Up store other) = record { used = store.disk; other = other }
  disks_of_server (Down d other) = record { used = d; other = other }

  abbrev pub disk_of_server : Server D → D
  disk_of_server server = (disks_of_server server).used

  -- those of a world that runs: the one in use, and the one beside it
  abbrev pub disks_of_world : Running D → Disks D
  disks_of_world world = disks_of_server world.server

  abbrev pub disk_of_world : Running D → D
  disk_of_world world = disk_of_server world.server

  -- The world that runs is as this one: its registry, last replies, views, clients and answers on their way.
  pub record Refines (world : Running D) (w : World) : Type 0 where
    pub server : IsServer world.server (views_of world) w
    pub replies : replies_of world ≡ w.replies
    pub clients : clients_of world ≡ w.clients

  -- each disk keeps the laws on reads and crashes
  abbrev pub AreHonest : Disks D → Type 0
  AreHonest d = disk.honest d.used × OtherIs disk.honest d.other

  -- A call takes the world that runs from any state to one that this row leads to, and its disks so. They are honest afterwards only where
  -- they were before, and no other disk comes where there was none.
  pub record Simulates (row : World → World → Type 0) (way : Disks D → World → Disks D → World → Type 0) (old new : Running D) : Type 0 where
    pub honest : AreHonest (disks_of_world new) → AreHonest (disks_of_world old)
    pub alone : (disks_of_world old).other ≡ Nothing → (disks_of_world new).other ≡ Nothing
    pub goes : AreHonest (disks_of_world new) → (w : World) → IsReached w → Refines old w → (v : World) × row w v × Refines new v × way (disks_of_world old) w (disks_of_world new) v
