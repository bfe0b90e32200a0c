-- How a command of a session was met at the desk, as the session's seat knows it.
use Rattle.std.specs.Prelude.{◌≡◌, ◌⊎◌, ◌≤◌, ◌+◌, ℕ, Bool, true, false, List, [], Option, Some, None, length}
use Rattle.wm_disk.specs.declared.refusal.Refusal.{Refusal}
use Rattle.wm_disk.specs.declared.refusal.Refusal.TheVariants.{BadArguments, DeviceFailed, Exhausted, NoMemory, StoreFailed}
use Rattle.wm_registry.specs.declared.command.Command.{Command}
use Rattle.wm_registry.specs.declared.reply.Reply.{Reply}
use Rattle.wm_registry.specs.declared.reply.Reply.TheVariants.{Refused}
use Rattle.wm_registry.specs.Roots.{State}
use Rattle.wm_store.specs.Batches.{is_begin}
use Rattle.wm_groupcommit.specs.Books.{state_at}
use Rattle.wm_groupcommit.specs.declared.queued.Call.{Call}
use Rattle.wm_groupcommit.specs.declared.receipt.Standing.{Standing}
use Rattle.wm_groupcommit.specs.declared.seat.Seat.{Seat}
use Rattle.wm_groupcommit.specs.Receipts.{ReceiptState, shown}
use Rattle.wm_groupcommit.specs.Seats.{HasPushed, IsAnswered, IsNewSeat, IsOfRegistry, IsRefusedAfter, IsSameSeat, IsTurned, call_from, known_list, pushed_calls}
use Rattle.wm_session.specs.session.Faults.{Way, Defined, Device, Memory, Spent}
use Rattle.wm_session.specs.session.Sessions.{SessionState}

-- ---- what the desk says

-- The desk answered the command, and a receipt tells where it stands.
pub record IsReceipted (old : Seat) (command : Command) (reply : Reply) (standing : Option Standing) (new : Seat) : Type 0 where
  pub receipt : ReceiptState
  pub answered : IsAnswered old new command reply receipt
  pub pushed : HasPushed old new (call_from old command)
  pub standing_is : standing ≡ Some (shown receipt)

-- The desk refused it.
pub record IsRefusedAtDesk (old : Seat) (command : Command) (reply : Reply) (standing : Option Standing) (new : Seat) : Type 0 where
  pub refusal : Refusal
  pub reply_is : reply ≡ Refused refusal
  pub standing_is : standing ≡ None
  pub turned : IsTurned old new command refusal
  pub refused : IsOfRegistry refusal → IsRefusedAfter old new command refusal
  pub begin : refusal ≡ BadArguments → is_begin command ≡ true

abbrev pub IsReplied : Seat → Command → Reply → Option Standing → Seat → Type 0
IsReplied old command reply standing new = IsReceipted old command reply standing new ⊎ IsRefusedAtDesk old command reply standing new

-- ---- a session's seat

-- It is the same seat, and has seen no fewer commands than it had.
abbrev pub SeatGoesOn : Seat → Seat → Type 0
SeatGoesOn old new = IsSameSeat old new × (old.seen ≤ new.seen)

-- a seat that the session has, it keeps
abbrev pub KeepsSeat : Option Seat → Option Seat → Type 0
KeepsSeat None now = Unit {0}
KeepsSeat (Some old) now = (new : Seat) × (now ≡ Some new) × SeatGoesOn old new

-- the seat that the session has, or a new one
abbrev pub IsSatOn : Option Seat → Seat → Type 0
IsSatOn None seat = IsNewSeat seat
IsSatOn (Some old) seat = seat ≡ old

-- how many commands it has seen
abbrev pub seen_by : Option Seat → ℕ
seen_by None = 0
seen_by (Some seat) = seat.seen

-- what it has submitted
abbrev pub calls_of : Option Seat → List Call
calls_of None = []
calls_of (Some seat) = pushed_calls seat

-- ---- where a command is met

-- The registry is that after the first `at` commands of the list that the seat then knows, no fewer than these that were seen.
pub record IsRegistryAfter (seen : ℕ) (new : Seat) (registry : State) : Type 0 where
  pub base : State
  pub at : ℕ
  pub found : new.replies.base ≡ Some base
  pub later : (seen ≤ at) × (at ≤ length (known_list new))
  pub registry_is : registry ≡ state_at base (known_list new) at

-- It was met on the registry after all that the seat had seen, and if it is accepted it is the next command that the seat has then seen.
pub record IsMetAfter (old new : Seat) (accepts : Bool) (s : SessionState) : Type 0 where
  pub after : IsRegistryAfter old.seen new s.registry
  pub works : s.has_failed ≡ false
  pub seen : accepts ≡ true → new.seen ≡ after.at + 1

abbrev pub IsTurnedBy : Seat → Seat → Refusal → Type 0
IsTurnedBy old new e = (command : Command) × IsTurned old new command e

-- ---- what the roots have followed

-- `followed n` says that the watched roots had followed at least so many of the accepted commands
module _ (followed : ℕ → Type 0) where
  -- The roots have followed an accepted command itself, and all that another reply shows, unless that is a refusal.
  abbrev pub IsReplyFollowed : Bool → ℕ → Seat → Seat → Type 0
  IsReplyFollowed true at old new = followed (at + 1)
  IsReplyFollowed false at old new = followed at ⊎ ((e : Refusal) × IsTurnedBy old new e)

  -- what the seat knows of a command that was met in a way
  abbrev pub IsCommandFoundBy : Way → Bool → Seat → SessionState → Seat → Type 0
  IsCommandFoundBy Defined accepts old s new = ((met : IsMetAfter old new accepts s) × IsReplyFollowed accepts met.after.at old new) ⊎ ((s.has_failed ≡ true) × IsTurnedBy old new StoreFailed)
  IsCommandFoundBy Device accepts old s new = IsTurnedBy old new DeviceFailed
  IsCommandFoundBy Memory accepts old s new = IsTurnedBy old new NoMemory
  IsCommandFoundBy Spent accepts old s new = IsTurnedBy old new Exhausted

  -- Memory ran out before it was submitted; or the session's seat, or a new one, submitted it.
  abbrev pub IsSubmittedBy : Way → Bool → Option Seat → SessionState → Option Seat → Type 0
  IsSubmittedBy way accepts old s now =
      ((way ≡ Memory) × KeepsSeat old now × (calls_of now ≡ calls_of old))
      ⊎ ((seat : Seat) × (new : Seat) × IsSatOn old seat × (now ≡ Some new) × SeatGoesOn seat new × IsCommandFoundBy way accepts seat s new)
