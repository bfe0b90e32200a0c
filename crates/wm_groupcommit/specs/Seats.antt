-- What contracts say of a seat: whose it is, what it has submitted, and how a submit is answered.
use Rattle.std.specs.Prelude.{◌≡◌, ◌≤◌, ◌+◌, ◌⊎◌, ℕ, true, false, Some, List, [], ◌∷◌, ◌++◌, length, max, slice_get}
use Rattle.crossbeam_queue.specs.SegTies.{IsSegPassOf}
use Rattle.wm_disk.specs.declared.refusal.Refusal.{Refusal}
use Rattle.wm_disk.specs.declared.refusal.Refusal.TheVariants.{NoMemory, NotWatched, OldVersion, BadTrigger, Full, TooMany}
use Rattle.wm_registry.specs.declared.command.Command.{Command}
use Rattle.wm_registry.specs.declared.reply.Reply.{Reply}
use Rattle.wm_registry.specs.declared.reply.Reply.TheVariants.{Refused}
use Rattle.wm_registry.specs.Registry.{is_change, reply_to}
use Rattle.wm_registry.specs.Roots.{State}
use Rattle.wm_groupcommit.specs.declared.desk.Desk.{Desk}
use Rattle.wm_groupcommit.specs.declared.locked.flusher.Flusher.{Flusher}
use Rattle.wm_groupcommit.specs.declared.queued.Answer.{Answer}
use Rattle.wm_groupcommit.specs.declared.queued.Call.{Call}
use Rattle.wm_groupcommit.specs.declared.seat.Seat.{Seat}
use Rattle.wm_groupcommit.specs.Books.{answer, state_at}
use Rattle.wm_groupcommit.specs.CallQueues.{WasEmpty, call_view}
use Rattle.wm_groupcommit.specs.ReplyQueues.{newcomer, IsLater}
use Rattle.wm_groupcommit.specs.Receipts.{ReceiptState, shown, standing_for, mark_of}
use Rattle.wm_groupcommit.specs.Submits.{Declined, LookAnswered, TookOne, Unlooked}
use Rattle.wm_store.specs.Stored.{Stored}

module _ {D : Type 0} where
  -- the seat is one of this desk
  abbrev pub IsSeatOf : Desk D → Seat → Type 0
  IsSeatOf desk seat = IsSegPassOf desk.queue seat.pass

  abbrev pub IsFlusherOf : Desk D → Flusher → Type 0
  IsFlusherOf desk flusher = IsSegPassOf desk.queue flusher.pass

  -- This store was put under the desk's lock at first, with no command accepted at the desk, no seat and no flusher.
  pub record IsNewDesk (desk : Desk D) (store : Stored D) : Type 0 where
    pub store_is : desk.found.value.book.store ≡ store
    pub base : desk.found.value.book.base ≡ store.registry
    pub list : desk.found.value.book.list ≡ []
    pub ends : desk.found.value.ends ≡ []
    pub counts : desk.found.value.counts ≡ []
    pub flusher : desk.found.value.has_flusher ≡ false

-- the calls that the seat has put into the queue
abbrev pub pushed_calls : Seat → List Call
pushed_calls seat = seat.pass.me.view.client.pushed

-- the calls that the flusher has taken from the queue
abbrev pub popped_calls : Flusher → List Call
popped_calls flusher = flusher.pass.me.view.client.popped

-- at one moment no call was queued, and all that the seats had submitted was taken
abbrev pub FoundNone : Flusher → Type 0
FoundNone flusher = WasEmpty flusher.pass.me.view.client

-- the accepted commands that the flusher had when it last answered this seat
abbrev pub known_list : Seat → List Call
known_list seat = seat.replies.list

-- nothing was submitted from the seat yet
abbrev pub IsNewSeat : Seat → Type 0
IsNewSeat seat = (seat.pass.me.view.client ≡ call_view [] []) × (seat.replies ≡ newcomer seat.number) × (seat.calls ≡ 0) × (seat.seen ≡ 0)

-- the call that a submit from the seat makes
abbrev pub call_from : Seat → Command → Call
call_from seat command = record { seat = seat.number; count = seat.calls + 1; command = command }

-- the seat has put this call into the queue, and no other
abbrev pub HasPushed : Seat → Seat → Call → Type 0
HasPushed old new call = new.pass.me.view.client ≡ call_view (pushed_calls old ++ call ∷ []) old.pass.me.view.client.popped

-- It has seen as many commands as it had, or as a receipt tells of, and is the same seat else.
pub record HasLearnt (old new : Seat) (mark : ℕ) : Type 0 where
  pub seen : new.seen ≡ max old.seen mark
  pub number : new.number ≡ old.number
  pub calls : new.calls ≡ old.calls
  pub pass : new.pass ≡ old.pass
  pub replies : new.replies ≡ old.replies

-- It is the same seat, and the list that it then knows begins with what it knew.
pub record IsSameSeat (old new : Seat) : Type 0 where
  pub number : new.number ≡ old.number
  pub later : IsLater old.replies new.replies.base new.replies.list

-- The reply is the registry's after the first `at` commands of the list that the seat then knows, and the receipt tells so and is right for it.
pub record IsAnswered (old new : Seat) (command : Command) (reply : Reply) (receipt : ReceiptState) : Type 0 where
  pub base : State
  pub at : ℕ
  pub found : new.replies.base ≡ Some base
  pub later : (old.seen ≤ at) × (at ≤ length (known_list new))
  pub right : reply ≡ reply_to (state_at base (known_list new) at) command
  pub stands : is_change reply ≡ true → slice_get (known_list new) at ≡ Some (call_from old command)
  pub standing : shown receipt ≡ standing_for reply at command
  pub call : (receipt.seat ≡ old.number) × (receipt.count ≡ old.calls + 1)
  pub list : receipt.list ≡ known_list new
  pub seen : new.seen ≡ mark_of (shown receipt)
  pub calls : new.calls ≡ old.calls + 1
  pub taken : new.replies.got ≡ old.replies.got ++ answer (call_from old command) at reply ∷ []

-- The seat has put nothing into the queue and has taken no answer.
pub record IsUnused (old new : Seat) : Type 0 where
  pub calls : new.calls ≡ old.calls
  pub queue : new.pass.me.view.client ≡ old.pass.me.view.client
  pub replies : new.replies ≡ old.replies

-- The seat has put this call into the queue, and no other, and has taken one answer to a call of its own, which is this refusal or doesn't fit.
pub record IsDeclined (old new : Seat) (call : Call) (e : Refusal) : Type 0 where
  pub answer : Answer
  pub base : State
  pub pushed : HasPushed old new call
  pub calls : new.calls ≡ old.calls + 1
  pub taken : TookOne old.replies new.replies answer base
  pub own : answer.call.seat ≡ old.number
  pub declined : Declined old.seen call answer e

-- The seat has seen no more. Memory ran out before the call was made, or the call was made and declined.
pub record IsTurned (old new : Seat) (command : Command) (e : Refusal) : Type 0 where
  pub seen : new.seen ≡ old.seen
  pub why : ((e ≡ NoMemory) × IsUnused old new) ⊎ IsDeclined old new (call_from old command) e

-- The registry is that after so many commands of the list that the seat then knows, no fewer than it had seen; it has then seen these.
pub record HasLooked (old new : Seat) (registry : State) (count : ℕ) : Type 0 where
  pub base : State
  pub found : new.replies.base ≡ Some base
  pub later : (old.seen ≤ count) × (count ≤ length (known_list new))
  pub registry_is : registry ≡ state_at base (known_list new) count
  pub seen : new.seen ≡ count
  pub calls : new.calls ≡ old.calls
  pub queue : new.pass.me.view.client ≡ old.pass.me.view.client
  pub taken : LookAnswered old.replies new.replies old.seen new.seen registry count

-- The seat has seen no more and has put nothing into the queue. It has taken nothing; or a delivery that shows it no registry, or an older one.
pub record HasNotLooked (old new : Seat) : Type 0 where
  pub seen : new.seen ≡ old.seen
  pub calls : new.calls ≡ old.calls
  pub queue : new.pass.me.view.client ≡ old.pass.me.view.client
  pub why : (new.replies ≡ old.replies) ⊎ Unlooked old.replies new.replies old.seen

-- a refusal that the registry alone gives
abbrev pub IsOfRegistry : Refusal → Type 0
IsOfRegistry e = (e ≡ NotWatched) ⊎ (e ≡ BadTrigger) ⊎ (e ≡ Full) ⊎ (e ≡ TooMany) ⊎ (e ≡ OldVersion)

-- The registry refuses the command so after a prefix of the list that the seat then knows, not before what it had seen.
pub record IsRefusedAfter (old new : Seat) (command : Command) (e : Refusal) : Type 0 where
  pub base : State
  pub at : ℕ
  pub found : new.replies.base ≡ Some base
  pub later : (old.seen ≤ at) × (at ≤ length (known_list new))
  pub refused : reply_to (state_at base (known_list new) at) command ≡ Refused e
