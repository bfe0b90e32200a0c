-- What a contract sees of the locked book with the flusher's ends.
use Rattle.std.specs.Prelude.{◌≡◌, ◌⊎◌, ℕ, suc, nat_eq, cond, Bool, true, List, [], ◌∷◌, ◌++◌, length, map, Option, Some, None}
use Rattle.wm_disk.specs.declared.disk.Disk as disks
use Rattle.wm_disk.specs.Contents.{Rose}
use Rattle.wm_disk.specs.declared.refusal.Refusal.{Refusal}
use Rattle.wm_disk.specs.declared.refusal.Refusal.TheVariants.{BadArguments, DeviceFailed, StoreFailed}
use Rattle.wm_store.specs.Calls.{IsOver}
use Rattle.wm_registry.specs.declared.command.Command.TheVariants.{Begin}
use Rattle.wm_registry.specs.declared.reply.Reply.TheVariants.{Refused}
use Rattle.wm_registry.specs.Roots.{State}
use Rattle.wm_groupcommit.specs.declared.queued.Answer.{Answer}
use Rattle.wm_groupcommit.specs.declared.queued.Call.{Call}
use Rattle.wm_groupcommit.specs.declared.locked.deliveries.Delivery.{Delivery}
use Rattle.wm_groupcommit.specs.declared.locked.deliveries.ReplyView.{ReplyView}
use Rattle.wm_groupcommit.specs.Books.{AllRight, answer}
use Rattle.wm_groupcommit.specs.BookState.{BookState}
use Rattle.wm_groupcommit.specs.Commits.{IsCommit}
use Rattle.wm_groupcommit.specs.Counting.{newer_of}
use Rattle.wm_groupcommit.specs.ReplyQueues.{IsLater}

-- the book, what the flusher's end to each seat knows, each seat's last count, and whether the flusher's place is taken
pub record LockedState (D : Type 0) : Type 0 where
  pub book : BookState D
  pub ends : List ReplyView
  pub counts : List ℕ
  pub has_flusher : Bool

-- what a flush did: the calls that it took, and how many of them it answered
pub record FlushedState : Type 0 where
  pub calls : List Call
  pub count : ℕ

-- the most seats of a desk
abbrev pub seats : ℕ
seats = 64

-- each seat's list is a prefix of the one list
abbrev pub AllLater : List ReplyView → Option State → List Call → Type 0
AllLater [] base list = Unit {0}
AllLater (v ∷ vs) base list = IsLater v base list × AllLater vs base list

-- the first of these ends is the one to seat n, and each other one is the one to the next seat
abbrev pub AreNumbered : ℕ → List ReplyView → Type 0
AreNumbered n [] = Unit {0}
AreNumbered n (v ∷ vs) = (v.seat ≡ Some n) × AreNumbered (suc n) vs

-- ---- what the ends hand over

-- an answer with the book as it was then, and the registry that is shown with it, if one is
abbrev pub delivery_of : State → List Call → Option State → Answer → Delivery
delivery_of base list registry a = record { answer = a; seen = record { marker = record {}; value = record { base = base; list = list } }; registry = registry }

abbrev pub deliveries_of : State → List Call → List Answer → List Delivery
deliveries_of base list answers = map (delivery_of base list None) answers

-- what a seat that looks is handed: a copy of the registry after all of the list, with the answer to a `Begin`, which is no call of it
abbrev pub shown_to : ℕ → State → List Call → State → Delivery
shown_to seat base list registry = delivery_of base list (Some registry) (answer (record { seat = seat; count = 0; command = Begin }) (length list) (Refused BadArguments))

-- those of the deliveries that are for seat n
abbrev pub to_seat : ℕ → List Delivery → List Delivery
to_seat n [] = []
to_seat n (x ∷ xs) = cond (nat_eq x.answer.call.seat n) (x ∷ to_seat n xs) (to_seat n xs)

-- The first of these ends, the one to seat n, has handed over just those of the deliveries that are for this seat, in their order; and each other one those for the next seat
abbrev pub HaveGiven : ℕ → List Delivery → List ReplyView → List ReplyView → Type 0
HaveGiven n xs [] ws = ws ≡ []
HaveGiven n xs (v ∷ vs) [] = ⊥
HaveGiven n xs (v ∷ vs) (w ∷ ws) = (w.given ≡ v.given ++ to_seat n xs) × HaveGiven (suc n) xs vs ws

module _ {D : Type 0} (disk : disks.Ghosts D) where
  -- The calls that are newer than their seat's last were committed. Each answer was handed to the seat that called, and to no other
  abbrev pub IsFlushed : LockedState D → LockedState D → List Call → ℕ → Type 0
  IsFlushed old new calls count =
      (answers : List Answer) × IsCommit disk old.book new.book (newer_of old.counts calls) answers × AllRight new.book.base new.book.list answers × (count ≡ length answers)
      × HaveGiven 0 (deliveries_of new.book.base new.book.list answers) old.ends new.ends

  -- Why a closing was refused: the store had failed or was closed, and is as it was; or the device failed in the call, and the store with it
  abbrev pub IsUnclosed : LockedState D → LockedState D → Refusal → Type 0
  IsUnclosed old new e =
      ((e ≡ StoreFailed) × IsOver old.book.store × (new.book.store ≡ old.book.store))
      ⊎ ((e ≡ DeviceFailed) × Rose (disk.failures old.book.store.disk) (disk.failures new.book.store.disk) × (new.book.store.failed ≡ true))
