-- What a commit does to the book.
use Rattle.std.specs.Prelude.{◌≡◌, true, List, ◌++◌, length, ◌⊎◌}
use Rattle.wm_disk.specs.Contents.{Rose}
use Rattle.wm_disk.specs.declared.disk.Disk as disks
use Rattle.wm_disk.specs.declared.refusal.Refusal.{Refusal}
use Rattle.wm_disk.specs.declared.refusal.Refusal.TheVariants.{StoreFailed, DeviceFailed, NoMemory}
use Rattle.wm_registry.specs.declared.reply.Reply.{Reply}
use Rattle.wm_store.specs.Batches.{AreAnswered}
use Rattle.wm_store.specs.Calls.{IsOver}
use Rattle.wm_groupcommit.specs.declared.queued.Call.{Call}
use Rattle.wm_groupcommit.specs.declared.queued.Answer.{Answer}
use Rattle.wm_groupcommit.specs.Books.{commands_of, accepted_calls, answers_from, all_refused}
use Rattle.wm_groupcommit.specs.BookState.{BookState}

module _ {D : Type 0} (disk : disks.Ghosts D) where
  -- why a whole list was refused: the store had failed or was closed; the device failed in the call, and the store with it; memory ran out and nothing is changed
  abbrev pub Cause : Refusal → BookState D → BookState D → Type 0
  Cause e old new =
      ((e ≡ StoreFailed) × IsOver old.store × (new ≡ old))
      ⊎ ((e ≡ DeviceFailed) × (IsOver old.store → ⊥) × Rose (disk.failures old.store.disk) (disk.failures new.store.disk) × (new.store.failed ≡ true))
      ⊎ ((e ≡ NoMemory) × (new ≡ old))

  -- the store works; the accepted calls are appended in their order, and the answers are the store's replies one after the other
  abbrev pub IsMetAll : BookState D → BookState D → List Call → List Answer → Type 0
  IsMetAll old new calls answers =
      (rs : List Reply) × (IsOver old.store → ⊥) × AreAnswered old.store.registry.version new.store.number new.store.room old.store.registry (commands_of calls) rs
      × (new.list ≡ old.list ++ accepted_calls calls rs) × (answers ≡ answers_from (length old.list) calls rs)

  -- no call is accepted, and all are refused for one cause
  abbrev pub IsRefusedAll : BookState D → BookState D → List Call → List Answer → Type 0
  IsRefusedAll old new calls answers = (e : Refusal) × (new.list ≡ old.list) × (answers ≡ all_refused (length old.list) e calls) × Cause e old new

  abbrev pub IsCommit : BookState D → BookState D → List Call → List Answer → Type 0
  IsCommit old new calls answers = (new.base ≡ old.base) × (IsMetAll old new calls answers ⊎ IsRefusedAll old new calls answers)
