-- Each seat's list stays a prefix of the one list.
use Rattle.std.proofs.Common.{◌≡◌, ◌<◌, ◌+◌, ℕ, zero, suc, Option, Some, List, [], ◌∷◌, ◌++◌, length, set, get_or, sym, ap, subst, ◌∙◌, arith, ⊎_elim, append-nil}
use Rattle.wm_disk.specs.declared.disk.Disk as disks
use Rattle.wm_registry.specs.Roots.{State}
use Rattle.wm_registry.specs.declared.reply.Reply.{Reply}
use Rattle.wm_groupcommit.specs.declared.queued.Call.{Call}
use Rattle.wm_groupcommit.specs.declared.queued.Answer.{Answer}
use Rattle.wm_groupcommit.specs.declared.locked.deliveries.ReplyView.{ReplyView}
use Rattle.wm_groupcommit.specs.Books.{accepted_calls, commands_of}
use Rattle.wm_groupcommit.specs.BookState.{BookState}
use Rattle.wm_groupcommit.specs.Commits.{IsCommit, IsMetAll, IsRefusedAll}
use Rattle.wm_groupcommit.specs.Counting.{IsCounted, newer_of, counts_after}
use Rattle.wm_groupcommit.specs.ReplyQueues.{IsLater, StartsWith}
use Rattle.wm_groupcommit.specs.LockedState.{AllLater, AreNumbered}
use Rattle.wm_groupcommit.proofs.Answering.{all_answered, all_fair, each_refused, length-fair}
use Rattle.wm_groupcommit.proofs.Counted.{accepted_none, counted_after}
use Rattle.wm_groupcommit.proofs.Delivering.{StartsWith-trans}

pub AllLater-longer : (vs : List ReplyView) (b : Option State) (l m : List Call) → StartsWith m l → AllLater vs b l → AllLater vs b m
AllLater-longer [] b l m s h = tt
AllLater-longer (v ∷ vs) b l m s h = ((h.0.0, StartsWith-trans v.list l m h.0.1 s), AllLater-longer vs b l m s h.1)

pub AllLater-set : (vs : List ReplyView) (k : ℕ) (w : ReplyView) (b : Option State) (l : List Call) → IsLater w b l → AllLater vs b l → AllLater (set vs k w) b l
AllLater-set [] k w b l i h = tt
AllLater-set (v ∷ vs) zero w b l i h = (i, h.1)
AllLater-set (v ∷ vs) (suc k) w b l i h = (h.0, AllLater-set vs k w b l i h.1)

pub AllLater-push : (vs : List ReplyView) (w : ReplyView) (b : Option State) (l : List Call) → IsLater w b l → AllLater vs b l → AllLater (vs ++ w ∷ []) b l
AllLater-push [] w b l i h = (i, tt)
AllLater-push (v ∷ vs) w b l i h = (h.0, AllLater-push vs w b l i h.1)

pub AllLater-get : (vs : List ReplyView) (k : ℕ) (d : ReplyView) (b : Option State) (l : List Call) → k < length vs → AllLater vs b l → IsLater (get_or vs k d) b l
AllLater-get [] k d b l e h = absurd (omega (arith, e))
AllLater-get (v ∷ vs) zero d b l e h = h.0
AllLater-get (v ∷ vs) (suc k) d b l e h = AllLater-get vs k d b l (omega (arith, e)) h.1

numbered_at : (n : ℕ) (vs : List ReplyView) (k m : ℕ) (d : ReplyView) → k < length vs → m ≡ n + k → AreNumbered n vs → (get_or vs k d).seat ≡ Some m
numbered_at n [] k m d e is h = absurd (omega (arith, e))
numbered_at n (v ∷ vs) zero m d e is h = h.0 ∙ ap Some (omega (arith, is))
numbered_at n (v ∷ vs) (suc k) m d e is h = numbered_at (suc n) vs k m d (omega (arith, e)) (omega (arith, is)) h.1

-- the end at a place is the one to the seat of that number
pub AreNumbered-get : (vs : List ReplyView) (k : ℕ) (d : ReplyView) → k < length vs → AreNumbered 0 vs → (get_or vs k d).seat ≡ Some k
AreNumbered-get vs k d e h = numbered_at 0 vs k k d e (omega arith) h

pub AreNumbered-set : (n : ℕ) (vs : List ReplyView) (k : ℕ) (d w : ReplyView) → w.seat ≡ (get_or vs k d).seat → AreNumbered n vs → AreNumbered n (set vs k w)
AreNumbered-set n [] k d w e h = tt
AreNumbered-set n (v ∷ vs) zero d w e h = (e ∙ h.0, h.1)
AreNumbered-set n (v ∷ vs) (suc k) d w e h = (h.0, AreNumbered-set (suc n) vs k d w e h.1)

numbered_behind : (n : ℕ) (vs : List ReplyView) (w : ReplyView) (m : ℕ) → w.seat ≡ Some m → m ≡ n + length vs → AreNumbered n vs → AreNumbered n (vs ++ w ∷ [])
numbered_behind n [] w m e is h = (e ∙ ap Some (omega (arith, is)), tt)
numbered_behind n (v ∷ vs) w m e is h = (h.0, numbered_behind (suc n) vs w m e (omega (arith, is)) h.1)

pub AreNumbered-push : (vs : List ReplyView) (w : ReplyView) → w.seat ≡ Some (length vs) → AreNumbered 0 vs → AreNumbered 0 (vs ++ w ∷ [])
AreNumbered-push vs w e h = numbered_behind 0 vs w (length vs) e (omega arith) h

module _ {D : Type 0} (disk : disks.Ghosts D) where
  pub IsCommit-grows : (old new : BookState D) (cs : List Call) (xs : List Answer) → IsCommit disk old new cs xs → (rs : List Reply) × (new.list ≡ old.list ++ accepted_calls cs rs)
  IsCommit-grows old new cs xs h =
      ⊎_elim (λ (k : IsMetAll disk old new cs xs). (k.0, k.3))
      (λ (k : IsRefusedAll disk old new cs xs). ([], k.1 ∙ sym (append-nil old.list) ∙ ap (λ l. old.list ++ l) (sym (accepted_none cs)))) h.1

  pub IsCommit-longer : (old new : BookState D) (cs : List Call) (xs : List Answer) → IsCommit disk old new cs xs → StartsWith new.list old.list
  IsCommit-longer old new cs xs h = let g = IsCommit-grows old new cs xs h in (accepted_calls cs g.0, g.1)

  pub IsCommit-counted : (old new : BookState D) (counts : List ℕ) (cs : List Call) (xs : List Answer) → IsCommit disk old new (newer_of counts cs) xs → IsCounted counts old.list → IsCounted (counts_after counts cs) new.list
  IsCommit-counted old new counts cs xs h k =
      let g = IsCommit-grows old new (newer_of counts cs) xs h in
      subst (IsCounted (counts_after counts cs)) (sym g.1) (counted_after counts old.list cs g.0 k)

  -- each call is answered
  pub IsCommit-length : (old new : BookState D) (cs : List Call) (xs : List Answer) → IsCommit disk old new cs xs → length xs ≡ length cs
  IsCommit-length old new cs xs h =
      let s = old.store.registry in
      ⊎_elim (λ (k : IsMetAll disk old new cs xs).
      ap length k.4 ∙ all_answered (length old.list) cs k.0 (length-fair s cs k.0 (all_fair s.version new.store.number new.store.room s (commands_of cs) k.0 k.2)))
      (λ (k : IsRefusedAll disk old new cs xs). ap length k.2 ∙ each_refused (length old.list) k.0 cs) h.1
