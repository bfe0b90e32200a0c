-- Operations keep the number of their root.
use Rattle.std.proofs.Common.{◌≡◌, ◌∙◌, ℕ, Bool, true, false, cond, fold, List, [], ◌∷◌, refl}
use Rattle.std.specs.Prelude.{Option, Some, None}
use Rattle.wm_disk.specs.declared.refusal.Refusal.{Refusal}
use Rattle.wm_view.specs.Files.{Files}
use Rattle.wm_view.specs.Histories.{History, after_operation, grown, is_ready, new_history, newest, next_map, observed, performed, recrawled, refusal, unless_refused}
use Rattle.wm_view.specs.Files.{same_files}
use Rattle.wm_view.specs.declared.op.Op.{Op}
use Rattle.wm_view.specs.declared.op.Op.TheVariants.{Observe, Recrawl, AgeOut}
use Rattle.wm_share.specs.PublishedLists.{PublishedList, history}

either : (root : ℕ) (b : Bool) (x y : History) → x.root ≡ root → y.root ≡ root → (cond b x y).root ≡ root
either root true x y at_x at_y = at_x
either root false x y at_x at_y = at_y

next_keeps : (h : History) (moment : ℕ) (files : Files) → (next_map h moment files).root ≡ h.root
next_keeps h moment files = either h.root (same_files files (newest h.ticks)) h (grown h moment files) refl refl

performed_keeps : (h : History) (op : Op) → (performed h op).root ≡ h.root
performed_keeps h (Observe moment pairs) = next_keeps h moment (observed (newest h.ticks) pairs)
performed_keeps h (Recrawl moment begun_at found) =
    let files = recrawled h begun_at found.subtree found.files in
    either h.root (is_ready h) (next_map h moment files) (grown h moment files) (next_keeps h moment files) refl
performed_keeps h (AgeOut time age) = refl

unless_keeps : (o : Option Refusal) (new old : History) → new.root ≡ old.root → (unless_refused o new old).root ≡ old.root
unless_keeps None new old same = same
unless_keeps (Some r) new old same = refl

all_keep : (h : History) (ops : List Op) → (fold after_operation h ops).root ≡ h.root
all_keep h [] = refl
all_keep h (op ∷ ops) = all_keep (after_operation h op) ops ∙ unless_keeps (refusal h op) (performed h op) h (performed_keeps h op)

-- the history of a list is of the root of its share
pub numbered : (list : PublishedList) → (history list).root ≡ list.share.root
numbered list = all_keep (new_history list.share.incarnation list.share.root) list.operations
