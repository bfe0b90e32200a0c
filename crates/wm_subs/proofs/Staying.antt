-- A history goes on: what its map was at a tick stays.
use Rattle.std.proofs.Common.{◌≡◌, suc, ◌≤◌, ◌<◌, ℕ, Bool, true, false, cond, List, [], ◌∷◌, ◌++◌, length, Option, Some, None, refl, sym, ap, ◌∙◌, arith, append_assoc, filter, ltb-true, lt-ltb}
use Rattle.std.proofs.lemmas.Bool.{lt-leb}
use Rattle.wm_disk.specs.declared.refusal.Refusal.{Refusal}
use Rattle.wm_names.specs.declared.entry.Entry.{Entry}
use Rattle.wm_view.specs.Files.{Files, add_paths, same_files}
use Rattle.wm_view.specs.Histories.{History, Ticks, after_operation, grown, is_ready, map_at, newest, next_map, observed, performed, recrawled, refusal, tick_of, unless_refused, up_to}
use Rattle.wm_view.specs.declared.op.Op.{Op}
use Rattle.wm_view.specs.declared.op.Op.TheVariants.{AgeOut, Observe, Recrawl}
use Rattle.wm_since.specs.Matching.{matching_at, there}
use Rattle.wm_subs.specs.Folds.{history_after}

-- the later history has the earlier one's ticks behind its own
record GoesOn (g h : History) : Type 0 where
  more : Ticks
  ticks : h.ticks ≡ more ++ g.ticks

itself : (h : History) → GoesOn h h
itself h = record { more = []; ticks = refl }

goes_next : (h : History) (moment : ℕ) (files : Files) → GoesOn h (grown h moment files)
goes_next h moment files = record { more = record { moment = moment; files = files } ∷ []; ticks = refl }

goes_by_map : (h : History) (moment : ℕ) (files : Files) → GoesOn h (next_map h moment files)
goes_by_map h moment files =
    elim (same_files files (newest h.ticks)) as (λ b. GoesOn h (cond b h (grown h moment files))) [ true ↦ itself h | false ↦ goes_next h moment files ]

goes_performed : (h : History) (op : Op) → GoesOn h (performed h op)
goes_performed h (Observe moment pairs) = goes_by_map h moment (observed (newest h.ticks) pairs)
goes_performed h (Recrawl moment begun_at found) =
    let files : Files = recrawled h begun_at found.subtree found.files in
    elim (is_ready h) as (λ b. GoesOn h (cond b (next_map h moment files) (grown h moment files))) [
      | true ↦ goes_by_map h moment files
      | false ↦ goes_next h moment files
    ]
goes_performed h (AgeOut time age) = record { more = []; ticks = refl }

goes_by : (h : History) (op : Op) (r : Option Refusal) → GoesOn h (unless_refused r (performed h op) h)
goes_by h op None = goes_performed h op
goes_by h op (Some n) = itself h

goes_then : (f g h : History) → GoesOn f g → GoesOn g h → GoesOn f h
goes_then f g h a b = record { more = b.more ++ a.more; ticks = b.ticks ∙ ap (λ ts. b.more ++ ts) a.ticks ∙ sym (append_assoc b.more a.more f.ticks) }

goes_on : (h : History) (ops : List Op) → GoesOn h (history_after h ops)
goes_on h [] = itself h
goes_on h (op ∷ ops) = goes_then h (after_operation h op) (history_after (after_operation h op) ops) (goes_by h op (refusal h op)) (goes_on (after_operation h op) ops)

longer : (more ts : Ticks) → length ts ≤ length (more ++ ts)
longer [] ts = omega arith
longer (k ∷ more) ts = let ih : length ts ≤ length (more ++ ts) = longer more ts in omega arith

up_to_more : (t : ℕ) (more ts : Ticks) → t ≤ length ts → up_to t (more ++ ts) ≡ up_to t ts
up_to_more t [] ts h = refl
up_to_more t (k ∷ more) ts h =
    let long : length ts ≤ length (more ++ ts) = longer more ts in
    ap (λ c. cond c (k ∷ (more ++ ts)) (up_to t (more ++ ts))) (lt-leb (suc (length (more ++ ts))) t (omega arith)) ∙ up_to_more t more ts h

same_map : (g h : History) (t : ℕ) → GoesOn g h → t ≤ tick_of g → map_at h t ≡ map_at g t
same_map g h t e le = ap (λ ts. newest (up_to t ts)) e.ticks ∙ ap newest (up_to_more t e.more g.ticks le)

-- the matching files at a tick stay those at the tick
pub matching_stays : (passes : Entry → Bool) (h : History) (ops : List Op) (t : ℕ) → t ≤ tick_of h → matching_at h passes t ≡ matching_at (history_after h ops) passes t
matching_stays passes h ops t le = ap (λ m. add_paths (filter (λ e. passes (there e)) m) []) (sym (same_map h (history_after h ops) t (goes_on h ops) le))

pub ready_stays : (h : History) (ops : List Op) → is_ready h ≡ true → is_ready (history_after h ops) ≡ true
ready_stays h ops ready =
    let on : GoesOn h (history_after h ops) = goes_on h ops in
    let some : 0 < length h.ticks = ltb-true 0 (length h.ticks) ready in
    let more : length h.ticks ≤ length (on.more ++ h.ticks) = longer on.more h.ticks in
    let all : length (history_after h ops).ticks ≡ length (on.more ++ h.ticks) = ap length on.ticks in
    lt-ltb 0 (length (history_after h ops).ticks) (omega arith)
