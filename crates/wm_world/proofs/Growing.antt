-- Histories grow: what a map was at a tick stays.
use Rattle.std.proofs.Common.{◌≡◌, ℕ, suc, ◌≤◌, Bool, true, false, cond, ◌&&◌, List, [], ◌∷◌, ◌++◌, length, Option, Some, None, is_some, unwrap_or, ◌==◌, refl, sym, ap, subst, ◌∙◌, arith, true≢false, eqb-true, eq-eqb, append_assoc}
use Rattle.std.proofs.lemmas.Bool.{lt-leb}
use Rattle.std.specs.List.{find}
use Rattle.wm_disk.specs.declared.refusal.Refusal.{Refusal}
use Rattle.wm_view.specs.Files.{Files, same_files}
use Rattle.wm_view.specs.Histories.{History, Ticks, after_operation, grown, is_ready, map_at, newest, next_map, observed, performed, recrawled, refusal, tick_of, unless_refused, up_to}
use Rattle.wm_view.specs.declared.op.Op.{Op}
use Rattle.wm_view.specs.declared.op.Op.TheVariants.{AgeOut, Observe, Recrawl}
use Rattle.wm_world.specs.Worlds.{at_first, history_in, is_of}
use Rattle.wm_disk.specs.laws.Tests.{both_first, both_second}

-- h is g, or g later on
pub record Extends (g h : History) : Type 0 where
  pub incarnation : g.incarnation ≡ h.incarnation
  pub root : g.root ≡ h.root
  pub more : Ticks
  pub ticks : h.ticks ≡ more ++ g.ticks

pub itself : (h : History) → Extends h h
itself h = record { incarnation = refl; root = refl; more = []; ticks = refl }

extends_grown : (h : History) (moment : ℕ) (files : Files) → Extends h (grown h moment files)
extends_grown h moment files = record { incarnation = refl; root = refl; more = record { moment = moment; files = files } ∷ []; ticks = refl }

extends_next : (h : History) (moment : ℕ) (files : Files) → Extends h (next_map h moment files)
extends_next h moment files =
    elim (same_files files (newest h.ticks)) as (λ b. Extends h (cond b h (grown h moment files))) [ true ↦ itself h | false ↦ extends_grown h moment files ]

extends_performed : (h : History) (op : Op) → Extends h (performed h op)
extends_performed h (Observe moment pairs) = extends_next h moment (observed (newest h.ticks) pairs)
extends_performed h (Recrawl moment begun_at found) =
    let files : Files = recrawled h begun_at found.subtree found.files in
    elim (is_ready h) as (λ b. Extends h (cond b (next_map h moment files) (grown h moment files))) [
      | true ↦ extends_next h moment files
      | false ↦ extends_grown h moment files
    ]
extends_performed h (AgeOut time age) = record { incarnation = refl; root = refl; more = []; ticks = refl }

pub extends_after : (h : History) (op : Op) → Extends h (after_operation h op)
extends_after h op = by (refusal h op)
  where
    by : (r : Option Refusal) → Extends h (unless_refused r (performed h op) h)
    by None = extends_performed h op
    by (Some n) = itself h

pub extends_then : (f g h : History) → Extends f g → Extends g h → Extends f h
extends_then f g h a b = record {
  incarnation = a.incarnation ∙ b.incarnation;
  root = a.root ∙ b.root;
  more = b.more ++ a.more;
  ticks = b.ticks ∙ ap (λ ts. b.more ++ ts) a.ticks ∙ sym (append_assoc b.more a.more f.ticks);
}

longer : (more ts : Ticks) → length ts ≤ length (more ++ ts)
longer [] ts = omega arith
longer (k ∷ more) ts = let ih : length ts ≤ length (more ++ ts) = longer more ts in omega arith

up_to_more : (t : ℕ) (more ts : Ticks) → t ≤ length ts → up_to t (more ++ ts) ≡ up_to t ts
up_to_more t [] ts h = refl
up_to_more t (k ∷ more) ts h =
    let long : length ts ≤ length (more ++ ts) = longer more ts in
    ap (λ c. cond c (k ∷ (more ++ ts)) (up_to t (more ++ ts))) (lt-leb (suc (length (more ++ ts))) t (omega arith)) ∙ up_to_more t more ts h

pub later_tick : (g h : History) → Extends g h → tick_of g ≤ tick_of h
later_tick g h e = subst (λ ts. length g.ticks ≤ length ts) (sym e.ticks) (longer e.more g.ticks)

pub same_map : (g h : History) (t : ℕ) → Extends g h → t ≤ tick_of g → map_at h t ≡ map_at g t
same_map g h t e le = ap (λ ts. newest (up_to t ts)) e.ticks ∙ ap newest (up_to_more t e.more g.ticks le)

-- where no tick came, the maps are the same
pub same_ticks : (g h : History) → Extends g h → tick_of g ≡ tick_of h → h.ticks ≡ g.ticks
same_ticks g h e same = by e.more e.ticks
  where
    by : (more : Ticks) → h.ticks ≡ more ++ g.ticks → h.ticks ≡ g.ticks
    by [] s = s
    by (k ∷ more) s =
        let long : length g.ticks ≤ length (more ++ g.ticks) = longer more g.ticks in
        let size : length h.ticks ≡ suc (length (more ++ g.ticks)) = ap length s in
        absurd (omega (arith, same, size, long))

-- ---- the histories of a world grow

abbrev pub Grows : List History → List History → Type 0
Grows old new = (i r : ℕ) (g : History) → history_in old i r ≡ Some g → (h : History) × (history_in new i r ≡ Some h) × Extends g h

pub Some≢None : {A : Type 0} (x : A) → Some x ≡ None → ⊥
Some≢None x e = true≢false (ap is_some e)

pub same_Some : {A : Type 0} (x y : A) → Some x ≡ Some y → x ≡ y
same_Some x y e = ap (λ o. unwrap_or o x) e

pub grows_same : (hs : List History) → Grows hs hs
grows_same hs i r g e = (g, e, itself g)

pub grows_then : (a b c : List History) → Grows a b → Grows b c → Grows a c
grows_then a b c f g i r k e =
    let x = f i r k e in
    let y = g i r x.0 x.1 in
    (y.0, y.1, extends_then k x.0 y.0 x.2 y.2)

find_append : (test : History → Bool) (xs ys : List History) (g : History) → find test xs ≡ Some g → find test (xs ++ ys) ≡ Some g
find_append test [] ys g e = absurd (Some≢None g (sym e))
find_append test (x ∷ xs) ys g e =
    elim (test x) as (λ b. cond b (Some x) (find test xs) ≡ Some g → cond b (Some x) (find test (xs ++ ys)) ≡ Some g) [
      | true ↦ λ h. h
      | false ↦ λ h. find_append test xs ys g h
    ] e

pub grows_append : (hs more : List History) → Grows hs (hs ++ more)
grows_append hs more i r g e = (g, find_append (is_of i r) hs more g e, itself g)

-- one of them goes on
pub grows_at : (test : History → Bool) (f : History → History) → ((h : History) → Extends h (f h)) → (hs : List History) → Grows hs (at_first test f hs)
grows_at test f on [] i r g e = absurd (Some≢None g (sym e))
grows_at test f on (x ∷ xs) i r g e =
    elim (test x) as (λ b. (h : History) × (history_in (cond b (f x ∷ xs) (x ∷ at_first test f xs)) i r ≡ Some h) × Extends g h) [
      | true ↦ here
      | false ↦ behind (grows_at test f on xs i r g)
    ]
  where
    ids : is_of i r (f x) ≡ is_of i r x
    ids = λ j. (sym (on x).incarnation j == i) && (sym (on x).root j == r)

    here : (h : History) × (history_in (f x ∷ xs) i r ≡ Some h) × Extends g h
    here = elim (is_of i r x) as (λ b. is_of i r x ≡ b → cond b (Some x) (find (is_of i r) xs) ≡ Some g → (h : History) × (history_in (f x ∷ xs) i r ≡ Some h) × Extends g h) [
      | true ↦ λ t q. (f x, ap (λ b. cond b (Some (f x)) (find (is_of i r) xs)) (ids ∙ t), subst (λ y. Extends y (f x)) (same_Some x g q) (on x))
      | false ↦ λ t q. (g, ap (λ b. cond b (Some (f x)) (find (is_of i r) xs)) (ids ∙ t) ∙ q, itself g)
    ] refl e

    behind : (history_in xs i r ≡ Some g → (h : History) × (history_in (at_first test f xs) i r ≡ Some h) × Extends g h) → (h : History) × (history_in (x ∷ at_first test f xs) i r ≡ Some h) × Extends g h
    behind rest = elim (is_of i r x) as (λ b. cond b (Some x) (find (is_of i r) xs) ≡ Some g → (h : History) × (cond b (Some x) (find (is_of i r) (at_first test f xs)) ≡ Some h) × Extends g h) [
      | true ↦ λ q. (g, q, itself g)
      | false ↦ rest
    ] e

-- ---- ids

pub of_ids : (i r : ℕ) (h : History) → is_of i r h ≡ true → (h.incarnation ≡ i) × (h.root ≡ r)
of_ids i r h e = (eqb-true h.incarnation i (both_first (h.incarnation == i) (h.root == r) e), eqb-true h.root r (both_second (h.incarnation == i) (h.root == r) e))

pub ids_of : (i r : ℕ) (h : History) → h.incarnation ≡ i → h.root ≡ r → is_of i r h ≡ true
ids_of i r h a b = λ j. eq-eqb h.incarnation i a j && eq-eqb h.root r b j

pub found_is : (test : History → Bool) (hs : List History) (g : History) → find test hs ≡ Some g → test g ≡ true
found_is test [] g e = absurd (Some≢None g (sym e))
found_is test (x ∷ xs) g e =
    elim (test x) as (λ b. test x ≡ b → cond b (Some x) (find test xs) ≡ Some g → test g ≡ true) [
      | true ↦ λ t h. ap test (sym (same_Some x g h)) ∙ t
      | false ↦ λ _ h. found_is test xs g h
    ] refl e
