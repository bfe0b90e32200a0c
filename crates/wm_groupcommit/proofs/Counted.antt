-- A call that is newer than its seat's last keeps the counts rising.
use Rattle.std.proofs.Common.{◌≡◌, ◌≤◌, ◌<◌, ℕ, zero, suc, Bool, true, false, true≢false, cond, List, [], ◌∷◌, ◌++◌, length, Some, inl, inr, ⊎_elim, ◌⊎◌, refl, sym, ap, ◌∙◌, subst, arith, length-append, append_assoc, append-nil}
use Rattle.std.specs.Prelude.{nat_lt, slice_get, slice_set, slice_index_or}
use Rattle.std.proofs.lemmas.Bool.{cases_Bool, ltb-true}
use Rattle.wm_registry.specs.declared.reply.Reply.{Reply}
use Rattle.wm_registry.specs.declared.reply.Reply.TheVariants.{Changed, Replaced, Unchanged, Refused}
use Rattle.wm_groupcommit.specs.declared.queued.Call.{Call}
use Rattle.wm_groupcommit.specs.Books.{accepted_calls}
use Rattle.wm_groupcommit.specs.Counting.{is_newer, counts_with, kept_newer, newer_of, counts_after, CountsRise, AreAbove, IsCounted}

length-set : (l : List ℕ) (k v : ℕ) → length (slice_set l k v) ≡ length l
length-set [] k v = refl
length-set (x ∷ l) zero v = refl
length-set (x ∷ l) (suc k) v = ap suc (length-set l k v)

set_here : (l : List ℕ) (k v : ℕ) → k < length l → slice_index_or (slice_set l k v) k 0 ≡ v
set_here [] k v e = absurd (omega (arith, e))
set_here (x ∷ l) zero v e = refl
set_here (x ∷ l) (suc k) v e = set_here l k v (omega (arith, e))

set_above : (l : List ℕ) (k v j : ℕ) → slice_index_or l k 0 ≤ v → slice_index_or l j 0 ≤ slice_index_or (slice_set l k v) j 0
set_above [] k v j e = omega arith
set_above (x ∷ l) zero v zero e = e
set_above (x ∷ l) zero v (suc j) e = omega arith
set_above (x ∷ l) (suc k) v zero e = omega arith
set_above (x ∷ l) (suc k) v (suc j) e = set_above l k v j e

snoc_cases : (l : List Call) (a b : Call) (j : ℕ) → slice_get (l ++ a ∷ []) j ≡ Some b → (slice_get l j ≡ Some b) ⊎ ((j ≡ length l) × (a ≡ b))
snoc_cases [] a b zero e = inr (refl, cc)
snoc_cases [] a b (suc j) e = absurd (cc)
snoc_cases (x ∷ l) a b zero e = inl e
snoc_cases (x ∷ l) a b (suc j) e = ⊎_elim (λ h. inl h) (λ (h : (j ≡ length l) × (a ≡ b)). inr (ap suc h.0, h.1)) (snoc_cases l a b j e)

inside : (l : List Call) (j : ℕ) (b : Call) → slice_get l j ≡ Some b → j < length l
inside [] j b e = absurd (cc)
inside (x ∷ l) zero b e = omega arith
inside (x ∷ l) (suc j) b e = let i = inside l j b e in omega (arith, i)

-- what a newer call is
new_facts : (counts : List ℕ) (c : Call) → is_newer counts c ≡ true → (c.seat < length counts) × (slice_index_or counts c.seat 0 < c.count)
new_facts counts c h = ⊎_elim
    (λ (y : nat_lt c.seat (length counts) ≡ true). (ltb-true _ _ y, ltb-true _ _ (sym (ap (λ b. cond b (nat_lt (slice_index_or counts c.seat 0) c.count) false) y) ∙ h)))
    (λ (n : nat_lt c.seat (length counts) ≡ false). absurd (true≢false (sym h ∙ ap (λ b. cond b (nat_lt (slice_index_or counts c.seat 0) c.count) false) n)))
    (cases_Bool (nat_lt c.seat (length counts)))

above_set : (counts : List ℕ) (list : List Call) (k v : ℕ) → slice_index_or counts k 0 ≤ v → AreAbove counts list → AreAbove (slice_set counts k v) list
above_set counts list k v e h i c at =
    let a = h i c at in
    let b = set_above counts k v c.seat e in
    (omega (arith, a.0, length-set counts k v), omega (arith, a.1, b))

above_push : (counts : List ℕ) (list : List Call) (e : Call) → e.seat < length counts → e.count ≤ slice_index_or counts e.seat 0 → AreAbove counts list → AreAbove counts (list ++ e ∷ [])
above_push counts list e s n h i c at = ⊎_elim (λ k. h i c k) (λ (k : (i ≡ length list) × (e ≡ c)). subst (λ (d : Call). (d.seat < length counts) × (d.count ≤ slice_index_or counts d.seat 0)) k.1 (s, n)) (snoc_cases list e c i at)

rises_push : (counts : List ℕ) (list : List Call) (e : Call) → slice_index_or counts e.seat 0 < e.count → AreAbove counts list → CountsRise list → CountsRise (list ++ e ∷ [])
rises_push counts list e n above r i j c d less ati atj same =
    ⊎_elim
    (λ (old : slice_get list j ≡ Some d). ⊎_elim (λ (o : slice_get list i ≡ Some c). r i j c d less o old same) (λ (k : (i ≡ length list) × (e ≡ c)). let b = inside list j d old in absurd (omega (arith, less, b, k.0))) (snoc_cases list e c i ati))
    (λ (k : (j ≡ length list) × (e ≡ d)). ⊎_elim
    (λ (o : slice_get list i ≡ Some c).
    let a = above i c o in
    let seats : slice_index_or counts c.seat 0 ≡ slice_index_or counts e.seat 0 = ap (λ s. slice_index_or counts s 0) (same ∙ ap (λ (x : Call). x.seat) (sym k.1)) in
    let counted : e.count ≡ d.count = ap (λ (x : Call). x.count) k.1 in
    omega (arith, a.1, seats, n, counted))
    (λ (o : (i ≡ length list) × (e ≡ c)). absurd (omega (arith, less, o.0, k.0)))
    (snoc_cases list e c i ati))
    (snoc_cases list e d j atj)

-- the counts alone
counted_with : (counts : List ℕ) (list : List Call) (c : Call) → IsCounted counts list → IsCounted (counts_with counts c) list
counted_with counts list c h = ⊎_elim
    (λ (y : is_newer counts c ≡ true). subst (λ b. IsCounted (cond b (slice_set counts c.seat c.count) counts) list) (sym y) (let f = new_facts counts c y in (h.0, above_set counts list c.seat c.count (omega (arith, f.1)) h.1)))
    (λ (n : is_newer counts c ≡ false). subst (λ b. IsCounted (cond b (slice_set counts c.seat c.count) counts) list) (sym n) h)
    (cases_Bool (is_newer counts c))

-- one newer call is accepted
counted_push : (counts : List ℕ) (list : List Call) (c : Call) → is_newer counts c ≡ true → IsCounted counts list → IsCounted (counts_with counts c) (list ++ c ∷ [])
counted_push counts list c y h =
    let f = new_facts counts c y in
    let here = set_here counts c.seat c.count f.0 in
    subst (λ b. IsCounted (cond b (slice_set counts c.seat c.count) counts) (list ++ c ∷ [])) (sym y) (
      rises_push counts list c f.1 h.1 h.0,
      above_push (slice_set counts c.seat c.count) list c (omega (arith, f.0, length-set counts c.seat c.count)) (omega (arith, here)) (above_set counts list c.seat c.count (omega (arith, f.1)) h.1),
    )

pub accepted_none : (cs : List Call) → accepted_calls cs [] ≡ []
accepted_none [] = refl
accepted_none (c ∷ cs) = refl

-- the calls behind the first
counted_rest : (counts : List ℕ) (list : List Call) (c : Call) (cs : List Call) → ((list : List Call) (rs : List Reply) → IsCounted (counts_with counts c) list → IsCounted (counts_after (counts_with counts c) cs) (list ++ accepted_calls (newer_of (counts_with counts c) cs) rs))
    → IsCounted counts list → (b : Bool) → is_newer counts c ≡ b → (rs : List Reply) → IsCounted (counts_after (counts_with counts c) cs) (list ++ accepted_calls (cond b (c ∷ newer_of (counts_with counts c) cs) (newer_of (counts_with counts c) cs)) rs)
counted_rest counts list c cs ih h false n rs = ih list rs (counted_with counts list c h)
counted_rest counts list c cs ih h true y [] = subst (λ l. IsCounted (counts_after (counts_with counts c) cs) (list ++ l)) (accepted_none (newer_of (counts_with counts c) cs)) (ih list [] (counted_with counts list c h))
counted_rest counts list c cs ih h true y (Changed ∷ rs) = subst (IsCounted (counts_after (counts_with counts c) cs)) (append_assoc list (c ∷ []) (accepted_calls (newer_of (counts_with counts c) cs) rs)) (ih (list ++ c ∷ []) rs (counted_push counts list c y h))
counted_rest counts list c cs ih h true y (Replaced ∷ rs) = subst (IsCounted (counts_after (counts_with counts c) cs)) (append_assoc list (c ∷ []) (accepted_calls (newer_of (counts_with counts c) cs) rs)) (ih (list ++ c ∷ []) rs (counted_push counts list c y h))
counted_rest counts list c cs ih h true y (Unchanged ∷ rs) = ih list rs (counted_with counts list c h)
counted_rest counts list c cs ih h true y (Refused e ∷ rs) = ih list rs (counted_with counts list c h)

pub counted_after : (counts : List ℕ) (list : List Call) (cs : List Call) (rs : List Reply) → IsCounted counts list → IsCounted (counts_after counts cs) (list ++ accepted_calls (newer_of counts cs) rs)
counted_after counts list [] rs h = subst (IsCounted counts) (sym (append-nil list)) h
counted_after counts list (c ∷ cs) rs h = counted_rest counts list c cs (λ l qs k. counted_after (counts_with counts c) l cs qs k) h (is_newer counts c) refl rs

pub none_counted : (counts : List ℕ) → IsCounted counts []
none_counted counts = ((λ i j c d l a b s. absurd (cc)), λ i c a. absurd (cc))

-- one seat more
pub counted_seat : (counts : List ℕ) (list : List Call) → IsCounted counts list → IsCounted (counts ++ 0 ∷ []) list
counted_seat counts list h = (h.0, λ i c at. let a = h.1 i c at in (omega (arith, a.0, length-append counts (0 ∷ [])), subst (λ n. c.count ≤ n) (sym (kept counts c.seat a.0)) a.1))
  where
    kept : (l : List ℕ) (k : ℕ) → k < length l → slice_index_or (l ++ 0 ∷ []) k 0 ≡ slice_index_or l k 0
    kept [] k e = absurd (omega (arith, e))
    kept (x ∷ l) zero e = refl
    kept (x ∷ l) (suc k) e = kept l k (omega (arith, e))

pub newer_of-push : (counts : List ℕ) (cs : List Call) (c : Call) → newer_of counts (cs ++ c ∷ []) ≡ newer_of counts cs ++ kept_newer (counts_after counts cs) c
newer_of-push counts [] c = elim (is_newer counts c) as (λ b. cond b (c ∷ []) [] ≡ cond b (c ∷ []) []) [ true ↦ refl | false ↦ refl ]
newer_of-push counts (x ∷ cs) c =
    let ih = newer_of-push (counts_with counts x) cs c in
    let next = counts_with counts x in
    elim (is_newer counts x) as (λ b. cond b (x ∷ newer_of next (cs ++ c ∷ [])) (newer_of next (cs ++ c ∷ [])) ≡ cond b (x ∷ newer_of next cs) (newer_of next cs) ++ kept_newer (counts_after next cs) c) [ true ↦ ap (λ l. x ∷ l) ih | false ↦ ih ]

pub counts_after-push : (counts : List ℕ) (cs : List Call) (c : Call) → counts_after counts (cs ++ c ∷ []) ≡ counts_with (counts_after counts cs) c
counts_after-push counts [] c = refl
counts_after-push counts (x ∷ cs) c = counts_after-push (counts_with counts x) cs c

pub length-newer : (counts : List ℕ) (cs : List Call) → length (newer_of counts cs) ≤ length cs
length-newer counts [] = omega arith
length-newer counts (c ∷ cs) =
    let ih = length-newer (counts_with counts c) cs in
    let next = counts_with counts c in
    elim (is_newer counts c) as (λ b. length (cond b (c ∷ newer_of next cs) (newer_of next cs)) ≤ length (c ∷ cs)) [ true ↦ omega (arith, ih) | false ↦ omega (arith, ih) ]

length-with : (counts : List ℕ) (c : Call) → length (counts_with counts c) ≡ length counts
length-with counts c = elim (is_newer counts c) as (λ b. length (cond b (slice_set counts c.seat c.count) counts) ≡ length counts) [ true ↦ length-set counts c.seat c.count | false ↦ refl ]

pub length-counts : (counts : List ℕ) (cs : List Call) → length (counts_after counts cs) ≡ length counts
length-counts counts [] = refl
length-counts counts (c ∷ cs) = length-counts (counts_with counts c) cs ∙ length-with counts c
