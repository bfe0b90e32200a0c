-- Each step keeps the merge.
use Rattle.std.proofs.Common.{◌≡◌, ◌≢◌, ◌≤◌, ◌<◌, ℕ, zero, suc, true, false, cond, nat_eq, List, [], ◌∷◌, ◌++◌, length, set, replicate, ◌⊎◌, inl, inr, ⊎_elim, refl, sym, ap, ◌∙◌, subst, arith, length-append, append_assoc, append-nil}
use Rattle.std.proofs.lemmas.Bool.{ne_eqb}
use Rattle.std.proofs.lemmas.Bool.Decides.{nat_tests}
use mathlib.Core.Option.{some, some-ne-none, some-injective}
use lib.ListN.{get_elem?}
use Rattle.crossbeam_queue.specs.Fifo.{Pushes, PopsMany, Admits}
use Rattle.crossbeam_queue.proofs.Lists.{at_set}
use Rattle.wm_groupcommit.specs.declared.queued.Call.{Call}
use Rattle.wm_groupcommit.specs.declared.locked.call_rule.CallView.{CallView}
use Rattle.wm_groupcommit.specs.CallQueues.{call_view, owned, IsMerge, Merged}

same_place : (p : ℕ) → nat_eq p p ≡ true
same_place p = grind (arith, nat_tests)

-- one place's further calls at the end
owned-append : (p : ℕ) (os : List ℕ) (xs : List Call) (qs : List ℕ) (ys : List Call) → length os ≡ length xs → owned p (os ++ qs) (xs ++ ys) ≡ owned p os xs ++ owned p qs ys
owned-append p [] [] qs ys e = refl
owned-append p [] (x ∷ xs) qs ys e = absurd (omega (arith, e))
owned-append p (o ∷ os) [] qs ys e = absurd (omega (arith, e))
owned-append p (o ∷ os) (x ∷ xs) qs ys e =
    let ih = owned-append p os xs qs ys (omega (arith, e)) in
    elim (nat_eq o p) as (λ b. cond b (x ∷ owned p (os ++ qs) (xs ++ ys)) (owned p (os ++ qs) (xs ++ ys)) ≡ cond b (x ∷ owned p os xs) (owned p os xs) ++ owned p qs ys) [ true ↦ ap (λ l. x ∷ l) ih | false ↦ ih ]

owned_mine : (p : ℕ) (ys : List Call) → owned p (replicate (length ys) p) ys ≡ ys
owned_mine p [] = refl
owned_mine p (y ∷ ys) = ap (λ b. cond b (y ∷ owned p (replicate (length ys) p) ys) (owned p (replicate (length ys) p) ys)) (same_place p) ∙ ap (λ l. y ∷ l) (owned_mine p ys)

owned_other : (p q : ℕ) (ys : List Call) → q ≢ p → owned p (replicate (length ys) q) ys ≡ []
owned_other p q [] n = refl
owned_other p q (y ∷ ys) n = ap (λ b. cond b (y ∷ owned p (replicate (length ys) q) ys) (owned p (replicate (length ys) q) ys)) (ne_eqb q p n) ∙ owned_other p q ys n

length-replicate : (n p : ℕ) → length (replicate n p) ≡ n
length-replicate zero p = refl
length-replicate (suc n) p = ap suc (length-replicate n p)

length-set_at : (l : List CallView) (k : ℕ) (w : CallView) → length (set l k w) ≡ length l
length-set_at [] k w = refl
length-set_at (x ∷ l) zero w = refl
length-set_at (x ∷ l) (suc k) w = ap suc (length-set_at l k w)

inside : (l : List CallView) (k : ℕ) (v : CallView) → get_elem? l k ≡ some v → k < length l
inside [] k v e = absurd (some-ne-none v (sym e))
inside (x ∷ l) zero v e = omega arith
inside (x ∷ l) (suc k) v e = let i = inside l k v e in omega (arith, i)

snoc_cases : (l : List CallView) (a b : CallView) (j : ℕ) → get_elem? (l ++ a ∷ []) j ≡ some b → (get_elem? l j ≡ some b) ⊎ ((j ≡ length l) × (a ≡ b))
snoc_cases [] a b zero e = inr (refl, some-injective a b e)
snoc_cases [] a b (suc j) e = absurd (some-ne-none b (sym e))
snoc_cases (x ∷ l) a b zero e = inl e
snoc_cases (x ∷ l) a b (suc j) e = ⊎_elim (λ h. inl h) (λ (h : (j ≡ length l) × (a ≡ b)). inr (ap suc h.0, h.1)) (snoc_cases l a b j e)

-- a place gets some more at the end
merge_more : (part : CallView → List Call) (all : List Call) (views : List CallView) (owners : List ℕ) (p : ℕ) (v w : CallView) (ys : List Call) → IsMerge part all views owners → get_elem? views p ≡ some v → part w ≡ part v ++ ys
    → IsMerge part (all ++ ys) (set views p w) (owners ++ replicate (length ys) p)
merge_more part all views owners p v w ys m at is = (
  omega (arith, length-append owners (replicate (length ys) p), length-append all ys, length-replicate (length ys) p, m.0),
  λ q u e. owned-append q owners all (replicate (length ys) p) ys m.0 ∙ ⊎_elim
      (λ (h : (q ≡ p) × (w ≡ u)). subst (λ k. owned k owners all ++ owned k (replicate (length ys) p) ys ≡ part u) (sym h.0) (ap (λ l. owned p owners all ++ l) (owned_mine p ys) ∙ ap (λ l. l ++ ys) (m.1 p v at) ∙ sym is ∙ ap part h.1))
      (λ (h : (q ≢ p) × (get_elem? views q ≡ some u)). ap (λ l. owned q owners all ++ l) (owned_other q p ys (λ x. h.0 (sym x))) ∙ append-nil (owned q owners all) ∙ m.1 q u h.1)
      (at_set views p q w u e),
  λ q far. let here = inside views p v at in let far' : length views ≤ q = omega (arith, length-set_at views p w, far) in
      owned-append q owners all (replicate (length ys) p) ys m.0 ∙ ap (λ l. owned q owners all ++ l) (owned_other q p ys (λ x. absurd (omega (arith, here, far', x)))) ∙ append-nil (owned q owners all) ∙ m.2 q far',
)

-- a place keeps what it has
merge_same : (part : CallView → List Call) (all : List Call) (views : List CallView) (owners : List ℕ) (p : ℕ) (v w : CallView) → IsMerge part all views owners → get_elem? views p ≡ some v → part w ≡ part v → IsMerge part all (set views p w) owners
merge_same part all views owners p v w m at is = (
  m.0,
  λ q u e. ⊎_elim (λ (h : (q ≡ p) × (w ≡ u)). subst (λ k. owned k owners all ≡ part u) (sym h.0) (m.1 p v at ∙ sym is ∙ ap part h.1)) (λ (h : (q ≢ p) × (get_elem? views q ≡ some u)). m.1 q u h.1) (at_set views p q w u e),
  λ q far. m.2 q (omega (arith, length-set_at views p w, far)),
)

merge_new : (part : CallView → List Call) (all : List Call) (views : List CallView) (owners : List ℕ) (w : CallView) → IsMerge part all views owners → part w ≡ [] → IsMerge part all (views ++ w ∷ []) owners
merge_new part all views owners w m is = (
  m.0,
  λ q u e. ⊎_elim (λ h. m.1 q u h) (λ (h : (q ≡ length views) × (w ≡ u)). m.2 q (omega (arith, h.0)) ∙ sym is ∙ ap part h.1) (snoc_cases views w u q e),
  λ q far. m.2 q (omega (arith, length-append views (w ∷ []), far)),
)

pub begins : Merged [] (call_view [] [] ∷ [])
begins = ([], [], [], one, one')
  where
    one : IsMerge (λ v. v.pushed) [] (call_view [] [] ∷ []) []
    one = merge_new (λ v. v.pushed) [] [] [] (call_view [] []) (refl, (λ q u e. absurd (some-ne-none u (sym e))), λ q far. refl) refl

    one' : IsMerge (λ v. v.popped) [] (call_view [] [] ∷ []) []
    one' = merge_new (λ v. v.popped) [] [] [] (call_view [] []) (refl, (λ q u e. absurd (some-ne-none u (sym e))), λ q far. refl) refl

pub admits : Admits Merged (call_view [] [])
admits items views h = (h.0, h.1, h.2, merge_new (λ v. v.pushed) (h.0 ++ items) views h.1 (call_view [] []) h.3 refl, merge_new (λ v. v.popped) h.0 views h.2 (call_view [] []) h.4 refl)

pub puts : (n p : ℕ) (v : CallView) (x : Call) → Pushes Merged n p v x (λ w. w ≡ call_view (v.pushed ++ x ∷ []) v.popped)
puts n p v x items views _ h at =
    let w = call_view (v.pushed ++ x ∷ []) v.popped in
    let more = merge_more (λ u. u.pushed) (h.0 ++ items) views h.1 p v w (x ∷ []) h.3 at refl in (
      w,
      (h.0, h.1 ++ replicate 1 p, h.2, subst (λ l. IsMerge (λ u. u.pushed) l (set views p w) (h.1 ++ replicate 1 p)) (append_assoc h.0 items (x ∷ [])) more, merge_same (λ u. u.popped) h.0 views h.2 p v w h.4 at refl),
      refl,
    )

pub takes : (n p : ℕ) (v : CallView) → PopsMany Merged p v n (λ xs w. w ≡ call_view v.pushed (v.popped ++ xs))
takes n p v xs items views _ h at =
    let w = call_view v.pushed (v.popped ++ xs) in
    let front : h.0 ++ (xs ++ items) ≡ (h.0 ++ xs) ++ items = sym (append_assoc h.0 xs items) in (
      w,
      (
        h.0 ++ xs,
        h.1,
        h.2 ++ replicate (length xs) p,
        subst (λ l. IsMerge (λ u. u.pushed) l (set views p w) h.1) front (merge_same (λ u. u.pushed) (h.0 ++ (xs ++ items)) views h.1 p v w h.3 at refl),
        merge_more (λ u. u.popped) h.0 views h.2 p v w xs h.4 at refl,
      ),
      refl,
    )

pub first_of_some : (xs : List Call) → 0 < length xs → (x : Call) × (ys : List Call) × (xs ≡ x ∷ ys)
first_of_some [] e = absurd (omega (arith, e))
first_of_some (x ∷ ys) e = (x, ys, refl)

pub none_of : (xs : List Call) → length xs ≡ 0 → xs ≡ []
none_of [] e = refl
none_of (x ∷ ys) e = absurd (omega (arith, e))
