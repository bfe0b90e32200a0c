-- What the ends hand over.
use Rattle.std.proofs.Common.{◌≡◌, ◌≢◌, ◌≤◌, ◌<◌, ◌+◌, ℕ, zero, suc, true, false, cond, nat_eq, None, List, [], ◌∷◌, ◌++◌, length, set, get_or, refl, sym, ap, ◌∙◌, arith, append_assoc, append-nil}
use Rattle.std.proofs.lemmas.Bool.{ne_eqb}
use Rattle.std.proofs.lemmas.Bool.Decides.{nat_tests}
use Rattle.wm_registry.specs.Roots.{State}
use Rattle.wm_groupcommit.specs.declared.queued.Answer.{Answer}
use Rattle.wm_groupcommit.specs.declared.queued.Call.{Call}
use Rattle.wm_groupcommit.specs.declared.locked.deliveries.Delivery.{Delivery}
use Rattle.wm_groupcommit.specs.declared.locked.deliveries.ReplyView.{ReplyView}
use Rattle.wm_groupcommit.specs.LockedState.{HaveGiven, deliveries_of, delivery_of, to_seat}
use Rattle.wm_groupcommit.specs.ReplyQueues.{with_given}

pub deliveries_of-push : (base : State) (list : List Call) (xs : List Answer) (a : Answer) → deliveries_of base list (xs ++ a ∷ []) ≡ deliveries_of base list xs ++ delivery_of base list None a ∷ []
deliveries_of-push base list [] a = refl
deliveries_of-push base list (x ∷ xs) a = ap (λ l. delivery_of base list None x ∷ l) (deliveries_of-push base list xs a)

to_seat-append : (n : ℕ) (xs ys : List Delivery) → to_seat n (xs ++ ys) ≡ to_seat n xs ++ to_seat n ys
to_seat-append n [] ys = refl
to_seat-append n (x ∷ xs) ys =
    let ih = to_seat-append n xs ys in
    elim (nat_eq x.answer.call.seat n) as (λ b. cond b (x ∷ to_seat n (xs ++ ys)) (to_seat n (xs ++ ys)) ≡ cond b (x ∷ to_seat n xs) (to_seat n xs) ++ to_seat n ys) [ true ↦ ap (λ l. x ∷ l) ih | false ↦ ih ]

same_seat : (n : ℕ) → nat_eq n n ≡ true
same_seat n = grind (arith, nat_tests)

one_for : (n : ℕ) (x : Delivery) → x.answer.call.seat ≡ n → to_seat n (x ∷ []) ≡ x ∷ []
one_for n x is = ap (λ b. cond b (x ∷ []) []) (ap (λ m. nat_eq m n) is ∙ same_seat n)

none_for : (n : ℕ) (x : Delivery) → x.answer.call.seat ≢ n → to_seat n (x ∷ []) ≡ []
none_for n x apart = ap (λ b. cond b (x ∷ []) []) (ne_eqb x.answer.call.seat n apart)

-- an end to another seat has given nothing
nothing_for : (n : ℕ) (x : Delivery) (v : ReplyView) → x.answer.call.seat ≢ n → v.given ≡ v.given ++ to_seat n (x ∷ [])
nothing_for n x v apart = sym (append-nil v.given) ∙ ap (λ l. v.given ++ l) (sym (none_for n x apart))

pub given_none : (n : ℕ) (vs : List ReplyView) → HaveGiven n [] vs vs
given_none n [] = refl
given_none n (v ∷ vs) = (sym (append-nil v.given), given_none (suc n) vs)

given_before : (n : ℕ) (x : Delivery) (vs : List ReplyView) → x.answer.call.seat < n → HaveGiven n (x ∷ []) vs vs
given_before n x [] e = refl
given_before n x (v ∷ vs) e = (nothing_for n x v (λ same. absurd (omega (arith, e, same))), given_before (suc n) x vs (omega (arith, e)))

-- no end is to that seat
pub given_behind : (n : ℕ) (x : Delivery) (vs : List ReplyView) → n + length vs ≤ x.answer.call.seat → HaveGiven n (x ∷ []) vs vs
given_behind n x [] e = refl
given_behind n x (v ∷ vs) e = (nothing_for n x v (λ same. absurd (omega (arith, e, same))), given_behind (suc n) x vs (omega (arith, e)))

-- the end to that seat has given one more
pub given_set : (n k : ℕ) (x : Delivery) (d : ReplyView) (vs : List ReplyView) → k < length vs → x.answer.call.seat ≡ n + k → HaveGiven n (x ∷ []) vs (set vs k (with_given (get_or vs k d) x))
given_set n k x d [] e is = absurd (omega (arith, e))
given_set n zero x d (v ∷ vs) e is = (ap (λ l. v.given ++ l) (sym (one_for n x (omega (arith, is)))), given_before (suc n) x vs (omega (arith, is)))
given_set n (suc k) x d (v ∷ vs) e is = (nothing_for n x v (λ same. absurd (omega (arith, is, same))), given_set (suc n) k x d vs (omega (arith, e)) (omega (arith, is)))

no_ends : (w : ReplyView) (ws : List ReplyView) → w ∷ ws ≡ [] → ⊥
no_ends w ws e = cc

-- some were given, and then some more
pub given_more : (n : ℕ) (xs ys : List Delivery) (vs ws us : List ReplyView) → HaveGiven n xs vs ws → HaveGiven n ys ws us → HaveGiven n (xs ++ ys) vs us
given_more n xs ys [] [] us h k = k
given_more n xs ys [] (w ∷ ws) us h k = absurd (no_ends w ws h)
given_more n xs ys (v ∷ vs) [] us h k = absurd h
given_more n xs ys (v ∷ vs) (w ∷ ws) [] h k = absurd k
given_more n xs ys (v ∷ vs) (w ∷ ws) (u ∷ us) h k =
    (k.0 ∙ ap (λ l. l ++ to_seat n ys) h.0 ∙ append_assoc v.given (to_seat n xs) (to_seat n ys) ∙ ap (λ l. v.given ++ l) (sym (to_seat-append n xs ys)), given_more (suc n) xs ys vs ws us h.1 k.1)

pub given_length : (n : ℕ) (xs : List Delivery) (vs ws : List ReplyView) → HaveGiven n xs vs ws → length ws ≡ length vs
given_length n xs [] ws h = ap length h
given_length n xs (v ∷ vs) [] h = absurd h
given_length n xs (v ∷ vs) (w ∷ ws) h = ap suc (given_length (suc n) xs vs ws h.1)
