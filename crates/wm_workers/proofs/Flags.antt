-- Lists of wake flags, of which one or each is changed.
use Rattle.std.proofs.Common.{◌≡◌, ◌<◌, ◌≤◌, ◌+◌, ◌∙◌, ◌++◌, ℕ, zero, suc, List, [], ◌∷◌, false, Some, None, append-nil, ap, arith, drop, get_or, length, map, refl, set, subst, sym, take}
use Rattle.std.proofs.lemmas.List.{drop_all, take_all}
use Rattle.std.proofs.lemmas.List.Edits.{map_over_more}
use Rattle.std.specs.Option.{option_map_or}
use Rattle.std.specs.Prelude.{MatchOption, slice_get, slice_set}
use Rattle.wm_workers.specs.WakeFlags.{ChangesFlag, HasNotified, goes_on_at, is_clear, is_clear_at, is_not_closed, notified_flag}
use Rattle.wm_workers.specs.declared.wakes.state.WakeState.{WakeState}

-- ---- each

pub one_more_mapped : {X : Type 0} (f : X → X) (xs ys : List X) (i : ℕ) (x : X) → i < length xs → ys ≡ map f (take i xs) ++ drop i xs → x ≡ get_or ys i x → set ys i (f x) ≡ map f (take (i + 1) xs) ++ drop (i + 1) xs
one_more_mapped f xs ys i x lt is at = map_over_more f xs ys i x lt is at

pub all_mapped : {X : Type 0} (f : X → X) (xs ys : List X) (i : ℕ) → length xs ≤ i → ys ≡ map f (take i xs) ++ drop i xs → ys ≡ map f xs
all_mapped f xs ys i le is =
    is ∙ ap (λ l. map f l ++ drop i xs) (take_all i xs le) ∙ ap (λ l. map f xs ++ l) (drop_all i xs le) ∙ append-nil (map f xs)

pub notified : (roots : ℕ) (old new : List WakeState) → new ≡ map (notified_flag roots) old → HasNotified roots
unfolding HasNotified
notified roots old new is = (old, new, is)

-- ---- that of one slot

got : {X : Type 0} (xs : List X) (i : ℕ) (x : X) → i < length xs → x ≡ get_or xs i x → slice_get xs i ≡ Some x
got [] i x lt at = absurd (omega (arith, lt))
got (y ∷ xs) zero x lt at = ap Some (sym at)
got (y ∷ xs) (suc i) x lt at = got xs i x (omega (arith, lt)) at

none_there : {X : Type 0} (xs : List X) (i : ℕ) → length xs ≤ i → slice_get xs i ≡ None
none_there [] zero le = refl
none_there [] (suc i) le = refl
none_there (y ∷ xs) zero le = absurd (omega (arith, le))
none_there (y ∷ xs) (suc i) le = none_there xs i (omega (arith, le))

pub changed_flag : (slot : ℕ) (change : WakeState → WakeState) (xs new : List WakeState) (x : WakeState) → slot < length xs → x ≡ get_or xs slot x → new ≡ slice_set xs slot (change x) → ChangesFlag slot change xs new
changed_flag slot change xs new x lt at is = subst (λ o. MatchOption o (new ≡ xs) (λ s. new ≡ slice_set xs slot (change s))) (sym (got xs slot x lt at)) is

pub same_flags : (slot : ℕ) (change : WakeState → WakeState) (xs : List WakeState) → length xs ≤ slot → ChangesFlag slot change xs xs
same_flags slot change xs le = subst (λ o. MatchOption o (xs ≡ xs) (λ s. xs ≡ slice_set xs slot (change s))) (sym (none_there xs slot le)) refl

pub clear_at : (slot : ℕ) (xs : List WakeState) (x : WakeState) → slot < length xs → x ≡ get_or xs slot x → is_clear_at slot xs ≡ is_clear x.wake
clear_at slot xs x lt at = ap (λ o. option_map_or (λ s. is_clear s.wake) o false) (got xs slot x lt at)

pub goes_on : (slot : ℕ) (xs : List WakeState) (x : WakeState) → slot < length xs → x ≡ get_or xs slot x → goes_on_at slot xs ≡ is_not_closed x.wake
goes_on slot xs x lt at = ap (λ o. option_map_or (λ s. is_not_closed s.wake) o false) (got xs slot x lt at)

pub goes_nowhere : (slot : ℕ) (xs : List WakeState) → length xs ≤ slot → goes_on_at slot xs ≡ false
goes_nowhere slot xs le = ap (λ o. option_map_or (λ s. is_not_closed s.wake) o false) (none_there xs slot le)
