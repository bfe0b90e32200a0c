-- A list in two parts around an element.
use Rattle.std.proofs.Common.{◌≡◌, Bool, true, false, ◌||◌, Some, None, true≢false, ◌∙◌, ◌<◌, ◌+◌, ℕ, List, ◌∷◌, ◌++◌, length, get_or, take, drop, ap, sym, subst, refl, zero, suc, [], arith}
use Rattle.std.specs.List.{find, list_any, remove}
use Rattle.std.proofs.Common.{slice_set}
use Rattle.std.proofs.lemmas.List.{drop_more, take-append-drop}

parted : {X : Type 0} (xs : List X) (i : ℕ) (d : X) → i < length xs → xs ≡ take i xs ++ get_or xs i d ∷ drop (i + 1) xs
parted xs i d lt = sym (take-append-drop i xs) ∙ ap (λ l. take i xs ++ l) (drop_more xs i d lt)

pub parted_at : {X : Type 0} (xs ys : List X) (i : ℕ) (x : X) → ys ≡ xs → i < length ys → x ≡ get_or ys i x → xs ≡ take i xs ++ x ∷ drop (i + 1) xs
parted_at xs ys i x same lt is = subst (λ zs. zs ≡ take i zs ++ x ∷ drop (i + 1) zs) same (parted ys i x lt ∙ ap (λ z. take i ys ++ z ∷ drop (i + 1) ys) (sym is))

plus_one : (n : ℕ) → suc n ≡ n + 1
plus_one n = omega arith

pub removed : {X : Type 0} (xs : List X) (i : ℕ) → remove xs i ≡ take i xs ++ drop (i + 1) xs
removed xs i = ap (λ n. take i xs ++ drop n xs) (plus_one i)

set_at : {X : Type 0} (xs : List X) (i : ℕ) (y : X) → i < length xs → slice_set xs i y ≡ take i xs ++ y ∷ drop (suc i) xs
set_at [] i y lt = absurd (omega (arith, lt))
set_at (x ∷ xs) zero y lt = refl
set_at (x ∷ xs) (suc i) y lt = ap (λ l. x ∷ l) (set_at xs i y (omega (arith, lt)))

pub replaced : {X : Type 0} (xs : List X) (i : ℕ) (y : X) → i < length xs → slice_set xs i y ≡ take i xs ++ y ∷ drop (i + 1) xs
replaced xs i y lt = set_at xs i y lt ∙ ap (λ n. take i xs ++ y ∷ drop n xs) (plus_one i)

-- ---- the first that passes a test

either : (b d : Bool) → d ≡ true → (b || d) ≡ true
either true d h = refl
either false d h = h

pub neither : (b d : Bool) → (b || d) ≡ false → (b ≡ false) × (d ≡ false)
neither true d h = absurd (true≢false h)
neither false d h = (refl, h)

pub any_at : {X : Type 0} (p : X → Bool) (xs : List X) (i : ℕ) → i < length xs → ((d : X) → p (get_or xs i d) ≡ true) → list_any p xs ≡ true
any_at p [] i lt h = absurd (omega (arith, lt))
any_at p (x ∷ xs) zero lt h = let here = h x in rw here refl
any_at p (x ∷ xs) (suc i) lt h = either (p x) (list_any p xs) (any_at p xs i (omega (arith, lt)) h)

pub any_first : {X : Type 0} (p : X → Bool) (before : List X) (x : X) (after : List X) → p x ≡ true → list_any p (before ++ x ∷ after) ≡ true
any_first p [] x after h = let here = h in rw here refl
any_first p (first ∷ before) x after h = either (p first) (list_any p (before ++ x ∷ after)) (any_first p before x after h)

pub find_first : {X : Type 0} (p : X → Bool) (before : List X) (x : X) (after : List X) → list_any p before ≡ false → p x ≡ true → find p (before ++ x ∷ after) ≡ Some x
find_first p [] x after none h = let here = h in rw here refl
find_first p (first ∷ before) x after none h =
    let no = neither (p first) (list_any p before) none in
    let here = no.0 in
    rw here (find_first p before x after no.1 h)

pub find_none : {X : Type 0} (p : X → Bool) (xs : List X) → list_any p xs ≡ false → find p xs ≡ None
find_none p [] none = refl
find_none p (x ∷ xs) none =
    let no = neither (p x) (list_any p xs) none in
    let here = no.0 in
    rw here (find_none p xs no.1)
