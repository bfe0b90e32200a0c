-- One more path, and one more file of an answer.
use Rattle.std.proofs.Common.{◌≡◌, ℕ, zero, suc, ◌+◌, ◌-◌, ◌<◌, ◌≤◌, Bool, cond, List, [], ◌∷◌, ◌++◌, length, take, drop, get_or, refl, sym, ap, ◌∙◌, append_assoc, add-one, drop-cons, arith, Less, Equal, Greater}
use Rattle.std.proofs.lemmas.List.{drop_all}
use Rattle.std.specs.List.{insert}
use Rattle.std.specs.Ordering.{match_ordering}
use Rattle.wm_names.specs.Paths.{Path, path_cmp}
use Rattle.wm_view.specs.Files.{Paths, with_path}
use Rattle.wm_view.specs.laws.Lists.{drop_here}
use Rattle.wm_since.specs.declared.listed.Listed.{Listed}
use Rattle.wm_since.specs.Clients.{put_in}

pub drop_last : {A : Type 0} (xs : List A) (i : ℕ) (d : A) → 0 < i → i ≤ length xs → drop (i - 1) xs ≡ get_or xs (i - 1) d ∷ drop i xs
drop_last xs i d low high =
    drop-cons xs (i - 1) d (omega arith) ∙ (let e : suc (i - 1) ≡ i = omega arith in ap (λ n. get_or xs (i - 1) d ∷ drop n xs) e)

pub with_less : (p : Path) (xs : Paths) (i : ℕ) (x : Path) → i < length xs → x ≡ get_or xs i x → path_cmp p x ≡ Less → take i xs ++ with_path p (drop i xs) ≡ insert xs i p
with_less p xs i x l e less =
    ap (λ m. take i xs ++ with_path p m) (drop_here xs i x l e)
    ∙ ap (λ o. take i xs ++ match_ordering o (p ∷ x ∷ drop (i + 1) xs) (x ∷ drop (i + 1) xs) (x ∷ with_path p (drop (i + 1) xs))) less
    ∙ ap (λ m. take i xs ++ p ∷ m) (sym (drop_here xs i x l e))

pub with_last : (p : Path) (xs : Paths) (i : ℕ) → length xs ≤ i → take i xs ++ with_path p (drop i xs) ≡ insert xs i p
with_last p xs i l = ap (λ m. take i xs ++ with_path p m) (drop_all i xs l) ∙ ap (λ m. take i xs ++ p ∷ m) (sym (drop_all i xs l))

whole : {A : Type 0} (xs : List A) (i : ℕ) → take i xs ++ drop i xs ≡ xs
whole [] zero = refl
whole [] (suc i) = refl
whole (x ∷ xs) zero = refl
whole (x ∷ xs) (suc i) = ap (λ m. x ∷ m) (whole xs i)

pub with_equal : (p : Path) (xs : Paths) (i : ℕ) (x : Path) → i < length xs → x ≡ get_or xs i x → path_cmp p x ≡ Equal → take i xs ++ with_path p (drop i xs) ≡ xs
with_equal p xs i x l e equal =
    ap (λ m. take i xs ++ with_path p m) (drop_here xs i x l e)
    ∙ ap (λ o. take i xs ++ match_ordering o (p ∷ x ∷ drop (i + 1) xs) (x ∷ drop (i + 1) xs) (x ∷ with_path p (drop (i + 1) xs))) equal
    ∙ ap (λ m. take i xs ++ m) (sym (drop_here xs i x l e))
    ∙ whole xs i

take_here : {A : Type 0} (xs : List A) (i : ℕ) (x : A) → i < length xs → x ≡ get_or xs i x → take (i + 1) xs ≡ take i xs ++ x ∷ []
take_here xs i x l e = ap (λ n. take n xs) (add-one i) ∙ by_suc xs i x l e
  where
    by_suc : {A : Type 0} (xs : List A) (i : ℕ) (x : A) → i < length xs → x ≡ get_or xs i x → take (suc i) xs ≡ take i xs ++ x ∷ []
    by_suc [] i x l e = absurd (omega arith)
    by_suc (y ∷ xs) zero x l e = λ j. sym e j ∷ []
    by_suc (y ∷ xs) (suc i) x l e = ap (λ m. y ∷ m) (by_suc xs i x (omega arith) e)

pub with_greater : (p : Path) (xs : Paths) (i : ℕ) (x : Path) → i < length xs → x ≡ get_or xs i x → path_cmp p x ≡ Greater → take i xs ++ with_path p (drop i xs) ≡ take (i + 1) xs ++ with_path p (drop (i + 1) xs)
with_greater p xs i x l e greater =
    ap (λ m. take i xs ++ with_path p m) (drop_here xs i x l e)
    ∙ ap (λ o. take i xs ++ match_ordering o (p ∷ x ∷ drop (i + 1) xs) (x ∷ drop (i + 1) xs) (x ∷ with_path p (drop (i + 1) xs))) greater
    ∙ sym (append_assoc (take i xs) (x ∷ []) (with_path p (drop (i + 1) xs)))
    ∙ ap (λ m. m ++ with_path p (drop (i + 1) xs)) (sym (take_here xs i x l e))

pub put_turn : (test : Listed → Bool) (files : List Listed) (ps : Paths) (i : ℕ) (d : Listed) → 0 < i → i ≤ length files
    → put_in test (drop (i - 1) files) ps ≡ cond (test (get_or files (i - 1) d)) (with_path (get_or files (i - 1) d).entry.path (put_in test (drop i files) ps)) (put_in test (drop i files) ps)
put_turn test files ps i d low high = ap (λ m. put_in test m ps) (drop_last files i d low high)
