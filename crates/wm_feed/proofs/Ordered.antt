-- Paths in their order, put into a set one by one.
use Rattle.std.proofs.Common.{◌≡◌, ℕ, suc, ◌+◌, ◌<◌, List, [], ◌∷◌, ◌++◌, length, take, drop, get_or, Less, Greater, refl, sym, ap, subst, ◌∙◌, drop-cons}
use Rattle.std.specs.BTreeSet.{insert_key}
use Rattle.std.specs.Cmp.Lexicographic.{nat_list_cmp_total}
use Rattle.std.specs.List.{AllByRecursion}
use Rattle.std.specs.List.Sorted.{IsStrictlySortedBy}
use Rattle.std.specs.Ordering.{match_ordering, ordering_reverse}
use Rattle.std.proofs.lemmas.List.{take-append-drop, take_more}
use Rattle.std.proofs.lemmas.Map.Keys.{sorted_head, sorted_tail}
use Rattle.wm_names.specs.Paths.{Path, path_cmp}

at_middle : (P : Path → Type 0) (seen : List Path) (p : Path) (rest : List Path) → AllByRecursion P (seen ++ p ∷ rest) → P p
at_middle P [] p rest h = h.0
at_middle P (x ∷ seen) p rest h = at_middle P seen p rest h.1

before : (seen : List Path) (p : Path) (rest : List Path) → IsStrictlySortedBy path_cmp (seen ++ p ∷ rest) → AllByRecursion (λ x. path_cmp x p ≡ Less) seen
before [] p rest h = tt
before (x ∷ seen) p rest h = (at_middle (λ y. path_cmp x y ≡ Less) seen p rest (sorted_head path_cmp x (seen ++ p ∷ rest) h), before seen p rest (sorted_tail path_cmp x (seen ++ p ∷ rest) h))

insert_last : (ks : List Path) (p : Path) → AllByRecursion (λ x. path_cmp x p ≡ Less) ks → insert_key path_cmp ks p ≡ ks ++ p ∷ []
insert_last [] p h = refl
insert_last (x ∷ ks) p h =
    let after : path_cmp p x ≡ Greater = nat_list_cmp_total.antisymm p x ∙ ap ordering_reverse h.0 in
    ap (λ o. match_ordering o (p ∷ x ∷ ks) (x ∷ ks) (x ∷ insert_key path_cmp ks p)) after ∙ ap (λ l. x ∷ l) (insert_last ks p h.1)

-- the step of a loop
pub insert_next : (xs : List Path) (i : ℕ) (p : Path) → IsStrictlySortedBy path_cmp xs → i < length xs → p ≡ get_or xs i p → insert_key path_cmp (take i xs) p ≡ take (i + 1) xs
insert_next xs i p sorted low here =
    let parts : xs ≡ take i xs ++ p ∷ drop (suc i) xs = sym (take-append-drop i xs) ∙ ap (λ l. take i xs ++ l) (drop-cons xs i p low) ∙ ap (λ x. take i xs ++ x ∷ drop (suc i) xs) (sym here) in
    insert_last (take i xs) p (before (take i xs) p (drop (suc i) xs) (subst (IsStrictlySortedBy path_cmp) parts sorted))
    ∙ ap (λ x. take i xs ++ x ∷ []) here
    ∙ sym (take_more xs i p low)
