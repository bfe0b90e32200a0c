-- Which paths a set of paths has: after one more, of two, of those that pass, of those of a map.
use Rattle.std.proofs.Common.{◌≡◌, Bool, true, false, cond, ◌&&◌, ◌||◌, [], ◌∷◌, ◌++◌, filter, Option, Some, is_some, refl, sym, ap, ◌∙◌, true≢false, Less, Equal, Greater}
use Rattle.std.specs.Ordering.{match_ordering, is_eq}
use Rattle.std.specs.declared.cmp.Ordering.{Ordering}
use Rattle.std.specs.FinMap.{slice_cmp-IsAntisymmetric, nat_cmp-IsAntisymmetric}
use Rattle.wm_names.specs.Paths.{Path, same_path, path_cmp}
use Rattle.wm_view.specs.Files.{Paths, Files, at, is_in, with_path, add_paths}

absorb : (b c : Bool) → (b || (b || c)) ≡ (b || c)
absorb true c = refl
absorb false c = refl

swap_or : (a b c : Bool) → (a || (b || c)) ≡ (b || (a || c))
swap_or true true c = refl
swap_or true false c = refl
swap_or false true c = refl
swap_or false false c = refl

or_assoc : (a b c : Bool) → ((a || b) || c) ≡ (a || (b || c))
or_assoc true b c = refl
or_assoc false b c = refl

pub tied→≡ : (p q : Path) → path_cmp p q ≡ Equal → p ≡ q
tied→≡ p q e = slice_cmp-IsAntisymmetric nat_cmp-IsAntisymmetric p q e

pub same→≡ : (p q : Path) → same_path p q ≡ true → p ≡ q
same→≡ p q e = tied→≡ p q (equal (path_cmp p q) e)
  where
    equal : (o : Ordering) → is_eq o ≡ true → o ≡ Equal
    equal Less h = absurd (true≢false (sym h))
    equal Equal h = refl
    equal Greater h = absurd (true≢false (sym h))

pub with_path-in : (r p : Path) (qs : Paths) → is_in r (with_path p qs) ≡ (same_path r p || is_in r qs)
with_path-in r p [] = refl
with_path-in r p (q ∷ qs) =
    elim (path_cmp p q) as (λ o. path_cmp p q ≡ o → is_in r (match_ordering o (p ∷ q ∷ qs) (q ∷ qs) (q ∷ with_path p qs)) ≡ (same_path r p || (same_path r q || is_in r qs))) [
      | Less ↦ λ _. refl
      | Equal ↦ λ e. sym (absorb (same_path r q) (is_in r qs)) ∙ ap (λ s. same_path r s || (same_path r q || is_in r qs)) (sym (tied→≡ p q e))
      | Greater ↦ λ _. ap (λ b. same_path r q || b) (with_path-in r p qs) ∙ swap_or (same_path r q) (same_path r p) (is_in r qs)
    ] refl

pub in_append : (r : Path) (ps qs : Paths) → is_in r (ps ++ qs) ≡ (is_in r ps || is_in r qs)
in_append r [] qs = refl
in_append r (p ∷ ps) qs = ap (λ b. same_path r p || b) (in_append r ps qs) ∙ sym (or_assoc (same_path r p) (is_in r ps) (is_in r qs))

-- an item that passes, or does not
keeps_true : (s i f : Bool) → (s ≡ true → f ≡ true) → (s || (i && f)) ≡ ((s || i) && f)
keeps_true true i f h = sym (h refl)
keeps_true false i f h = refl

keeps_false : (s i f : Bool) → (s ≡ true → f ≡ false) → (i && f) ≡ ((s || i) && f)
keeps_false true true f h = refl
keeps_false true false f h = sym (h refl)
keeps_false false i f h = refl

pub in_filter : (r : Path) (f : Path → Bool) (ps : Paths) → is_in r (filter f ps) ≡ (is_in r ps && f r)
in_filter r f [] = refl
in_filter r f (q ∷ qs) =
    elim (f q) as (λ b. f q ≡ b → is_in r (cond b (q ∷ filter f qs) (filter f qs)) ≡ ((same_path r q || is_in r qs) && f r)) [
      | true ↦ λ e. ap (λ b. same_path r q || b) (in_filter r f qs) ∙ keeps_true (same_path r q) (is_in r qs) (f r) (λ s. ap f (same→≡ r q s) ∙ e)
      | false ↦ λ e. in_filter r f qs ∙ keeps_false (same_path r q) (is_in r qs) (f r) (λ s. ap f (same→≡ r q s) ∙ e)
    ] refl

looked_up : {A : Type 0} (b : Bool) (x : A) (o : Option A) (c : Bool) → (b || (is_some o || c)) ≡ (is_some (cond b (Some x) o) || c)
looked_up true x o c = refl
looked_up false x o c = refl

pub add_in : (r : Path) (files : Files) (ps : Paths) → is_in r (add_paths files ps) ≡ (is_some (at files r) || is_in r ps)
add_in r [] ps = refl
add_in r (e ∷ es) ps =
    with_path-in r e.0 (add_paths es ps) ∙ ap (λ b. same_path r e.0 || b) (add_in r es ps) ∙ looked_up (same_path r e.0) e.1 (at es r) (is_in r ps)
