-- A text more, of which each stands once.
use Rattle.std.proofs.Common.{◌≡◌, ℕ, ◌+◌, ◌<◌, length, take, get_or, Bool, true, false, cond, not, List, [], ◌∷◌, ◌++◌, refl, sym, ap, subst, ◌∙◌}
use Rattle.std.specs.Prelude.{◌||◌, map}
use Rattle.std.proofs.lemmas.List.{append-nil}
use Rattle.std.specs.Cmp.Lexicographic.{nat_list_eq_equiv}
use Rattle.std.specs.List.{filter, list_any}
use Rattle.std.specs.Str.{bytes_eq}
use Rattle.std.proofs.lemmas.List.Elements.{filter-append, filter_more}
use Rattle.std.proofs.lemmas.Map.Views.{any-filter_same}
use Rattle.wm_feed.specs.Records.{Bytes}
use Rattle.wm_feed.specs.Once.{each_once, is_in_texts, with_text_once}

module _ (x y : Bytes) (ys : List Bytes) where
  abbrev others : List Bytes → List Bytes
  others = filter (λ z. not (bytes_eq z y))

  -- the first text is the new one
  same_first : bytes_eq y x ≡ true → others (each_once ys ++ x ∷ []) ≡ others (each_once ys)
  same_first e =
      filter-append (λ z. not (bytes_eq z y)) (each_once ys) (x ∷ [])
      ∙ ap (λ b. others (each_once ys) ++ cond (not b) (x ∷ []) []) (nat_list_eq_equiv.symm x y ∙ e)
      ∙ append-nil (others (each_once ys))

  -- it is another one
  other_first : bytes_eq y x ≡ false → others (each_once ys ++ x ∷ []) ≡ others (each_once ys) ++ x ∷ []
  other_first e =
      filter-append (λ z. not (bytes_eq z y)) (each_once ys) (x ∷ [])
      ∙ ap (λ b. others (each_once ys) ++ cond (not b) (x ∷ []) []) (nat_list_eq_equiv.symm x y ∙ e)

  among_others : bytes_eq y x ≡ false → is_in_texts x (others (each_once ys)) ≡ is_in_texts x (each_once ys)
  among_others e = any-filter_same (λ z. bytes_eq z x) (λ z. not (bytes_eq z y)) true passes (each_once ys)
    where
      passes : (z : Bytes) → bytes_eq z x ≡ true → not (bytes_eq z y) ≡ true
      passes z h = ap not (nat_list_eq_equiv.congr z x y h ∙ nat_list_eq_equiv.symm x y ∙ e)

  -- after the first one, which is x or isn't
  first_new : bytes_eq y x ≡ true → (m : Bool) → others (cond m (each_once ys) (each_once ys ++ x ∷ [])) ≡ others (each_once ys)
  first_new e true = refl
  first_new e false = same_first e

  first_other : bytes_eq y x ≡ false → (m : Bool)
      → y ∷ others (cond m (each_once ys) (each_once ys ++ x ∷ [])) ≡ cond m (y ∷ others (each_once ys)) ((y ∷ others (each_once ys)) ++ x ∷ [])
  first_other e true = refl
  first_other e false = ap (λ zs. y ∷ zs) (other_first e)

  behind : each_once (ys ++ x ∷ []) ≡ cond (is_in_texts x (each_once ys)) (each_once ys) (each_once ys ++ x ∷ [])
      → (b : Bool) → bytes_eq y x ≡ b
      → y ∷ others (each_once (ys ++ x ∷ [])) ≡ cond (b || is_in_texts x (others (each_once ys))) (y ∷ others (each_once ys)) ((y ∷ others (each_once ys)) ++ x ∷ [])
  behind rest true e = ap (λ zs. y ∷ others zs) rest ∙ ap (λ zs. y ∷ zs) (first_new e (is_in_texts x (each_once ys)))
  behind rest false e =
      ap (λ zs. y ∷ others zs) rest
      ∙ first_other e (is_in_texts x (each_once ys))
      ∙ ap (λ m. cond m (y ∷ others (each_once ys)) ((y ∷ others (each_once ys)) ++ x ∷ [])) (sym (among_others e))

-- a text more stands at the end, unless it stands there
pub once_more : (xs : List Bytes) (x : Bytes) → each_once (xs ++ x ∷ []) ≡ with_text_once x (each_once xs)
once_more [] x = refl
once_more (y ∷ ys) x = behind x y ys (once_more ys x) (bytes_eq y x) refl

-- the step of a loop that keeps those that pass
pub filter_pass : {X : Type 0} (p : X → Bool) (xs : List X) (i : ℕ) (x : X) → i < length xs → x ≡ get_or xs i x → p x ≡ true → filter p (take i xs) ++ x ∷ [] ≡ filter p (take (i + 1) xs)
filter_pass {X} p xs i x h e t =
    let P : X → Type 0 = λ y. filter p (take (i + 1) xs) ≡ filter p (take i xs) ++ cond (p y) (y ∷ []) [] in
    sym (subst P (sym e) (filter_more p xs i x h) ∙ ap (λ b. filter p (take i xs) ++ cond b (x ∷ []) []) t)

pub filter_fail : {X : Type 0} (p : X → Bool) (xs : List X) (i : ℕ) (x : X) → i < length xs → x ≡ get_or xs i x → p x ≡ false → filter p (take i xs) ≡ filter p (take (i + 1) xs)
filter_fail {X} p xs i x h e t =
    let P : X → Type 0 = λ y. filter p (take (i + 1) xs) ≡ filter p (take i xs) ++ cond (p y) (y ∷ []) [] in
    sym (subst P (sym e) (filter_more p xs i x h) ∙ ap (λ b. filter p (take i xs) ++ cond b (x ∷ []) []) t ∙ append-nil (filter p (take i xs)))

-- and of one that keeps each of them once
pub once_pass : (p : Bytes → Bool) (xs : List Bytes) (i : ℕ) (x : Bytes) → i < length xs → x ≡ get_or xs i x → p x ≡ true → with_text_once x (each_once (filter p (take i xs))) ≡ each_once (filter p (take (i + 1) xs))
once_pass p xs i x h e t = sym (once_more (filter p (take i xs)) x) ∙ ap each_once (filter_pass p xs i x h e t)

pub once_fail : (p : Bytes → Bool) (xs : List Bytes) (i : ℕ) (x : Bytes) → i < length xs → x ≡ get_or xs i x → p x ≡ false → each_once (filter p (take i xs)) ≡ each_once (filter p (take (i + 1) xs))
once_fail p xs i x h e t = ap each_once (filter_fail p xs i x h e t)

-- a text among some that are kept in another form
pub among_map : {X : Type 0} (f : X → Bytes) (text : Bytes) (xs : List X) → is_in_texts text (map f xs) ≡ list_any (λ x. bytes_eq (f x) text) xs
among_map f text [] = refl
among_map f text (x ∷ xs) = ap (λ b. bytes_eq (f x) text || b) (among_map f text xs)
