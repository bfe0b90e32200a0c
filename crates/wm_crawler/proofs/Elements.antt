-- What is among the elements of lists that are joined, filtered and flattened.
use Rattle.std.proofs.Common.{◌≡◌, ℕ, zero, suc, ◌<◌, ◌⊎◌, inl, inr, List, [], ◌∷◌, ◌++◌, length, get_or, map, Option, Some, None, refl, sym, ap, ◌∙◌, subst, arith}
use Rattle.std.specs.List.{cons_option, filter_map, flat_map}
use Rattle.wm_crawler.specs.Trees.{Among}

pub among_left : {A : Type 0} (x : A) (xs ys : List A) → Among x xs → Among x (xs ++ ys)
among_left x [] ys h = absurd h
among_left x (y ∷ xs) ys (inl e) = inl e
among_left x (y ∷ xs) ys (inr h) = inr (among_left x xs ys h)

pub among_right : {A : Type 0} (x : A) (xs ys : List A) → Among x ys → Among x (xs ++ ys)
among_right x [] ys h = h
among_right x (y ∷ xs) ys h = inr (among_right x xs ys h)

more_left : {P Q R : Type 0} → Q ⊎ R → (P ⊎ Q) ⊎ R
more_left (inl q) = inl (inr q)
more_left (inr r) = inr r

pub among_either : {A : Type 0} (x : A) (xs ys : List A) → Among x (xs ++ ys) → Among x xs ⊎ Among x ys
among_either x [] ys h = inr h
among_either x (y ∷ xs) ys (inl e) = inl (inl e)
among_either x (y ∷ xs) ys (inr h) = more_left (among_either x xs ys h)

pub among_get : {A : Type 0} (x : A) (xs : List A) (i : ℕ) → i < length xs → x ≡ get_or xs i x → Among x xs
among_get x [] i l e = absurd (omega arith)
among_get x (y ∷ xs) zero l e = inl e
among_get x (y ∷ xs) (suc i) l e = inr (among_get x xs i (omega arith) e)

pub among_map : {A B : Type 0} (f : A → B) (x : A) (xs : List A) → Among x xs → Among (f x) (map f xs)
among_map f x [] h = absurd h
among_map f x (y ∷ xs) (inl e) = inl (ap f e)
among_map f x (y ∷ xs) (inr h) = inr (among_map f x xs h)

abbrev pub Mapped : {A B : Type 0} → (A → B) → B → List A → Type 0
Mapped {A} f y xs = (x : A) × Among x xs × (y ≡ f x)

mapped_more : {A B : Type 0} (f : A → B) (y : B) (x : A) (xs : List A) → Mapped f y xs → Mapped f y (x ∷ xs)
mapped_more f y x xs (z, a, e) = (z, inr a, e)

pub mapped : {A B : Type 0} (f : A → B) (y : B) (xs : List A) → Among y (map f xs) → Mapped f y xs
mapped f y [] h = absurd h
mapped f y (x ∷ xs) (inl e) = (x, inl refl, e)
mapped f y (x ∷ xs) (inr h) = mapped_more f y x xs (mapped f y xs h)

-- y comes of an element
abbrev pub Made : {X Y : Type 0} → (X → Option Y) → Y → List X → Type 0
Made {X} h y xs = (x : X) × Among x xs × (h x ≡ Some y)

module _ {X Y : Type 0} (h : X → Option Y) (y : Y) where
  made_more : (x : X) (xs : List X) → Made h y xs → Made h y (x ∷ xs)
  made_more x xs (z, a, e) = (z, inr a, e)

  made_first : (x : X) (xs : List X) (o : Option Y) → h x ≡ o → (Among y (filter_map h xs) → Made h y xs) → Among y (cons_option o (filter_map h xs)) → Made h y (x ∷ xs)
  made_first x xs None e rest a = made_more x xs (rest a)
  made_first x xs (Some z) e rest (inl s) = (x, inl refl, e ∙ ap Some (sym s))
  made_first x xs (Some z) e rest (inr a) = made_more x xs (rest a)

  pub made : (xs : List X) → Among y (filter_map h xs) → Made h y xs
  made [] a = absurd a
  made (x ∷ xs) a = made_first x xs (h x) refl (made xs) a

  keep : (o : Option Y) (ys : List Y) → Among y ys → Among y (cons_option o ys)
  keep None ys a = a
  keep (Some z) ys a = inr a

  pub makes : (xs : List X) (x : X) → Among x xs → h x ≡ Some y → Among y (filter_map h xs)
  makes [] x a e = absurd a
  makes (z ∷ xs) x (inl s) e = subst (λ o. Among y (cons_option o (filter_map h xs))) (sym (ap h (sym s) ∙ e)) (inl refl)
  makes (z ∷ xs) x (inr a) e = keep (h z) (filter_map h xs) (makes xs x a e)

abbrev pub Gathered : {X Y : Type 0} → (X → List Y) → Y → List X → Type 0
Gathered {X} g y xs = (x : X) × Among x xs × Among y (g x)

module _ {X Y : Type 0} (g : X → List Y) (y : Y) where
  gathered_first : (x : X) (xs : List X) → (Among y (flat_map g xs) → Gathered g y xs) → Among y (g x) ⊎ Among y (flat_map g xs) → Gathered g y (x ∷ xs)
  gathered_first x xs rest (inl a) = (x, inl refl, a)
  gathered_first x xs rest (inr a) = let m = rest a in (m.0, inr m.1, m.2)

  pub gathered : (xs : List X) → Among y (flat_map g xs) → Gathered g y xs
  gathered [] a = absurd a
  gathered (x ∷ xs) a = gathered_first x xs (gathered xs) (among_either y (g x) (flat_map g xs) a)

  pub gathers : (xs : List X) (x : X) → Among x xs → Among y (g x) → Among y (flat_map g xs)
  gathers [] x a b = absurd a
  gathers (z ∷ xs) x (inl s) b = among_left y (g z) (flat_map g xs) (subst (λ w. Among y (g w)) s b)
  gathers (z ∷ xs) x (inr a) b = among_right y (g z) (flat_map g xs) (gathers xs x a b)
