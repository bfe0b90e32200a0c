-- The path of a name in a folder keeps the rules where the name is one component and the path isn't too long.
use Rattle.std.proofs.Common.{◌≡◌, ℕ, ◌+◌, ◌<◌, Bool, true, false, not, cond, ◌&&◌, ◌==◌, nat_le, List, [], ◌∷◌, ◌++◌, length, refl, sym, ap, ◌∙◌, arith, le-leb, length-append, true≢false}
use Rattle.std.specs.List.{list_all, onto_first, slice_split}
use Rattle.std.proofs.lemmas.List.Splits.{length-slice_split, slice_split-cons_yes}
use Rattle.std.proofs.lemmas.List.Folds.{list_all-append}
use Rattle.wm_names.specs.Paths.{components, is_component, is_rel_path, max_rel_path}
use Rattle.wm_names.specs.Entries.{is_fit}
use Rattle.wm_names.specs.declared.subtree.Subtree.TheVariants.{Whole, Below}

first_kept : {X : Type 0} (x : X) (b : Bool) (ps qs : List (List X)) → 0 < length ps → cond b ([] ∷ (ps ++ qs)) (onto_first x (ps ++ qs)) ≡ cond b ([] ∷ ps) (onto_first x ps) ++ qs
first_kept x true ps qs l = refl
first_kept x false [] qs l = absurd (omega arith)
first_kept x false (p ∷ ps) qs l = refl

-- a slash parts the components before it from those behind it
parted : (folder name : List ℕ) → components (folder ++ 47 ∷ name) ≡ components folder ++ components name
parted [] name = slice_split-cons_yes (λ b. b == 47) 47 name refl
parted (x ∷ folder) name =
    ap (λ parts. cond (x == 47) ([] ∷ parts) (onto_first x parts)) (parted folder name)
    ∙ first_kept x (x == 47) (components folder) (components name) (omega (arith, length-slice_split (λ b. b == 47) folder))

one_more_byte : (x : ℕ) (name : List ℕ) (b : Bool) → (not b && list_all (λ y. not (y == 47)) name) ≡ true → (list_all (λ y. not (y == 47)) name ≡ true → components name ≡ name ∷ [])
    → cond b ([] ∷ components name) (onto_first x (components name)) ≡ (x ∷ name) ∷ []
one_more_byte x name true e rest = absurd (true≢false (sym e))
one_more_byte x name false e rest = ap (onto_first x) (rest e)

-- a name without a slash is the one component of itself
one_component : (name : List ℕ) → list_all (λ b. not (b == 47)) name ≡ true → components name ≡ name ∷ []
one_component [] e = refl
one_component (x ∷ name) e = one_more_byte x name (x == 47) e (one_component name)

fits : (folder name : List ℕ) (free : Bool) → free ≡ list_all (λ b. not (b == 47)) name → list_all is_component (components folder) ≡ true
    → (free && list_all is_component (components (folder ++ 47 ∷ name))) ≡ (free && is_component name)
fits folder name false e h = refl
fits folder name true e h =
    ap (list_all is_component) (parted folder name ∙ ap (λ parts. components folder ++ parts) (one_component name (sym e)))
    ∙ list_all-append is_component (components folder) (name ∷ [])
    ∙ ap (λ b. b && (is_component name && true)) h
    ∙ and_true (is_component name)
  where
    and_true : (b : Bool) → (b && true) ≡ b
    and_true true = refl
    and_true false = refl

right : (a b : Bool) → (a && b) ≡ true → b ≡ true
right true b e = e
right false b e = absurd (true≢false (sym e))

swapped : (a b d : Bool) → (a && (b && d)) ≡ (b && (a && d))
swapped true b d = refl
swapped false true d = refl
swapped false false d = refl

-- what a folder's path and a name have to keep
pub fit_below : (folder name : List ℕ) → is_rel_path folder ≡ true → length folder + length name < max_rel_path
    → is_fit (Below folder) name ≡ (list_all (λ b. not (b == 47)) name && is_component name)
fit_below folder name e short =
    swapped (list_all (λ b. not (b == 47)) name) (nat_le (length (folder ++ 47 ∷ name)) max_rel_path) (list_all is_component (components (folder ++ 47 ∷ name)))
    ∙ ap (λ b. nat_le (length (folder ++ 47 ∷ name)) max_rel_path && b) (fits folder name (list_all (λ b. not (b == 47)) name) refl (right (nat_le (length folder) max_rel_path) (list_all is_component (components folder)) e))
    ∙ ap (λ b. b && (list_all (λ b. not (b == 47)) name && is_component name)) (le-leb (length (folder ++ 47 ∷ name)) max_rel_path (omega (arith, short, length-append folder (47 ∷ name))))

pub fit_whole : (name : List ℕ) → list_all (λ b. not (b == 47)) name ≡ true → is_rel_path name ≡ is_fit Whole name
fit_whole name e = ap (λ b. b && is_rel_path name) (sym e)
