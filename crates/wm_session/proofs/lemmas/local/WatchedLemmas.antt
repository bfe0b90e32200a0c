-- The view of a root stands at the root's place.
use Rattle.std.proofs.Common.{◌≡◌, ℕ, zero, suc, ◌+◌, ◌<◌, ◌≤◌, Bool, true, false, not, cond, List, [], ◌∷◌, length, get_or, map, nat_lt, Option, Some, None, refl, sym, ap, ◌∙◌, arith}
use Rattle.std.specs.Prelude.{option_map, position, slice_set}
use Rattle.std.specs.List.{position_or_len, remove, slice_get}
use Rattle.std.specs.Map.{keys_of, values_of}
use Rattle.std.proofs.lemmas.Bool.Decides.{nat_tests}
use Rattle.std.proofs.lemmas.Option.{slice_get_past}
use Rattle.std.specs.Str.{bytes_eq}
use Rattle.wm_names.specs.Paths.{Path}
use Rattle.wm_session.specs.declared.local.root_views.RootView.{RootView}
use Rattle.wm_registry.specs.declared.root.Root.{Root}
use Rattle.wm_session.specs.session.Watched.{new_view, place_of, root_view_at, with_view, without_view}

abbrev pub Roots : Type 0
Roots = List (Path × Root)

-- ---- the place of a root, root by root

place_next : (k n : ℕ) → cond {A = Option ℕ} (nat_lt (1 + k) (suc n)) (Some (1 + k)) None ≡ option_map suc (cond (nat_lt k n) (Some k) None)
place_next k n = grind (arith, nat_tests)

place_first : (n : ℕ) → cond {A = Option ℕ} (nat_lt 0 (suc n)) (Some 0) None ≡ Some 0
place_first n = grind (arith, nat_tests)

position_step : {X : Type 0} (p : X → Bool) (x : X) (xs : List X) → position p (x ∷ xs) ≡ cond (p x) (Some 0) (option_map suc (position p xs))
position_step {X} p x xs =
    let k = position_or_len p xs in
    elim (p x) as (λ b. cond {A = Option ℕ} (nat_lt (cond {A = ℕ} (not b) (1 + k) 0) (suc (length xs))) (Some (cond {A = ℕ} (not b) (1 + k) 0)) None ≡ cond b (Some 0) (option_map suc (position p xs))) [
      | true ↦ place_first (length xs)
      | false ↦ place_next k (length xs)
    ]

place_step : (path : Path) (root : Path × Root) (roots : Roots) → place_of path (root ∷ roots) ≡ cond (bytes_eq path root.0) (Some 0) (option_map suc (place_of path roots))
place_step path root roots = position_step (bytes_eq path) root.0 (keys_of roots)

abbrev pub by_place : Option ℕ → List RootView → Option RootView
by_place None views = None
by_place (Some i) views = slice_get views i

abbrev pub set_place : Option ℕ → RootView → List RootView → List RootView
set_place None new views = views
set_place (Some i) new views = slice_set views i new

none_there : (o : Option ℕ) → None ≡ by_place o []
none_there None = refl
none_there (Some i) = refl

none_set : (o : Option ℕ) (new : RootView) → [] ≡ set_place o new []
none_set None new = refl
none_set (Some zero) new = refl
none_set (Some (suc i)) new = refl

one_on : (o : Option ℕ) (view : RootView) (views : List RootView) → by_place o views ≡ by_place (option_map suc o) (view ∷ views)
one_on None view views = refl
one_on (Some i) view views = refl

one_set : (o : Option ℕ) (new view : RootView) (views : List RootView) → view ∷ set_place o new views ≡ set_place (option_map suc o) new (view ∷ views)
one_set None new view views = refl
one_set (Some i) new view views = refl

pub view_there : (path : Path) (roots : Roots) (views : List RootView) → root_view_at path roots views ≡ by_place (place_of path roots) views
view_there path [] views = refl
view_there path (root ∷ roots) [] = none_there (place_of path (root ∷ roots))
view_there path (root ∷ roots) (view ∷ views) =
    elim (bytes_eq path root.0) as (λ b. cond b (Some view) (root_view_at path roots views) ≡ by_place (cond b (Some 0) (option_map suc (place_of path roots))) (view ∷ views)) [
      | true ↦ refl
      | false ↦ view_there path roots views ∙ one_on (place_of path roots) view views
    ] ∙ ap (λ o. by_place o (view ∷ views)) (sym (place_step path root roots))

pub with_there : (path : Path) (new : RootView) (roots : Roots) (views : List RootView) → with_view path new roots views ≡ set_place (place_of path roots) new views
with_there path new [] views = refl
with_there path new (root ∷ roots) [] = none_set (place_of path (root ∷ roots)) new
with_there path new (root ∷ roots) (view ∷ views) =
    elim (bytes_eq path root.0) as (λ b. cond b (new ∷ views) (view ∷ with_view path new roots views) ≡ set_place (cond b (Some 0) (option_map suc (place_of path roots))) new (view ∷ views)) [
      | true ↦ refl
      | false ↦ ap (λ (vs : List RootView). view ∷ vs) (with_there path new roots views) ∙ one_set (place_of path roots) new view views
    ] ∙ ap (λ o. set_place o new (view ∷ views)) (sym (place_step path root roots))

-- ---- without the view at a place

abbrev pub take_out : Option ℕ → List RootView → List RootView
take_out None views = views
take_out (Some i) views = remove views i

none_out : (o : Option ℕ) → [] ≡ take_out o []
none_out None = refl
none_out (Some zero) = refl
none_out (Some (suc i)) = refl

one_out : (o : Option ℕ) (view : RootView) (views : List RootView) → view ∷ take_out o views ≡ take_out (option_map suc o) (view ∷ views)
one_out None view views = refl
one_out (Some i) view views = refl

pub without_there : (path : Path) (roots : Roots) (views : List RootView) → without_view path roots views ≡ take_out (place_of path roots) views
without_there path [] views = refl
without_there path (root ∷ roots) [] = none_out (place_of path (root ∷ roots))
without_there path (root ∷ roots) (view ∷ views) =
    elim (bytes_eq path root.0) as (λ b. cond b views (view ∷ without_view path roots views) ≡ take_out (cond b (Some 0) (option_map suc (place_of path roots))) (view ∷ views)) [
      | true ↦ refl
      | false ↦ ap (λ (vs : List RootView). view ∷ vs) (without_there path roots views) ∙ one_out (place_of path roots) view views
    ] ∙ ap (λ o. take_out o (view ∷ views)) (sym (place_step path root roots))

-- nothing is taken out where no view has the place
pub out_past : (views : List RootView) (i : ℕ) → length views ≤ i → take_out (Some i) views ≡ views
out_past [] zero h = refl
out_past [] (suc i) h = refl
out_past (view ∷ views) zero h = absurd (omega arith)
out_past (view ∷ views) (suc i) h = ap (λ (vs : List RootView). view ∷ vs) (out_past views i (omega arith))

pub out_at : (path : Path) (roots : Roots) (views new : List RootView) (i : ℕ) → Some i ≡ place_of path roots → new ≡ remove views i → new ≡ without_view path roots views
out_at path roots views new i is e = e ∙ ap (λ o. take_out o views) is ∙ sym (without_there path roots views)

pub kept_past : (path : Path) (roots : Roots) (views : List RootView) (i : ℕ) → Some i ≡ place_of path roots → length views ≤ i → views ≡ without_view path roots views
kept_past path roots views i is l = sym (out_past views i l) ∙ ap (λ o. take_out o views) is ∙ sym (without_there path roots views)

pub kept_unwatched : (path : Path) (roots : Roots) (views : List RootView) → None ≡ place_of path roots → views ≡ without_view path roots views
kept_unwatched path roots views is = ap (λ o. take_out o views) is ∙ sym (without_there path roots views)

-- ---- at a place

found_there : (views : List RootView) (i : ℕ) (x : RootView) → i < length views → x ≡ get_or views i x → slice_get views i ≡ Some x
found_there [] i x l e = absurd (omega arith)
found_there (v ∷ vs) zero x l e = ap Some (sym e)
found_there (v ∷ vs) (suc i) x l e = found_there vs i x (omega arith) e

pub seen_at : (path : Path) (roots : Roots) (views : List RootView) (i : ℕ) (x : RootView) → Some i ≡ place_of path roots → i < length views → x ≡ get_or views i x → root_view_at path roots views ≡ Some x
seen_at path roots views i x e l is = view_there path roots views ∙ ap (λ o. by_place o views) (sym e) ∙ found_there views i x l is

pub unseen_past : (path : Path) (roots : Roots) (views : List RootView) (i : ℕ) → Some i ≡ place_of path roots → length views ≤ i → root_view_at path roots views ≡ None
unseen_past path roots views i e l = view_there path roots views ∙ ap (λ o. by_place o views) (sym e) ∙ slice_get_past views i l

pub unseen : (path : Path) (roots : Roots) (views : List RootView) → None ≡ place_of path roots → root_view_at path roots views ≡ None
unseen path roots views e = view_there path roots views ∙ ap (λ o. by_place o views) (sym e)

pub set_at_place : (path : Path) (roots : Roots) (views : List RootView) (i : ℕ) (new : RootView) → Some i ≡ place_of path roots → slice_set views i new ≡ with_view path new roots views
set_at_place path roots views i new e = ap (λ o. set_place o new views) e ∙ sym (with_there path new roots views)

-- ---- the first views

pub first_by_values : (incarnation : ℕ) (roots : Roots) → map (λ root. new_view incarnation root.1.number) roots ≡ map (λ root. new_view incarnation root.number) (values_of roots)
first_by_values incarnation [] = refl
first_by_values incarnation (root ∷ roots) = ap (λ (views : List RootView). new_view incarnation root.1.number ∷ views) (first_by_values incarnation roots)
