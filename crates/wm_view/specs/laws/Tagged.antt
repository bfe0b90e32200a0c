-- Paths with something at each: as a sorted map, a part of it, and what is found there.
use Rattle.std.proofs.Common.{◌≡◌, Bool, true, false, cond, ◌||◌, T, List, [], ◌∷◌, map, filter, Some, None, refl, sym, ap, subst, Less, Equal, Greater}
use Rattle.std.specs.Ordering.{match_ordering}
use Rattle.std.specs.Cmp.Lexicographic.{nat_list_cmp_total}
use Rattle.std.specs.FinMap.{put, find, is_sorted}
use Rattle.std.specs.FinMap.Entries.{where_key, by_order, is_sorted-put}
use Rattle.wm_names.specs.Paths.{Path, same_path, path_cmp}
use Rattle.wm_view.specs.Files.{Paths, Files, is_in, with_path, add_paths}
use Rattle.wm_view.specs.Summaries.{tagged}
use Rattle.wm_view.specs.laws.PathSets.{same→≡, tied→≡}

pub tagged-with : {A : Type 0} (g : Path → A) (p : Path) (qs : Paths) → tagged g (with_path p qs) ≡ put path_cmp p (g p) (tagged g qs)
tagged-with g p [] = refl
tagged-with {A} g p (q ∷ qs) =
    elim (path_cmp p q) as (λ o. path_cmp p q ≡ o → tagged g (match_ordering o (p ∷ q ∷ qs) (q ∷ qs) (q ∷ with_path p qs)) ≡ by_order o ((p, g p) ∷ (q, g q) ∷ tagged g qs) ((q, g p) ∷ tagged g qs) ((q, g q) ∷ put path_cmp p (g p) (tagged g qs))) [
      | Less ↦ λ _. refl
      | Equal ↦ λ e. ap (λ (r : Path). (q, g r) ∷ tagged g qs) (sym (tied→≡ p q e))
      | Greater ↦ λ _. ap (λ (l : List (Path × A)). (q, g q) ∷ l) (tagged-with g p qs)
    ] refl

pub tagged-filter : {A : Type 0} (g : Path → A) (f : Path → Bool) (ps : Paths) → tagged g (filter f ps) ≡ where_key path_cmp f (tagged g ps)
tagged-filter g f [] = refl
tagged-filter {A} g f (q ∷ qs) =
    elim (f q) as (λ b. tagged g (cond b (q ∷ filter f qs) (filter f qs)) ≡ cond b ((q, g q) ∷ where_key path_cmp f (tagged g qs)) (where_key path_cmp f (tagged g qs))) [
      | true ↦ ap (λ (l : List (Path × A)). (q, g q) ∷ l) (tagged-filter g f qs)
      | false ↦ tagged-filter g f qs
    ]

pub added_sorted : {A : Type 0} (g : Path → A) (es : Files) (ps : Paths) → T (is_sorted path_cmp (tagged g ps)) → T (is_sorted path_cmp (tagged g (add_paths es ps)))
added_sorted g [] ps s = s
added_sorted g (e ∷ es) ps s =
    subst (λ l. T (is_sorted path_cmp l)) (sym (tagged-with g e.0 (add_paths es ps)))
    (is_sorted-put path_cmp nat_list_cmp_total e.0 (g e.0) (tagged g (add_paths es ps)) (added_sorted g es ps s))

pub find_tagged : {A : Type 0} (g : Path → A) (q : Path) (ps : Paths) → find path_cmp q (tagged g ps) ≡ cond (is_in q ps) (Some (g q)) None
find_tagged g q [] = refl
find_tagged g q (p ∷ ps) =
    elim (same_path q p) as (λ b. same_path q p ≡ b → cond b (Some (g p)) (find path_cmp q (tagged g ps)) ≡ cond (b || is_in q ps) (Some (g q)) None) [
      | true ↦ λ e. ap (λ r. Some (g r)) (sym (same→≡ q p e))
      | false ↦ λ _. find_tagged g q ps
    ] refl

pub tagged_where : {A : Type 0} (g : Path → A) (test : Path × A → Bool) (ps : Paths) → filter test (tagged g ps) ≡ tagged g (filter (λ p. test (p, g p)) ps)
tagged_where g test [] = refl
tagged_where {A} g test (p ∷ ps) =
    elim (test (p, g p)) as (λ b. cond b ((p, g p) ∷ filter test (tagged g ps)) (filter test (tagged g ps)) ≡ tagged g (cond b (p ∷ filter (λ p. test (p, g p)) ps) (filter (λ p. test (p, g p)) ps))) [
      | true ↦ ap (λ (m : List (Path × A)). (p, g p) ∷ m) (tagged_where g test ps)
      | false ↦ tagged_where g test ps
    ]

pub map-tagged : {A B : Type 0} (g : Path → A) (f : Path × A → B) (ps : Paths) → map f (tagged g ps) ≡ map (λ p. f (p, g p)) ps
map-tagged g f [] = refl
map-tagged {A} {B} g f (p ∷ ps) = ap (λ (m : List B). f (p, g p) ∷ m) (map-tagged g f ps)
