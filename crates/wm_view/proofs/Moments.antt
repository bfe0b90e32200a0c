-- The moments of changes, and where a search from a moment on may end.
use Rattle.std.proofs.Common.{◌≡◌, ℕ, ◌+◌, ◌-◌, ◌<◌, ◌≤◌, max, ◌⊎◌, inl, inr, Bool, true, false, cond, T, List, [], ◌∷◌, Option, Some, None, filter, is_some, refl, sym, ap, subst, ◌∙◌, arith, true≢false}
use Rattle.std.proofs.lemmas.Bool.{lt-leb}
use Rattle.std.specs.List.{AllByRecursion}
use Rattle.std.specs.Ordering.{is_eq, nat_cmp}
use Rattle.std.specs.Option.{option_or}
use Rattle.std.specs.FinMap.{find, is_sorted}
use Rattle.wm_disk.specs.Counters.{max_counter}
use Rattle.wm_names.specs.Paths.{Path, path_cmp}
use Rattle.wm_view.specs.declared.known.Known.{Known}
use Rattle.wm_view.specs.Summaries.{Knowns}
use Rattle.wm_view.specs.KnownPaths.{Place, AreAt, AreMadeAt, IsSearchBound, FallsBy, IsUpTo, IsUpToMoment, add_known, after_changes, is_from, known_at, known_there}
use Rattle.wm_view.proofs.Ageing.{found_passing}
use Rattle.wm_view.proofs.ByLast.{own_place}
use Rattle.wm_view.proofs.Plans.{at_points, find_after, of_points}

-- ---- a tick more

either : (ks es : Knowns) (p : Path) (x : Known) → T (is_sorted path_cmp es) → find path_cmp p (after_changes ks es) ≡ Some x → (find path_cmp p es ≡ Some x) ⊎ (find path_cmp p ks ≡ Some x)
either ks es p x s f =
    elim (find path_cmp p es) as (λ o. find path_cmp p es ≡ o → option_or o (find path_cmp p ks) ≡ Some x → (find path_cmp p es ≡ Some x) ⊎ (find path_cmp p ks ≡ Some x)) [
      | None ↦ λ _ g. inr g
      | Some y ↦ λ e g. inl (e ∙ g)
    ] refl (sym (find_after ks es p s) ∙ f)

new_latest : (m l x : ℕ) → x ≡ m → x ≤ max l m
new_latest m l x e = omega arith

old_latest : (m l x : ℕ) → x ≤ l → x ≤ max l m
old_latest m l x h = omega arith

pub latest_after : (m l : ℕ) (ks es : Knowns) → T (is_sorted path_cmp es) → AreMadeAt m es → IsUpToMoment l ks → IsUpToMoment (max l m) (after_changes ks es)
latest_after m l ks es s of up p x f = elim (either ks es p x s f) [ inl new ↦ new_latest m l x.moment (of_points m es of p x new) | inr old ↦ old_latest m l x.moment (up p x old) ]

same_moments : (m f x y : ℕ) → x ≡ m → y ≡ m → x ≤ y + f
same_moments m f x y e g = omega arith

never_before : (n x y : ℕ) → x ≡ n + 1 → y ≤ n → x ≤ y → ⊥
never_before n x y e u l = omega arith

new_moment : (m l f x y : ℕ) → x ≤ l → y ≡ m → x ≤ y + max f (l - m)
new_moment m l f x y u e = omega arith

still : (m l f x y : ℕ) → x ≤ y + f → x ≤ y + max f (l - m)
still m l f x y h = omega arith

pub falls_after : (n m l f : ℕ) (ks es : Knowns) → T (is_sorted path_cmp es) → IsUpTo n ks → AreAt (n + 1) es → AreMadeAt m es → IsUpToMoment l ks → FallsBy f ks → FallsBy (max f (l - m)) (after_changes ks es)
falls_after n m l f ks es s up at of latest falls p q x y a b before =
    elim (either ks es p x s a) [
      | inl new ↦ elim (either ks es q y s b) [
        | inl other ↦ same_moments m (max f (l - m)) x.moment y.moment (of_points m es of p x new) (of_points m es of q y other)
        | inr other ↦ absurd (never_before n x.last y.last (at_points (n + 1) es at p x new) (up q y other) before)
      ]
      | inr old ↦ elim (either ks es q y s b) [
        | inl other ↦ new_moment m l f x.moment y.moment (latest p x old) (of_points m es of q y other)
        | inr other ↦ still m l f x.moment y.moment (falls p q x y old other before)
      ]
    ]

-- ---- fewer paths

pub latest_passing : (n : ℕ) (test : Known → Bool) (ks : Knowns) → T (is_sorted path_cmp ks) → IsUpToMoment n ks → IsUpToMoment n (filter (λ e. test e.1) ks)
latest_passing n test ks s up p x e = up p x (found_passing test ks p x s e)

pub falls_passing : (f : ℕ) (test : Known → Bool) (ks : Knowns) → T (is_sorted path_cmp ks) → FallsBy f ks → FallsBy f (filter (λ e. test e.1) ks)
falls_passing f test ks s falls p q x y a b = falls p q x y (found_passing test ks p x s a) (found_passing test ks q y s b)

-- ---- where a search may end

not_late : (f moment x y : ℕ) → x ≤ y + f → y < moment - f → x < moment
not_late f moment x y h early = omega arith

pub search_bound : (f moment : ℕ) (ks : Knowns) → FallsBy f ks → IsSearchBound (moment - f) moment ks
search_bound f moment ks falls p q x y a b before early = not_late f moment x.moment y.moment (falls p q x y a b before) early

pub there_is : (o : Option Known) (b : ℕ) (x : Known) → Some x ≡ known_there o b → (o ≡ Some x) × (b ≡ max_counter - x.last)
there_is None b x e = absurd (true≢false (ap is_some e))
there_is (Some y) b x e =
    elim (is_eq (nat_cmp b (max_counter - y.last))) as (λ c. is_eq (nat_cmp b (max_counter - y.last)) ≡ c → Some x ≡ cond c (Some y) None → (Some y ≡ Some x) × (b ≡ max_counter - x.last)) [
      | true ↦ λ t f. (sym f, subst (λ o. IsAt o) (sym f) (own_place (b, []) y t))
      | false ↦ λ _ f. absurd (true≢false (ap is_some f))
    ] refl e
  where
    IsAt : Option Known → Type 0
    IsAt None = ⊥
    IsAt (Some z) = b ≡ max_counter - z.last

later_place : (b o x y : ℕ) → b ≡ max_counter - y → o ≡ max_counter - x → x ≤ max_counter → y ≤ max_counter → b ≤ o → x ≤ y
later_place b o x y e f h k l = omega arith

-- behind a change before the moment none is listed
module _ (ks : Knowns) (moment : ℕ) (q : Path) (y : Known) (b : ℕ) (there : find path_cmp q ks ≡ Some y) (at : b ≡ max_counter - y.last) (low : (p : Path) (x : Known) → find path_cmp p ks ≡ Some x → x.last ≤ max_counter) (bound : ℕ) (ends : IsSearchBound bound moment ks) (early : y.moment < bound) where
  pub none_behind : (os : List Place) → AllByRecursion (λ (o : Place). b ≤ o.0) os → filter (is_from moment) (known_at ks os) ≡ []
  none_behind [] h = refl
  none_behind (o ∷ os) h =
      let rest : filter (is_from moment) (known_at ks os) ≡ [] = none_behind os h.1 in
      elim (find path_cmp o.1 ks) as (λ f. find path_cmp o.1 ks ≡ f → filter (is_from moment) (add_known o.1 (known_there f o.0) (known_at ks os)) ≡ []) [
        | None ↦ λ _. rest
        | Some x ↦ λ e. elim (is_eq (nat_cmp o.0 (max_counter - x.last))) as (λ c. is_eq (nat_cmp o.0 (max_counter - x.last)) ≡ c → filter (is_from moment) (add_known o.1 (cond c (Some x) None) (known_at ks os)) ≡ []) [
          | true ↦ λ t.
              let before : x.last ≤ y.last = later_place b o.0 x.last y.last at (own_place o x t) (low o.1 x e) (low q y there) h.0 in
              ap (λ c. cond c ((o.1, x) ∷ filter (is_from moment) (known_at ks os)) (filter (is_from moment) (known_at ks os))) (lt-leb moment x.moment (ends o.1 q x y e there before early)) ∙ rest
          | false ↦ λ _. rest
        ] refl
      ] refl
