-- A map after an observation or a recrawl, path by path.
use Rattle.std.proofs.Common.{◌≡◌, Bool, true, false, cond, not, ◌&&◌, T, [], ◌∷◌, fold, Option, Some, None, refl, sym, ap, subst, ◌∙◌, Less, Equal, Greater, true≢false}
use Rattle.std.specs.Option.{option_or}
use Rattle.std.specs.Ordering.{is_eq, is_lt}
use Rattle.std.specs.Cmp.Lexicographic.{nat_list_cmp_total}
use Rattle.std.specs.FinMap.{put, is_sorted}
use Rattle.std.specs.FinMap.Entries.{below_all, is_sorted-where_key, find-put, find-where_key}
use Rattle.wm_names.specs.Paths.{Path, path_cmp, same_path}
use Rattle.wm_names.specs.declared.entry.Meta.{Meta}
use Rattle.wm_view.specs.Files.{Files, IsMap, at, only, set_at}
use Rattle.wm_view.specs.Histories.{newest, may_say}
use Rattle.wm_view.specs.HistoryLaws.{LastPairCounts, RecrawlSpeaks, last_told}
use Rattle.std.specs.declared.cmp.Ordering.{Ordering}
use Rattle.wm_view.specs.laws.PathSets.{same→≡, tied→≡}

turn : (p q : Path) → p ≡ q → same_path p q ≡ same_path q p
turn p q e = λ i. same_path (e i) (sym e i)

pub same_swap : (p q : Path) → same_path p q ≡ same_path q p
same_swap p q =
    elim (same_path p q) as (λ b. same_path p q ≡ b → b ≡ same_path q p) [
      | true ↦ λ e. sym e ∙ turn p q (same→≡ p q e)
      | false ↦ λ e. elim (same_path q p) as (λ b. same_path q p ≡ b → false ≡ b) [
        | true ↦ λ f. absurd (true≢false (sym f ∙ turn q p (same→≡ q p f) ∙ e))
        | false ↦ λ _. refl
      ] refl
    ] refl

set_there : (files : Files) (q : Path) (o : Option Meta) (p : Path) → at (set_at files q o) p ≡ cond (same_path p q) o (at files p)
set_there files q (Some m) p = find-put path_cmp nat_list_cmp_total p q m files
set_there files q None p =
    find-where_key path_cmp (λ r. not (same_path q r)) p (λ x e. ap (λ r. not (same_path q r)) (sym (same→≡ p x (ap is_eq e)))) files
    ∙ ap (λ b. cond (not b) (at files p) None) (same_swap q p)
    ∙ turned (same_path p q)
  where
    turned : (b : Bool) → cond (not b) (at files p) None ≡ cond b None (at files p)
    turned true = refl
    turned false = refl

pub last_pair_counts : LastPairCounts
last_pair_counts files [] p = refl
last_pair_counts files (e ∷ es) p = last_pair_counts (set_at files e.0 e.1) es p ∙ ap (last_told es p) (set_there files e.0 e.1 p)

less_is_other : (o : Ordering) → T (is_lt o) → is_eq o ≡ false
less_is_other Less t = refl
less_is_other Equal t = absurd t
less_is_other Greater t = absurd t

t-first : (a b : Bool) → T (a && b) → T a
t-first true b t = tt
t-first false b t = t

t-second : (a b : Bool) → T (a && b) → T b
t-second true b t = t
t-second false b t = absurd t

above : (p k : Path) (es : Files) → same_path p k ≡ true → T (below_all path_cmp k es) → at es p ≡ None
above p k [] s b = refl
above p k (e ∷ es) s b =
    let less : T (is_lt (path_cmp p e.0)) = subst (λ q. T (is_lt (path_cmp q e.0))) (sym (same→≡ p k s)) (t-first (is_lt (path_cmp k e.0)) (below_all path_cmp k es) b) in
    ap (λ c. cond c (Some e.1) (at es p)) (less_is_other (path_cmp p e.0) less) ∙ above p k es s (t-second (is_lt (path_cmp k e.0)) (below_all path_cmp k es) b)

put_all : (files es : Files) (p : Path) → IsMap es → at (fold (λ m e. put path_cmp e.0 e.1 m) files es) p ≡ option_or (at es p) (at files p)
put_all files [] p s = refl
put_all files (e ∷ es) p s =
    put_all (put path_cmp e.0 e.1 files) es p (t-second (below_all path_cmp e.0 es) (is_sorted path_cmp es) s)
    ∙ ap (option_or (at es p)) (find-put path_cmp nat_list_cmp_total p e.0 e.1 files)
    ∙ elim (same_path p e.0) as (λ b. same_path p e.0 ≡ b → option_or (at es p) (cond b (Some e.1) (at files p)) ≡ option_or (cond b (Some e.1) (at es p)) (at files p)) [
      | true ↦ λ same. ap (λ o. option_or o (Some e.1)) (above p e.0 es same (t-first (below_all path_cmp e.0 es) (is_sorted path_cmp es) s))
      | false ↦ λ _. refl
    ] refl

-- a map that gets what a listing has where the test holds, and nothing else there, has so at each path
module _ (say : Path → Bool) (files listing : Files) where
  with_none : (o : Option Meta) → option_or o None ≡ o
  with_none None = refl
  with_none (Some m) = refl

  chosen : (b : Bool) (l o : Option Meta) → option_or (cond b l None) (cond (not b) o None) ≡ cond b l o
  chosen true l o = with_none l
  chosen false l o = refl

  pub spoken : (p : Path) → IsMap listing → at (fold (λ m e. put path_cmp e.0 e.1 m) (only (λ q. not (say q)) files) (only say listing)) p ≡ cond (say p) (at listing p) (at files p)
  spoken p s =
      put_all (only (λ q. not (say q)) files) (only say listing) p (is_sorted-where_key path_cmp say listing s)
      ∙ (λ i. option_or
      (find-where_key path_cmp say p (λ x e. ap say (sym (tied→≡ p x e))) listing i)
      (find-where_key path_cmp (λ q. not (say q)) p (λ x e. ap (λ q. not (say q)) (sym (tied→≡ p x e))) files i))
      ∙ chosen (say p) (at listing p) (at files p)

pub recrawl_speaks : RecrawlSpeaks
recrawl_speaks h begun_at subtree listing p s = spoken (may_say h begun_at subtree) (newest h.ticks) listing p s
