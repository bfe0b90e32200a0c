-- What becomes of each path by a listing.
use Rattle.std.specs.List.{list_all}
use Rattle.std.proofs.Common.{◌≡◌, ℕ, zero, suc, Bool, subst, true, false, cond, not, ◌&&◌, T, List, [], ◌∷◌, drop, filter, Option, Some, None, Result, Ok, Err, OnOk, is_some, unwrap_or, option_and_then, nat_lt, nat_le, refl, sym, ap, ◌∙◌, true≢false}
use Rattle.std.specs.Option.{option_or}
use Rattle.std.specs.FinMap.{find, is_sorted}
use Rattle.std.specs.FinMap.Entries.{below_all, find-where_key, is_sorted-where_key}
use Rattle.wm_names.specs.Entries.{covers, same_state}
use Rattle.wm_names.specs.Paths.{Path, path_cmp, same_path}
use Rattle.wm_names.specs.declared.entry.Meta.{Meta}
use Rattle.wm_view.specs.Changes.{IsPlan, change_of, told_change, said, listed_change, gone_change}
use Rattle.wm_view.specs.Files.{Files, IsMap, at, only}
use Rattle.wm_view.specs.KnownPaths.{is_told}
use Rattle.wm_view.specs.Listings.{Found, IsCovered}
use Rattle.wm_view.specs.Steps.{known_or, present, recrawled_in, may_say_in}
use Rattle.wm_view.specs.Summaries.{Knowns, known_meta, Summary, unknown, next_known}
use Rattle.wm_view.specs.declared.known.Known.{Known}
use Rattle.wm_view.proofs.Ageing.{if_passes, find_passing}
use Rattle.wm_view.proofs.Kept.{put_all_sorted}
use Rattle.wm_view.proofs.Maps.{spoken}
use Rattle.wm_view.proofs.Orders.{second}
use Rattle.wm_names.specs.declared.subtree.Subtree.{Subtree}
use Rattle.wm_view.specs.laws.PathSets.{same→≡, tied→≡}
use Rattle.wm_disk.specs.laws.Tests.{both_first, both_second}
use Rattle.wm_view.proofs.Plans.{present_sorted, told_plan}

pub drop_sorted : {V : Type 0} (xs : List (Path × V)) (i : ℕ) → T (is_sorted path_cmp xs) → T (is_sorted path_cmp (drop i xs))
drop_sorted xs zero s = s
drop_sorted [] (suc i) s = s
drop_sorted (x ∷ xs) (suc i) s = drop_sorted xs i (second (below_all path_cmp x.0 xs) (is_sorted path_cmp xs) s)

-- ---- one path

and_no : (a b c : Bool) → (a && (b && (c && false))) ≡ false
and_no true true true = refl
and_no true true false = refl
and_no true false c = refl
and_no false b c = refl

with_none : {A : Type 0} (o : Option A) → option_or o None ≡ o
with_none None = refl
with_none (Some x) = refl

-- what doesn't exist stays so
gone_stays : (k : Known) (t m : ℕ) → k.exists ≡ false → change_of k t m None ≡ None
gone_stays k t m e = ap (λ b. cond (same_state None (cond b (Some (known_meta k)) None)) None (Some (next_known k t m None))) e

module _ (b t m : ℕ) where
  -- by what is known of the path, by what is listed of it, and by whether it is covered
  abbrev Agrees : Option Known → Option Meta → Bool → Type 0
  Agrees f l c =
      option_or (option_and_then (λ k. cond (nat_lt 0 k.last && (k.exists && (nat_le k.last b && (c && not (is_some l))))) (change_of k t m None) None) f) (option_and_then (listed_change (unwrap_or f unknown) b t m) l)
      ≡ told_change (unwrap_or f unknown) t m (cond (c && nat_le (unwrap_or f unknown).last b) (Some l) None)

  listed : (f : Option Known) (meta : Meta) → Agrees f (Some meta) true
  listed f meta =
      ap (λ o. option_or o (option_and_then (listed_change (unwrap_or f unknown) b t m) (Some meta))) (none_gone f)
      ∙ elim (nat_le (unwrap_or f unknown).last b) as (λ d. cond d (change_of (unwrap_or f unknown) t m (Some meta)) None ≡ told_change (unwrap_or f unknown) t m (cond d (Some (Some meta)) None)) [ true ↦ refl | false ↦ refl ]
    where
      none_gone : (f : Option Known) → option_and_then (λ k. cond (nat_lt 0 k.last && (k.exists && (nat_le k.last b && false))) (change_of k t m None) None) f ≡ None
      none_gone None = refl
      none_gone (Some k) = ap (λ d. cond d (change_of k t m None) None) (and_no (nat_lt 0 k.last) k.exists (nat_le k.last b))

  unlisted : (f : Option Known) (c : Bool) → ((k : Known) → f ≡ Some k → nat_lt 0 k.last ≡ true) → Agrees f None c
  unlisted None c low = elim (c && nat_le 0 b) as (λ d. None ≡ told_change unknown t m (cond d (Some None) None)) [ true ↦ refl | false ↦ refl ]
  unlisted (Some k) c low =
      with_none (cond (nat_lt 0 k.last && (k.exists && (nat_le k.last b && (c && true)))) (change_of k t m None) None)
      ∙ ap (λ d. cond (d && (k.exists && (nat_le k.last b && (c && true)))) (change_of k t m None) None) (low k refl)
      ∙ elim (k.exists) as (λ d. k.exists ≡ d → cond (d && (nat_le k.last b && (c && true))) (change_of k t m None) None ≡ told_change k t m (cond (c && nat_le k.last b) (Some None) None)) [
        | true ↦ λ _. both (nat_le k.last b) c (change_of k t m None) refl
        | false ↦ λ e. elim (c && nat_le k.last b) as (λ d. None ≡ told_change k t m (cond d (Some None) None)) [ true ↦ sym (gone_stays k t m e) | false ↦ refl ]
      ] refl
    where
      both : (x y : Bool) (g : Option Known) → change_of k t m None ≡ g → cond (x && (y && true)) g None ≡ option_and_then (change_of k t m) (cond (y && x) (Some None) None)
      both true true g e = sym e
      both true false g e = refl
      both false true g e = refl
      both false false g e = refl

-- ---- each path

covered_at : (subtree : Subtree) (files : Files) (p : Path) (meta : Meta) → list_all (λ e. covers subtree e.0) files ≡ true → at files p ≡ Some meta → covers subtree p ≡ true
covered_at subtree [] p meta all e = absurd (true≢false (sym (ap is_some e)))
covered_at subtree (x ∷ xs) p meta all e =
    elim (same_path p x.0) as (λ b. same_path p x.0 ≡ b → cond b (Some x.1) (at xs p) ≡ Some meta → covers subtree p ≡ true) [
      | true ↦ λ same _. ap (covers subtree) (same→≡ p x.0 same) ∙ both_first (covers subtree x.0) (list_all (λ e. covers subtree e.0) xs) all
      | false ↦ λ _ f. covered_at subtree xs p meta (both_second (covers subtree x.0) (list_all (λ e. covers subtree e.0) xs) all) f
    ] refl e

pub recrawl_change : (ks : Knowns) (b t m : ℕ) (found : Found) (p : Path) → ((k : Known) → find path_cmp p ks ≡ Some k → nat_lt 0 k.last ≡ true) → IsCovered found
    → option_or (option_and_then (gone_change b found t m p) (find path_cmp p ks)) (option_and_then (listed_change (known_or ks p) b t m) (at found.files p)) ≡ told_change (known_or ks p) t m (said ks b found p)
recrawl_change ks b t m found p low covered =
    elim (at found.files p) as (λ l. at found.files p ≡ l → Agrees b t m (find path_cmp p ks) l (covers found.subtree p)) [
      | Some meta ↦ λ e. subst (Agrees b t m (find path_cmp p ks) (Some meta)) (sym (covered_at found.subtree found.files p meta covered e)) (listed b t m (find path_cmp p ks) meta)
      | None ↦ λ _. unlisted b t m (find path_cmp p ks) (covers found.subtree p) low
    ] refl

-- a path that only has room is not gone
gone_told : (b t m : ℕ) (found : Found) (p : Path) (es : Knowns) → T (is_sorted path_cmp es)
    → option_and_then (gone_change b found t m p) (find path_cmp p es) ≡ option_and_then (gone_change b found t m p) (find path_cmp p (filter is_told es))
gone_told b t m found p es s =
    elim (find path_cmp p es) as (λ f. option_and_then (gone_change b found t m p) f ≡ option_and_then (gone_change b found t m p) (if_passes (λ k. nat_lt 0 k.last) f)) [
      | None ↦ refl
      | Some k ↦ elim (nat_lt 0 k.last) as (λ d. nat_lt 0 k.last ≡ d → gone_change b found t m p k ≡ option_and_then (gone_change b found t m p) (cond d (Some k) None)) [
        | true ↦ λ _. refl
        | false ↦ λ e. ap (λ d. cond (d && (k.exists && (nat_le k.last b && (covers found.subtree p && not (is_some (at found.files p)))))) (change_of k t m None) None) e
      ] refl
    ]
    ∙ ap (option_and_then (gone_change b found t m p)) (sym (find_passing (λ k. nat_lt 0 k.last) p es s))

-- nor is one outside the part that was read
outside : (b t m : ℕ) (found : Found) (p : Path) → covers found.subtree p ≡ false → (o : Option Known) → option_and_then (gone_change b found t m p) o ≡ None
outside b t m found p e None = refl
outside b t m found p e (Some k) =
    ap (λ c. cond (nat_lt 0 k.last && (k.exists && (nat_le k.last b && (c && not (is_some (at found.files p)))))) (change_of k t m None) None) e
    ∙ ap (λ d. cond d (change_of k t m None) None) (and_no (nat_lt 0 k.last) k.exists (nat_le k.last b))

-- so it is enough to look at paths among which are all of that part
pub gone_among : (b t m : ℕ) (found : Found) (p : Path) (es : Knowns) (test : Path → Bool) → T (is_sorted path_cmp es) → (covers found.subtree p ≡ true → test p ≡ true)
    → option_and_then (gone_change b found t m p) (find path_cmp p (filter (λ e. test e.0) es)) ≡ option_and_then (gone_change b found t m p) (find path_cmp p (filter is_told es))
gone_among b t m found p es test s among =
    let change = gone_change b found t m p in
    ap (option_and_then change) (find-where_key path_cmp test p (λ x e. ap test (sym (tied→≡ p x e))) es)
    ∙ elim (covers found.subtree p) as (λ c. covers found.subtree p ≡ c → (c ≡ true → test p ≡ true) → option_and_then change (cond (test p) (find path_cmp p es) None) ≡ option_and_then change (find path_cmp p es)) [
      | true ↦ λ _ h. ap (λ d. option_and_then change (cond d (find path_cmp p es) None)) (h refl)
      | false ↦ λ e _. outside b t m found p e (cond (test p) (find path_cmp p es) None) ∙ sym (outside b t m found p e (find path_cmp p es))
    ] refl among
    ∙ gone_told b t m found p es s

pub on_ok : {A E P Q : Type 0} → (r : Result A E) → (P → Q) → OnOk r P → OnOk r Q
on_ok (Ok x) f h = f h
on_ok (Err e) f h = h

-- ---- the map that a listing makes

pub recrawled_at : (s : Summary) (b : ℕ) (found : Found) (p : Path) → IsMap found.files → at (recrawled_in s b found.subtree found.files) p ≡ unwrap_or (said s.known b found p) (at (present s.known) p)
recrawled_at s b found p map =
    spoken (may_say_in s b found.subtree) (present s.known) found.files p map
    ∙ elim (may_say_in s b found.subtree p) as (λ d. cond d (at found.files p) (at (present s.known) p) ≡ unwrap_or (cond d (Some (at found.files p)) None) (at (present s.known) p)) [ true ↦ refl | false ↦ refl ]

pub recrawled_sorted : (s : Summary) (b : ℕ) (found : Found) → T (is_sorted path_cmp s.known) → IsMap (recrawled_in s b found.subtree found.files)
recrawled_sorted s b found sorted =
    put_all_sorted (only (λ p. not (may_say_in s b found.subtree p)) (present s.known)) (only (may_say_in s b found.subtree) found.files)
    (is_sorted-where_key path_cmp (λ p. not (may_say_in s b found.subtree p)) (present s.known) (present_sorted s.known sorted))

pub recrawl_plan : (s : Summary) (b t m : ℕ) (found : Found) (plan : Knowns) → T (is_sorted path_cmp s.known) → IsMap found.files
    → ((p : Path) → find path_cmp p plan ≡ told_change (known_or s.known p) t m (said s.known b found p)) → IsPlan s.known t m (recrawled_in s b found.subtree found.files) plan
recrawl_plan s b t m found plan sorted map is = told_plan s.known t m (said s.known b found) plan is (recrawled_in s b found.subtree found.files) sorted (λ p. recrawled_at s b found p map)
