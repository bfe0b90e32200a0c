-- The prefix of a pattern of components, and runs of components at `**`.
use Rattle.std.proofs.Common.{◌≡◌, ℕ, suc, ◌+◌, ◌<◌, Bool, true, false, cond, List, [], ◌∷◌, length, refl, sym, ap, ◌∙◌, arith}
use Rattle.std.specs.Prelude.{not, ◌&&◌}
use Rattle.wm_expr.specs.Patterns.{is_empty, first_and_rest, behind_a_run, fits_component, fits_components, is_deep}
use Rattle.wm_expr.specs.Globs.{UntilStar, AtStar, AtEnd, Differs, deep_takes, until_deep}
use Rattle.wm_expr.proofs.Runs.{and_right, at_once, both_ways, run_and_one, run_of_runs, weaker}

abbrev Parts : Type 0
Parts = List (List ℕ)

-- what a `**` fits, with these behind it
abbrev behind_deep : Parts → Parts → Bool
behind_deep [] ts = not (is_empty ts)
behind_deep (q ∷ ps) ts = behind_a_run (fits_components (q ∷ ps)) ts

-- the first component, whatever follows it
first_component : (p : List ℕ) (ps ts : Parts) → fits_components (p ∷ ps) ts ≡ cond (is_deep p) (behind_deep ps ts) (first_and_rest (fits_component p) (fits_components ps) ts)
first_component p [] [] = refl
first_component p [] (t ∷ ts) = refl
first_component p (q ∷ ps) ts = refl

deep_end : (ps ts : Parts) → deep_takes ps ts ≡ AtEnd → behind_deep ps ts ≡ true
deep_end [] [] h = cc
deep_end [] (t ∷ ts) h = refl
deep_end (q ∷ ps) ts h = cc

deep_differs : (ps ts : Parts) → deep_takes ps ts ≡ Differs → behind_deep ps ts ≡ false
deep_differs [] [] h = refl
deep_differs [] (t ∷ ts) h = cc
deep_differs (q ∷ ps) ts h = cc

deep_star : (ps ts qs us : Parts) → deep_takes ps ts ≡ AtStar qs us → behind_deep ps ts ≡ behind_a_run (fits_components qs) us
deep_star [] [] qs us h = cc
deep_star [] (t ∷ ts) qs us h = cc
deep_star (q ∷ ps) ts qs us h =
    let same : q ∷ ps ≡ qs = cc in
    let left : ts ≡ us = cc in
    ap (λ (x : Parts). behind_a_run (fits_components x) ts) same ∙ ap (λ (x : Parts). behind_a_run (fits_components qs) x) left

-- ---- the three prefixes

pub parts_end : (ps ts : Parts) → until_deep ps ts ≡ AtEnd → fits_components ps ts ≡ true
parts_end [] [] h = refl
parts_end [] (t ∷ ts) h = cc
parts_end (p ∷ ps) [] h =
    first_component p ps [] ∙ (elim (is_deep p) as (λ v. cond v (deep_takes ps []) Differs ≡ AtEnd → cond v (behind_deep ps []) false ≡ true) [ true ↦ deep_end ps [] | false ↦ λ e. cc ] h)
parts_end (p ∷ ps) (t ∷ ts) h =
    first_component p ps (t ∷ ts)
    ∙ (elim (is_deep p) as (λ v. cond v (deep_takes ps (t ∷ ts)) (cond (fits_component p t) (until_deep ps ts) Differs) ≡ AtEnd → cond v (behind_deep ps (t ∷ ts)) (fits_component p t && fits_components ps ts) ≡ true)
    [ true ↦ deep_end ps (t ∷ ts) | false ↦ elim (fits_component p t) as (λ v. cond v (until_deep ps ts) Differs ≡ AtEnd → (v && fits_components ps ts) ≡ true) [ true ↦ parts_end ps ts | false ↦ λ e. cc ] ] h)

pub parts_differ : (ps ts : Parts) → until_deep ps ts ≡ Differs → fits_components ps ts ≡ false
parts_differ [] [] h = cc
parts_differ [] (t ∷ ts) h = refl
parts_differ (p ∷ ps) [] h =
    first_component p ps [] ∙ (elim (is_deep p) as (λ v. cond v (deep_takes ps []) Differs ≡ Differs → cond v (behind_deep ps []) false ≡ false) [ true ↦ deep_differs ps [] | false ↦ λ e. refl ] h)
parts_differ (p ∷ ps) (t ∷ ts) h =
    first_component p ps (t ∷ ts)
    ∙ (elim (is_deep p) as (λ v. cond v (deep_takes ps (t ∷ ts)) (cond (fits_component p t) (until_deep ps ts) Differs) ≡ Differs → cond v (behind_deep ps (t ∷ ts)) (fits_component p t && fits_components ps ts) ≡ false)
    [ true ↦ deep_differs ps (t ∷ ts) | false ↦ elim (fits_component p t) as (λ v. cond v (until_deep ps ts) Differs ≡ Differs → (v && fits_components ps ts) ≡ false) [ true ↦ parts_differ ps ts | false ↦ λ e. refl ] ] h)

pub parts_star : (ps ts qs us : Parts) → until_deep ps ts ≡ AtStar qs us → fits_components ps ts ≡ behind_a_run (fits_components qs) us
parts_star [] [] qs us h = cc
parts_star [] (t ∷ ts) qs us h = cc
parts_star (p ∷ ps) [] qs us h =
    first_component p ps []
    ∙ (elim (is_deep p) as (λ v. cond v (deep_takes ps []) Differs ≡ AtStar qs us → cond v (behind_deep ps []) false ≡ behind_a_run (fits_components qs) us) [ true ↦ deep_star ps [] qs us | false ↦ λ e. cc ] h)
parts_star (p ∷ ps) (t ∷ ts) qs us h =
    first_component p ps (t ∷ ts)
    ∙ (elim (is_deep p) as (λ v. cond v (deep_takes ps (t ∷ ts)) (cond (fits_component p t) (until_deep ps ts) Differs) ≡ AtStar qs us → cond v (behind_deep ps (t ∷ ts)) (fits_component p t && fits_components ps ts) ≡ behind_a_run (fits_components qs) us) [
      | true ↦ deep_star ps (t ∷ ts) qs us
      | false ↦ elim (fits_component p t) as (λ v. cond v (until_deep ps ts) Differs ≡ AtStar qs us → (v && fits_components ps ts) ≡ behind_a_run (fits_components qs) us) [ true ↦ parts_star ps ts qs us | false ↦ λ e. cc ]
    ] h)

-- ---- a later start is no better

plain_part : (p : List ℕ) (ps ts : Parts) → is_deep p ≡ false → fits_components (p ∷ ps) ts ≡ first_and_rest (fits_component p) (fits_components ps) ts
plain_part p ps ts plain = first_component p ps ts ∙ rw plain refl

takes_one : (p : List ℕ) (ps : Parts) → is_deep p ≡ false → (t : List ℕ) (ts : Parts) → fits_components (p ∷ ps) (t ∷ ts) ≡ true → fits_components ps ts ≡ true
takes_one p ps plain t ts h = and_right (fits_component p t) (fits_components ps ts) (sym (plain_part p ps (t ∷ ts) plain) ∙ h)

deep_part : (p : List ℕ) (ps ts : Parts) → is_deep p ≡ true → until_deep (p ∷ ps) ts ≡ deep_takes ps ts
deep_part p ps [] deep = rw deep refl
deep_part p ps (t ∷ ts) deep = rw deep refl

-- where the pattern begins with no `**`, its prefix is that of what follows
below : (p : List ℕ) (ps ts qs us : Parts) → is_deep p ≡ false → until_deep (p ∷ ps) ts ≡ AtStar qs us → (P : Parts → Type 0) → ((t : List ℕ) (ss : Parts) → until_deep ps ss ≡ AtStar qs us → P (t ∷ ss)) → P ts
below p ps [] qs us plain h P f = let apart : Differs ≡ AtStar qs us = rw plain at h in cc
below p ps (t ∷ ts) qs us plain h P f =
    let e : cond (fits_component p t) (until_deep ps ts) Differs ≡ AtStar qs us = rw plain at h in
    f t ts (goes_on (fits_component p t) (until_deep ps ts) qs us e)
  where
    goes_on : (v : Bool) (x : UntilStar (List ℕ)) (qs us : List (List ℕ)) → cond v x Differs ≡ AtStar qs us → x ≡ AtStar qs us
    goes_on true x qs us h = h
    goes_on false x qs us h = cc

-- at a `**` with a pattern behind it, two runs are one
at_a_run : (p : List ℕ) (ps ts qs us : Parts) → is_deep p ≡ true → deep_takes ps ts ≡ AtStar qs us → behind_a_run (fits_components (p ∷ ps)) ts ≡ true → behind_a_run (fits_components qs) us ≡ true
at_a_run p [] [] qs us deep h run = cc
at_a_run p [] (t ∷ ts) qs us deep h run = cc
at_a_run p (q ∷ ps) ts qs us deep h run =
    let same : q ∷ ps ≡ qs = cc in
    let left : ts ≡ us = cc in
    sym (ap (λ (x : Parts). behind_a_run (fits_components x) ts) same ∙ ap (λ (x : Parts). behind_a_run (fits_components qs) x) left)
    ∙ run_of_runs (fits_components (q ∷ ps)) ts
    (weaker (fits_components (p ∷ q ∷ ps)) (behind_a_run (fits_components (q ∷ ps))) (λ xs e. sym (first_component p (q ∷ ps) xs ∙ rw deep refl) ∙ e) ts run)

pub later_start : (ps ts qs us : Parts) → until_deep ps ts ≡ AtStar qs us → behind_a_run (fits_components ps) ts ≡ true → behind_a_run (fits_components qs) us ≡ true
later_start [] [] qs us h = cc
later_start [] (t ∷ ts) qs us h = cc
later_start (p ∷ ps) ts qs us h =
    elim (is_deep p) as (λ v. is_deep p ≡ v → behind_a_run (fits_components (p ∷ ps)) ts ≡ true → behind_a_run (fits_components qs) us ≡ true) [
      | true ↦ λ deep run. at_a_run p ps ts qs us deep (sym (deep_part p ps ts deep) ∙ h) run
      | false ↦ λ plain. below p ps ts qs us plain h (λ ss. behind_a_run (fits_components (p ∷ ps)) ss ≡ true → behind_a_run (fits_components qs) us ≡ true)
          (λ t ss e run. later_start ps ss qs us e (run_and_one (fits_components (p ∷ ps)) (fits_components ps) (plain_part p ps [] plain) (takes_one p ps plain) t ss run))
    ] refl

-- so the search goes on behind the `**` alone
pub deep_step : (ps ts qs us : Parts) → until_deep ps ts ≡ AtStar qs us → behind_a_run (fits_components qs) us ≡ behind_a_run (fits_components ps) ts
deep_step ps ts qs us h = both_ways _ _ (λ e. at_once (fits_components ps) ts (parts_star ps ts qs us h ∙ e)) (later_start ps ts qs us h)

-- ---- the work that is left

deep_shorter : (ps ts qs us : Parts) → deep_takes ps ts ≡ AtStar qs us → length qs + length us ≡ length ps + length ts
deep_shorter [] [] qs us h = cc
deep_shorter [] (t ∷ ts) qs us h = cc
deep_shorter (q ∷ ps) ts qs us h =
    let same : q ∷ ps ≡ qs = cc in
    let left : ts ≡ us = cc in
    let l : length (q ∷ ps) ≡ length qs = ap length same in
    let r : length ts ≡ length us = ap length left in
    omega arith

pub parts_shorter : (ps ts qs us : Parts) → until_deep ps ts ≡ AtStar qs us → length qs + length us < length ps + length ts
parts_shorter [] [] qs us h = cc
parts_shorter [] (t ∷ ts) qs us h = cc
parts_shorter (p ∷ ps) ts qs us h =
    elim (is_deep p) as (λ v. is_deep p ≡ v → length qs + length us < suc (length ps) + length ts) [
      | true ↦ λ deep. (let same = deep_shorter ps ts qs us (sym (deep_part p ps ts deep) ∙ h) in omega arith)
      | false ↦ λ plain. below p ps ts qs us plain h (λ ss. length qs + length us < suc (length ps) + length ss)
          (λ t ss e. (let less = parts_shorter ps ss qs us e in omega arith))
    ] refl
