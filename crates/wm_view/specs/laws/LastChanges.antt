-- What the last change of a path says of the maps behind it.
use Rattle.std.proofs.Common.{◌≡◌, ℕ, suc, ◌<◌, ◌≤◌, Bool, true, false, cond, not, ◌||◌, [], ◌∷◌, length, Option, Some, None, is_some, nat_le, refl, sym, ap, ◌∙◌, arith, true≢false, leb-false}
use Rattle.wm_names.specs.declared.entry.Meta.{Meta}
use Rattle.wm_names.specs.Paths.{Path}
use Rattle.wm_view.specs.Files.{at, is_in}
use Rattle.wm_names.specs.Entries.{same_state}
use Rattle.wm_view.specs.Histories.{Ticks, newest, up_to, differs, latest, ever}
use Rattle.wm_view.specs.laws.PathSets.{add_in}

or_true : (a : Bool) → (a || true) ≡ true
or_true true = refl
or_true false = refl

pub ever_newest : (r : Path) (ts : Ticks) → is_some (at (newest ts) r) ≡ true → is_in r (ever ts) ≡ true
ever_newest r [] h = absurd (true≢false (sym h))
ever_newest r (t ∷ ts) h = add_in r t.files (ever ts) ∙ ap (λ b. b || is_in r (ever ts)) h

one_is_there : (a b : Option Meta) → not (same_state a b) ≡ true → is_some a ≡ false → is_some b ≡ true
one_is_there None None h e = h
one_is_there None (Some y) h e = refl
one_is_there (Some x) b h e = absurd (true≢false e)

alike : (a b : Option Meta) → not (same_state a b) ≡ false → is_some a ≡ is_some b
alike None None h = refl
alike None (Some y) h = absurd (true≢false h)
alike (Some x) None h = absurd (true≢false h)
alike (Some x) (Some y) h = refl

abbrev pub last_differing : Ticks → Path → ℕ
last_differing ts r = latest (λ us. differs us r) ts

-- what changed at some tick was there at some tick
pub was_there : (r : Path) (ts : Ticks) → 0 < last_differing ts r → is_in r (ever ts) ≡ true
was_there r [] h = absurd (omega arith)
was_there r (t ∷ ts) h =
    elim (differs (t ∷ ts) r) as (λ b. differs (t ∷ ts) r ≡ b → 0 < cond b (suc (length ts)) (last_differing ts r) → is_in r (ever (t ∷ ts)) ≡ true) [
      | true ↦ λ e _. elim (is_some (at t.files r)) as (λ c. is_some (at t.files r) ≡ c → is_in r (ever (t ∷ ts)) ≡ true) [
        | true ↦ λ c. add_in r t.files (ever ts) ∙ ap (λ b. b || is_in r (ever ts)) c
        | false ↦ λ c. add_in r t.files (ever ts) ∙ ap (λ b. is_some (at t.files r) || b) (ever_newest r ts (one_is_there (at t.files r) (at (newest ts) r) e c)) ∙ or_true (is_some (at t.files r))
      ] refl
      | false ↦ λ e l. add_in r t.files (ever ts) ∙ ap (λ b. is_some (at t.files r) || b) (was_there r ts l) ∙ or_true (is_some (at t.files r))
    ] refl h

pub changes_bound : (r : Path) (ts : Ticks) → last_differing ts r ≤ length ts
changes_bound r [] = omega arith
changes_bound r (t ∷ ts) =
    elim (differs (t ∷ ts) r) as (λ b. cond b (suc (length ts)) (last_differing ts r) ≤ length (t ∷ ts)) [
      | true ↦ omega arith
      | false ↦ let ih : last_differing ts r ≤ length ts = changes_bound r ts in omega arith
    ]

-- what is there has changed
pub there_changed : (r : Path) (ts : Ticks) → is_some (at (newest ts) r) ≡ true → 0 < last_differing ts r
there_changed r [] h = absurd (true≢false (sym h))
there_changed r (t ∷ ts) h =
    elim (differs (t ∷ ts) r) as (λ b. differs (t ∷ ts) r ≡ b → 0 < cond b (suc (length ts)) (last_differing ts r)) [
      | true ↦ λ e. omega arith
      | false ↦ λ e. there_changed r ts (sym (alike (at t.files r) (at (newest ts) r) e) ∙ h)
    ] refl

-- what did not change after tick t is there tick_of exactly where it was there then
pub unchanged_since : (r : Path) (ts : Ticks) (t : ℕ) → last_differing ts r ≤ t → is_some (at (newest (up_to t ts)) r) ≡ is_some (at (newest ts) r)
unchanged_since r [] t h = refl
unchanged_since r (k ∷ ts) t h =
    elim (nat_le (suc (length ts)) t) as (λ c. nat_le (suc (length ts)) t ≡ c → is_some (at (newest (cond c (k ∷ ts) (up_to t ts))) r) ≡ is_some (at k.files r)) [
      | true ↦ λ _. refl
      | false ↦ λ early. elim (differs (k ∷ ts) r) as (λ b. differs (k ∷ ts) r ≡ b → cond b (suc (length ts)) (last_differing ts r) ≤ t → is_some (at (newest (up_to t ts)) r) ≡ is_some (at k.files r)) [
        | true ↦ λ e l. let late : t < suc (length ts) = leb-false (suc (length ts)) t early in absurd (omega arith)
        | false ↦ λ e l. unchanged_since r ts t l ∙ sym (alike (at k.files r) (at (newest ts) r) e)
      ] refl h
    ] refl
