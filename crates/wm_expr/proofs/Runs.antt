-- What a run of items leaves behind, and the prefix of a pattern of bytes.
use Rattle.std.proofs.Common.{◌≡◌, ℕ, suc, ◌+◌, ◌<◌, ◌≤◌, Bool, true, false, cond, List, [], ◌∷◌, length, drop, refl, sym, ap, ◌∙◌, true≢false, arith}
use Rattle.std.proofs.Math.Seq.{drop-cons}
use Rattle.std.proofs.lemmas.List.{drop_all}
use Rattle.std.proofs.lemmas.Bool.{eqb-true}
use Rattle.std.specs.Prelude.{◌&&◌, ◌||◌, ◌==◌}
use Rattle.wm_expr.specs.Patterns.{behind_a_run, fits_byte, fits_component}
use Rattle.wm_expr.specs.Globs.{UntilStar, AtStar, AtEnd, Differs, until_star}

-- ---- tests

pub both_ways : (a b : Bool) → (a ≡ true → b ≡ true) → (b ≡ true → a ≡ true) → a ≡ b
both_ways true b f g = sym (f refl)
both_ways false true f g = g refl
both_ways false false f g = refl

pub either : (a b : Bool) → (a || b) ≡ true → (c : Bool) → (a ≡ true → c ≡ true) → (b ≡ true → c ≡ true) → c ≡ true
either true b h c f g = f refl
either false b h c f g = g h

or_left : (a b : Bool) → a ≡ true → (a || b) ≡ true
or_left a b h = rw h refl

or_right : (a b : Bool) → b ≡ true → (a || b) ≡ true
or_right true b h = refl
or_right false b h = h

pub and_left : (a b : Bool) → (a && b) ≡ true → a ≡ true
and_left true b h = refl
and_left false b h = absurd (true≢false (sym h))

pub and_right : (a b : Bool) → (a && b) ≡ true → b ≡ true
and_right true b h = h
and_right false b h = absurd (true≢false (sym h))

-- ---- runs

module _ {X : Type 0} where
  -- the test need not hold at once where it holds behind a longer run
  pub later : (f : List X → Bool) (x : X) (xs : List X) → behind_a_run f xs ≡ true → behind_a_run f (x ∷ xs) ≡ true
  later f x xs h = or_right (f (x ∷ xs)) (behind_a_run f xs) h

  pub at_once : (f : List X → Bool) (xs : List X) → f xs ≡ true → behind_a_run f xs ≡ true
  at_once f [] h = or_left (f []) false h
  at_once f (x ∷ xs) h = or_left (f (x ∷ xs)) (behind_a_run f xs) h

  -- two runs are one
  pub run_of_runs : (f : List X → Bool) (xs : List X) → behind_a_run (behind_a_run f) xs ≡ true → behind_a_run f xs ≡ true
  run_of_runs f [] h = either (behind_a_run f []) false h (behind_a_run f []) (λ e. e) (λ e. absurd (true≢false (sym e)))
  run_of_runs f (x ∷ xs) h =
      either (behind_a_run f (x ∷ xs)) (behind_a_run (behind_a_run f) xs) h (behind_a_run f (x ∷ xs)) (λ e. e) (λ e. later f x xs (run_of_runs f xs e))

  pub weaker : (f g : List X → Bool) → ((xs : List X) → f xs ≡ true → g xs ≡ true) → (xs : List X) → behind_a_run f xs ≡ true → behind_a_run g xs ≡ true
  weaker f g le [] h = either (f []) false h (behind_a_run g []) (λ e. at_once g [] (le [] e)) (λ e. absurd (true≢false (sym e)))
  weaker f g le (x ∷ xs) h = either (f (x ∷ xs)) (behind_a_run f xs) h (behind_a_run g (x ∷ xs)) (λ e. at_once g (x ∷ xs) (le (x ∷ xs) e)) (λ e. later g x xs (weaker f g le xs e))

  -- a test that takes one item, and then holds of the rest
  pub run_and_one : (f g : List X → Bool) → (f [] ≡ false) → ((x : X) (xs : List X) → f (x ∷ xs) ≡ true → g xs ≡ true)
      → (x : X) (xs : List X) → behind_a_run f (x ∷ xs) ≡ true → behind_a_run g xs ≡ true
  run_and_one f g none one x [] h =
      either (f (x ∷ [])) (f [] || false) h (behind_a_run g []) (λ e. at_once g [] (one x [] e))
      (λ e. absurd (true≢false (sym e ∙ ap (λ (b : Bool). b || false) none)))
  run_and_one f g none one x (y ∷ ys) h =
      either (f (x ∷ y ∷ ys)) (behind_a_run f (y ∷ ys)) h (behind_a_run g (y ∷ ys)) (λ e. at_once g (y ∷ ys) (one x (y ∷ ys) e))
      (λ e. later g y ys (run_and_one f g none one y ys e))

  -- where the test fails at once, a longer run is needed
  pub not_at_once : (f : List X → Bool) (x : X) (xs : List X) → f (x ∷ xs) ≡ false → behind_a_run f (x ∷ xs) ≡ behind_a_run f xs
  not_at_once f x xs h = ap (λ (b : Bool). b || behind_a_run f xs) h

  pub none_left : (f : List X → Bool) → f [] ≡ false → behind_a_run f [] ≡ false
  none_left f h = ap (λ (b : Bool). b || false) h

  pub none_at_all : (f : List X → Bool) (xs : List X) → xs ≡ [] → f xs ≡ false → behind_a_run f xs ≡ false
  none_at_all f [] e h = none_left f h
  none_at_all f (x ∷ xs) e h = cc

  pub not_here : (f : List X → Bool) (all : List X) (x : X) (xs : List X) → all ≡ x ∷ xs → f all ≡ false → behind_a_run f xs ≡ behind_a_run f all
  not_here f all x xs e h = sym (ap (behind_a_run f) e ∙ not_at_once f x xs (sym (ap f e) ∙ h))

-- ---- bytes

-- where the prefixes end together the pattern fits, and where they differ it doesn't
pub at_end : (p t : List ℕ) → until_star p t ≡ AtEnd → fits_component p t ≡ true
at_end [] [] h = refl
at_end [] (b ∷ t) h = cc
at_end (c ∷ p) [] h = elim (c == 42) as (λ v. cond v (AtStar p []) Differs ≡ AtEnd → cond v (behind_a_run (fits_component p) []) false ≡ true) [ true ↦ λ e. cc | false ↦ λ e. cc ] h
at_end (c ∷ p) (b ∷ t) h =
    elim (c == 42) as (λ v. cond v (AtStar p (b ∷ t)) (cond (fits_byte c b) (until_star p t) Differs) ≡ AtEnd → cond v (behind_a_run (fits_component p) (b ∷ t)) (fits_byte c b && fits_component p t) ≡ true)
    [ true ↦ λ e. cc | false ↦ elim (fits_byte c b) as (λ v. cond v (until_star p t) Differs ≡ AtEnd → (v && fits_component p t) ≡ true) [ true ↦ λ e. at_end p t e | false ↦ λ e. cc ] ] h

pub differs : (p t : List ℕ) → until_star p t ≡ Differs → fits_component p t ≡ false
differs [] [] h = cc
differs [] (b ∷ t) h = refl
differs (c ∷ p) [] h = elim (c == 42) as (λ v. cond v (AtStar p []) Differs ≡ Differs → cond v (behind_a_run (fits_component p) []) false ≡ false) [ true ↦ λ e. cc | false ↦ λ e. refl ] h
differs (c ∷ p) (b ∷ t) h =
    elim (c == 42) as (λ v. cond v (AtStar p (b ∷ t)) (cond (fits_byte c b) (until_star p t) Differs) ≡ Differs → cond v (behind_a_run (fits_component p) (b ∷ t)) (fits_byte c b && fits_component p t) ≡ false)
    [ true ↦ λ e. cc | false ↦ elim (fits_byte c b) as (λ v. cond v (until_star p t) Differs ≡ Differs → (v && fits_component p t) ≡ false) [ true ↦ λ e. differs p t e | false ↦ λ e. refl ] ] h

one_star : (p t q u : List ℕ) → AtStar p t ≡ AtStar q u → behind_a_run (fits_component p) t ≡ behind_a_run (fits_component q) u
one_star p t q u e =
    let same : p ≡ q = cc in
    let left : t ≡ u = cc in
    ap (λ (x : List ℕ). behind_a_run (fits_component x) t) same ∙ ap (λ (x : List ℕ). behind_a_run (fits_component q) x) left

-- at a star the rest of the pattern fits behind some run
pub at_star : (p t q u : List ℕ) → until_star p t ≡ AtStar q u → fits_component p t ≡ behind_a_run (fits_component q) u
at_star [] [] q u h = cc
at_star [] (b ∷ t) q u h = cc
at_star (c ∷ p) [] q u h =
    elim (c == 42) as (λ v. cond v (AtStar p []) Differs ≡ AtStar q u → cond v (behind_a_run (fits_component p) []) false ≡ behind_a_run (fits_component q) u)
    [ true ↦ λ e. one_star p [] q u e | false ↦ λ e. cc ] h
at_star (c ∷ p) (b ∷ t) q u h =
    elim (c == 42) as (λ v. cond v (AtStar p (b ∷ t)) (cond (fits_byte c b) (until_star p t) Differs) ≡ AtStar q u → cond v (behind_a_run (fits_component p) (b ∷ t)) (fits_byte c b && fits_component p t) ≡ behind_a_run (fits_component q) u) [
      | true ↦ λ e. one_star p (b ∷ t) q u e
      | false ↦ elim (fits_byte c b) as (λ v. cond v (until_star p t) Differs ≡ AtStar q u → (v && fits_component p t) ≡ behind_a_run (fits_component q) u) [ true ↦ λ e. at_star p t q u e | false ↦ λ e. cc ]
    ] h

-- a pattern that begins with no star takes one byte
takes_one : (c : ℕ) (p : List ℕ) → (c == 42) ≡ false → (b : ℕ) (t : List ℕ) → fits_component (c ∷ p) (b ∷ t) ≡ true → fits_component p t ≡ true
takes_one c p plain b t h = and_right (fits_byte c b) (fits_component p t) (rw plain at h)

takes_some : (c : ℕ) (p : List ℕ) → (c == 42) ≡ false → fits_component (c ∷ p) [] ≡ false
takes_some c p plain = rw plain refl

is_run : (c : ℕ) (p : List ℕ) → (c == 42) ≡ true → (t : List ℕ) → fits_component (c ∷ p) t ≡ true → behind_a_run (fits_component p) t ≡ true
is_run c p star [] h = rw star at h
is_run c p star (b ∷ t) h = rw star at h

star_prefix : (c : ℕ) (p t : List ℕ) → (c == 42) ≡ true → until_star (c ∷ p) t ≡ AtStar p t
star_prefix c p [] star = rw star refl
star_prefix c p (b ∷ t) star = rw star refl

plain_prefix : (c : ℕ) (p : List ℕ) (b : ℕ) (t : List ℕ) → (c == 42) ≡ false → until_star (c ∷ p) (b ∷ t) ≡ cond (fits_byte c b) (until_star p t) Differs
plain_prefix c p b t plain = rw plain refl

goes_on : (v : Bool) (x : UntilStar ℕ) (q u : List ℕ) → cond v x Differs ≡ AtStar q u → x ≡ AtStar q u
goes_on true x q u h = h
goes_on false x q u h = cc

-- where a pattern begins with no star, its prefix is that of what follows
below : (c : ℕ) (p t q u : List ℕ) → (c == 42) ≡ false → until_star (c ∷ p) t ≡ AtStar q u → (P : List ℕ → Type 0) → ((b : ℕ) (s : List ℕ) → until_star p s ≡ AtStar q u → P (b ∷ s)) → P t
below c p [] q u plain h P f = let apart : Differs ≡ AtStar q u = rw plain at h in cc
below c p (b ∷ t) q u plain h P f = f b t (goes_on (fits_byte c b) (until_star p t) q u (sym (plain_prefix c p b t plain) ∙ h))

-- a later start is no better: the run at the star may be longer
pub later_start : (p t q u : List ℕ) → until_star p t ≡ AtStar q u → behind_a_run (fits_component p) t ≡ true → behind_a_run (fits_component q) u ≡ true
later_start [] [] q u h = cc
later_start [] (b ∷ t) q u h = cc
later_start (c ∷ p) t q u h =
    elim (c == 42) as (λ v. (c == 42) ≡ v → behind_a_run (fits_component (c ∷ p)) t ≡ true → behind_a_run (fits_component q) u ≡ true) [
      | true ↦ λ star run. sym (one_star p t q u (sym (star_prefix c p t star) ∙ h)) ∙ run_of_runs (fits_component p) t (weaker (fits_component (c ∷ p)) (behind_a_run (fits_component p)) (is_run c p star) t run)
      | false ↦ λ plain. below c p t q u plain h (λ s. behind_a_run (fits_component (c ∷ p)) s ≡ true → behind_a_run (fits_component q) u ≡ true)
          (λ b s e run. later_start p s q u e (run_and_one (fits_component (c ∷ p)) (fits_component p) (takes_some c p plain) (takes_one c p plain) b s run))
    ] refl

-- so the search goes on behind the star alone
pub star_step : (p t q u : List ℕ) → until_star p t ≡ AtStar q u → behind_a_run (fits_component q) u ≡ behind_a_run (fits_component p) t
star_step p t q u h =
    both_ways _ _ (λ e. at_once (fits_component p) t (at_star p t q u h ∙ e)) (later_start p t q u h)

pub apart_step : (p t : List ℕ) → until_star p t ≡ Differs → (length t == 0) ≡ false → behind_a_run (fits_component p) (drop 1 t) ≡ behind_a_run (fits_component p) t
apart_step p [] h some = absurd (true≢false some)
apart_step p (b ∷ t) h some = sym (not_at_once (fits_component p) b t (differs p (b ∷ t) h))

pub apart_end : (p t : List ℕ) → until_star p t ≡ Differs → (length t == 0) ≡ true → behind_a_run (fits_component p) t ≡ false
apart_end p [] h none = none_left (fits_component p) (differs p [] h)
apart_end p (b ∷ t) h none = absurd (let zero_is : suc (length t) ≡ 0 = eqb-true (suc (length t)) 0 none in omega arith)

two_parts : (p t q u : List ℕ) → AtStar p t ≡ AtStar q u → length q + length u ≡ length p + length t
two_parts p t q u e =
    let same : p ≡ q = cc in
    let left : t ≡ u = cc in
    let l : length p ≡ length q = ap length same in
    let r : length t ≡ length u = ap length left in
    omega arith

pub star_shorter : (p t q u : List ℕ) → until_star p t ≡ AtStar q u → length q + length u < length p + length t
star_shorter [] [] q u h = cc
star_shorter [] (b ∷ t) q u h = cc
star_shorter (c ∷ p) t q u h =
    elim (c == 42) as (λ v. (c == 42) ≡ v → length q + length u < suc (length p) + length t) [
      | true ↦ λ star. (let same = two_parts p t q u (sym (star_prefix c p t star) ∙ h) in omega arith)
      | false ↦ λ plain. below c p t q u plain h (λ s. length q + length u < suc (length p) + length s)
          (λ b s e. (let less = star_shorter p s q u e in omega arith))
    ] refl

-- where the pattern has ended, and the text hasn't
pub ended : (p t : List ℕ) (i : ℕ) → length p ≤ i → i ≤ length t → i ≤ length p → (length t ≡ length p → ⊥) → until_star (drop i p) (drop i t) ≡ Differs
ended p t i over inside within other =
    let more : i < length t = omega arith in
    rw (drop_all i p over, drop-cons t i 0 more) refl
