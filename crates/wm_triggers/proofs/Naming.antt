-- The definitions of a root by their names: once one is put in or taken out.
use Rattle.std.proofs.Common.{◌≡◌, ℕ, zero, suc, ◌+◌, ◌<◌, Bool, true, false, not, ◌&&◌, ◌||◌, ◌==◌, cond, List, [], ◌∷◌, ◌++◌, length, get_or, set, Some, None, position, Result, Ok, Err, OnErr, refl, sym, ap, ◌∙◌, arith, true≢false}
use Rattle.std.proofs.lemmas.Bool.{and_parts, and_from, eq-eqb}
use Rattle.std.proofs.lemmas.Iterator.Adapters.{position_from-zero}
use Rattle.std.proofs.lemmas.List.Quantifiers.{position-Some}
use Rattle.std.proofs.lemmas.Slice.Eq.{bytes_eq-Decides}
use Rattle.std.specs.List.{list_any, position_from, remove}
use Rattle.std.specs.Str.{bytes_eq}
use Rattle.wm_triggers.specs.Definitions.{names_are_apart, has_name, is_defined, is_definition, stands, with_definition, without_definition}
use Rattle.wm_triggers.specs.declared.defined_trigger.DefinedTrigger.{DefinedTrigger}

-- ---- the place of a name

-- the first definition of the name stands at i
record IsPlace (name : List ℕ) (ds : List DefinedTrigger) (i : ℕ) : Type 0 where
  pub within : i < length ds
  pub named : (d : DefinedTrigger) → has_name name (get_or ds i d) ≡ true
  pub others : (k : ℕ) (d : DefinedTrigger) → k < i → has_name name (get_or ds k d) ≡ false

is_place : (name : List ℕ) (ds : List DefinedTrigger) (i : ℕ) (d : DefinedTrigger) → position (has_name name) ds ≡ Some i → IsPlace name ds i
is_place name ds i d e = record {
  within = (position-Some (has_name name) ds i d e).0;
  named = λ z. (position-Some (has_name name) ds i z e).1;
  others = λ k z. (position-Some (has_name name) ds i z e).2 k;
}

-- behind the first definition
behind : (name : List ℕ) (old : DefinedTrigger) (rest : List DefinedTrigger) (i : ℕ) → IsPlace name (old ∷ rest) (suc i) → IsPlace name rest i
behind name old rest i p = record {
  within = omega (arith, p.within);
  named = p.named;
  others = λ k d lt. p.others (suc k) d (omega arith);
}

without-place : (name : List ℕ) (ds : List DefinedTrigger) (i : ℕ) → IsPlace name ds i → without_definition name ds ≡ remove ds i
without-place name [] i p = absurd (omega (arith, p.within))
without-place name (old ∷ rest) zero p = let here = p.named old in rw here refl
without-place name (old ∷ rest) (suc i) p =
    let here = p.others 0 old (omega arith) in
    rw here (ap (λ l. old ∷ l) (without-place name rest i (behind name old rest i p)))

with-place : (new : DefinedTrigger) (ds : List DefinedTrigger) (i : ℕ) → IsPlace new.trigger.name ds i → with_definition new ds ≡ set ds i new
with-place new [] i p = absurd (omega (arith, p.within))
with-place new (old ∷ rest) zero p = let here = p.named old in rw here refl
with-place new (old ∷ rest) (suc i) p =
    let here = p.others 0 old (omega arith) in
    rw here (ap (λ l. old ∷ l) (with-place new rest i (behind new.trigger.name old rest i p)))

pub without-at : (name : List ℕ) (ds : List DefinedTrigger) (i : ℕ) (d : DefinedTrigger) → position (has_name name) ds ≡ Some i → without_definition name ds ≡ remove ds i
without-at name ds i d e = without-place name ds i (is_place name ds i d e)

pub with-at : (new : DefinedTrigger) (ds : List DefinedTrigger) (i : ℕ) → position (has_name new.trigger.name) ds ≡ Some i → with_definition new ds ≡ set ds i new
with-at new ds i e = with-place new ds i (is_place new.trigger.name ds i new e)

-- ---- a name that isn't there

none_from : {X : Type 0} (test : X → Bool) (i : ℕ) (xs : List X) → position_from test i xs ≡ None → list_any test xs ≡ false
none_from test i [] e = refl
none_from {X} test i (x ∷ xs) e = by (test x) e (none_from test (i + 1) xs)
  where
    by : (b : Bool) → cond b (Some i) (position_from test (i + 1) xs) ≡ None → (position_from test (i + 1) xs ≡ None → list_any test xs ≡ false) → (b || list_any test xs) ≡ false
    by true f rest = absurd cc
    by false f rest = rest f

pub undefined : (name : List ℕ) (ds : List DefinedTrigger) → position (has_name name) ds ≡ None → is_defined name ds ≡ false
undefined name ds e = none_from (has_name name) 0 ds (sym (position_from-zero (has_name name) ds) ∙ e)

neither : (a b : Bool) → (a || b) ≡ false → (a ≡ false) × (b ≡ false)
neither true b e = absurd (true≢false e)
neither false b e = (refl, e)

without-undefined : (name : List ℕ) (ds : List DefinedTrigger) → is_defined name ds ≡ false → without_definition name ds ≡ ds
without-undefined name [] h = refl
without-undefined name (old ∷ rest) h =
    let both = neither (has_name name old) (is_defined name rest) h in
    let first : has_name name old ≡ false = both.0 in
    rw first (ap (λ l. old ∷ l) (without-undefined name rest both.1))

with-undefined : (new : DefinedTrigger) (ds : List DefinedTrigger) → is_defined new.trigger.name ds ≡ false → with_definition new ds ≡ ds ++ new ∷ []
with-undefined new [] h = refl
with-undefined new (old ∷ rest) h =
    let both = neither (has_name new.trigger.name old) (is_defined new.trigger.name rest) h in
    let first : has_name new.trigger.name old ≡ false = both.0 in
    rw first (ap (λ l. old ∷ l) (with-undefined new rest both.1))

pub without-none : (name : List ℕ) (ds : List DefinedTrigger) → position (has_name name) ds ≡ None → without_definition name ds ≡ ds
without-none name ds e = without-undefined name ds (undefined name ds e)

pub with-none : (new : DefinedTrigger) (ds : List DefinedTrigger) → position (has_name new.trigger.name) ds ≡ None → with_definition new ds ≡ ds ++ new ∷ []
with-none new ds e = with-undefined new ds (undefined new.trigger.name ds e)

-- a fact that holds anyhow holds on an error
pub on_err : {T E P : Type 0} (r : Result T E) → P → OnErr r P
on_err (Ok v) p = tt
on_err (Err e) p = p

-- ---- what no definition passes, none passes later

pub any-with : (p : DefinedTrigger → Bool) (new : DefinedTrigger) (ds : List DefinedTrigger) → list_any p ds ≡ false → p new ≡ false → list_any p (with_definition new ds) ≡ false
any-with p new [] h n = ap (λ b. b || false) n
any-with p new (x ∷ ds) h n = by (any-with p new ds both.1 n) (has_name new.trigger.name x)
  where
    both : (p x ≡ false) × (list_any p ds ≡ false)
    both = neither (p x) (list_any p ds) h

    by : list_any p (with_definition new ds) ≡ false → (b : Bool) → list_any p (cond b (new ∷ ds) (x ∷ with_definition new ds)) ≡ false
    by rest true = ap (λ b. b || list_any p ds) n ∙ both.1
    by rest false = ap (λ b. b || list_any p (with_definition new ds)) both.0 ∙ rest

pub any-without : (p : DefinedTrigger → Bool) (name : List ℕ) (ds : List DefinedTrigger) → list_any p ds ≡ false → list_any p (without_definition name ds) ≡ false
any-without p name [] h = h
any-without p name (x ∷ ds) h = by (any-without p name ds both.1) (has_name name x)
  where
    both : (p x ≡ false) × (list_any p ds ≡ false)
    both = neither (p x) (list_any p ds) h

    by : list_any p (without_definition name ds) ≡ false → (b : Bool) → list_any p (cond b ds (x ∷ without_definition name ds)) ≡ false
    by rest true = both.1
    by rest false = ap (λ b. b || list_any p (without_definition name ds)) both.0 ∙ rest

-- ---- no name twice

differs-flipped : (a b : List ℕ) → bytes_eq a b ≡ false → bytes_eq b a ≡ false
differs-flipped a b miss = by (bytes_eq b a) refl
  where
    by : (c : Bool) → bytes_eq b a ≡ c → c ≡ false
    by true same = absurd (true≢false (sym ((bytes_eq-Decides a b).1 (sym ((bytes_eq-Decides b a).0 same))) ∙ miss))
    by false differs = refl

is_false : (b : Bool) → not b ≡ true → b ≡ false
is_false true h = absurd (true≢false (sym h))
is_false false h = refl

-- the first name isn't there again, and the others are apart
pub apart-parts : (d : DefinedTrigger) (ds : List DefinedTrigger) → names_are_apart (d ∷ ds) ≡ true → (is_defined d.trigger.name ds ≡ false) × (names_are_apart ds ≡ true)
apart-parts d ds h =
    let both = and_parts (not (is_defined d.trigger.name ds)) (names_are_apart ds) h in
    (is_false (is_defined d.trigger.name ds) both.0, both.1)

apart-from : (d : DefinedTrigger) (ds : List DefinedTrigger) → is_defined d.trigger.name ds ≡ false → names_are_apart ds ≡ true → names_are_apart (d ∷ ds) ≡ true
apart-from d ds none rest = and_from (not (is_defined d.trigger.name ds)) (names_are_apart ds) (ap not none) rest

pub apart-with : (new : DefinedTrigger) (ds : List DefinedTrigger) → names_are_apart ds ≡ true → names_are_apart (with_definition new ds) ≡ true
apart-with new [] h = refl
apart-with new (x ∷ ds) h = by (apart-with new ds both.1) (has_name new.trigger.name x) refl
  where
    both : (is_defined x.trigger.name ds ≡ false) × (names_are_apart ds ≡ true)
    both = apart-parts x ds h

    by : names_are_apart (with_definition new ds) ≡ true → (b : Bool) → has_name new.trigger.name x ≡ b → names_are_apart (cond b (new ∷ ds) (x ∷ with_definition new ds)) ≡ true
    by rest true hit = apart-from new ds (ap (λ n. is_defined n ds) ((bytes_eq-Decides new.trigger.name x.trigger.name).0 hit) ∙ both.0) both.1
    by rest false miss = apart-from x (with_definition new ds) (any-with (has_name x.trigger.name) new ds both.0 (differs-flipped new.trigger.name x.trigger.name miss)) rest

pub apart-without : (name : List ℕ) (ds : List DefinedTrigger) → names_are_apart ds ≡ true → names_are_apart (without_definition name ds) ≡ true
apart-without name [] h = h
apart-without name (x ∷ ds) h = by (apart-without name ds both.1) (has_name name x)
  where
    both : (is_defined x.trigger.name ds ≡ false) × (names_are_apart ds ≡ true)
    both = apart-parts x ds h

    by : names_are_apart (without_definition name ds) ≡ true → (b : Bool) → names_are_apart (cond b ds (x ∷ without_definition name ds)) ≡ true
    by rest true = both.1
    by rest false = apart-from x (without_definition name ds) (any-without (has_name x.trigger.name) name ds both.0) rest

-- ---- which definitions stand

-- what isn't defined at all doesn't stand
pub undefined-stands : (name : List ℕ) (number : ℕ) (ds : List DefinedTrigger) → is_defined name ds ≡ false → stands name number ds ≡ false
undefined-stands name number [] h = refl
undefined-stands name number (x ∷ ds) h =
    let both = neither (has_name name x) (is_defined name ds) h in
    ap (λ b. (b && (x.number == number)) || stands name number ds) both.0 ∙ undefined-stands name number ds both.1

pub removed-stands : (name : List ℕ) (number : ℕ) (ds : List DefinedTrigger) → names_are_apart ds ≡ true → stands name number (without_definition name ds) ≡ false
removed-stands name number [] h = refl
removed-stands name number (x ∷ ds) h = by (removed-stands name number ds both.1) (has_name name x) refl
  where
    both : (is_defined x.trigger.name ds ≡ false) × (names_are_apart ds ≡ true)
    both = apart-parts x ds h

    by : stands name number (without_definition name ds) ≡ false → (b : Bool) → has_name name x ≡ b → stands name number (cond b ds (x ∷ without_definition name ds)) ≡ false
    by rest true hit = undefined-stands name number ds (ap (λ n. is_defined n ds) ((bytes_eq-Decides name x.trigger.name).0 hit) ∙ both.0)
    by rest false miss = ap (λ b. (b && (x.number == number)) || stands name number (without_definition name ds)) miss ∙ rest

-- one that has the name of the new one, and isn't it
pub replaced-stands : (name : List ℕ) (number : ℕ) (new : DefinedTrigger) (ds : List DefinedTrigger) → names_are_apart ds ≡ true → new.trigger.name ≡ name → is_definition name number new ≡ false → stands name number (with_definition new ds) ≡ false
replaced-stands name number new [] h same other = ap (λ b. b || false) other
replaced-stands name number new (x ∷ ds) h same other = by (replaced-stands name number new ds both.1 same other) (has_name new.trigger.name x) refl
  where
    both : (is_defined x.trigger.name ds ≡ false) × (names_are_apart ds ≡ true)
    both = apart-parts x ds h

    by : stands name number (with_definition new ds) ≡ false → (b : Bool) → has_name new.trigger.name x ≡ b → stands name number (cond b (new ∷ ds) (x ∷ with_definition new ds)) ≡ false
    by rest true hit =
        ap (λ b. b || stands name number ds) other
        ∙ undefined-stands name number ds (ap (λ n. is_defined n ds) (sym same ∙ (bytes_eq-Decides new.trigger.name x.trigger.name).0 hit) ∙ both.0)
    by rest false miss = ap (λ b. (b && (x.number == number)) || stands name number (with_definition new ds)) (ap (λ n. has_name n x) (sym same) ∙ miss) ∙ rest

-- each is the definition of its own name and number
pub is-itself : (d : DefinedTrigger) → is_definition d.trigger.name d.number d ≡ true
is-itself d = and_from (has_name d.trigger.name d) (d.number == d.number) ((bytes_eq-Decides d.trigger.name d.trigger.name).1 refl) (eq-eqb d.number d.number refl)

pub defined-stands : (new : DefinedTrigger) (ds : List DefinedTrigger) → stands new.trigger.name new.number (with_definition new ds) ≡ true
defined-stands new [] = ap (λ b. b || false) (is-itself new)
defined-stands new (x ∷ ds) = by (defined-stands new ds) (has_name new.trigger.name x) refl
  where
    by : stands new.trigger.name new.number (with_definition new ds) ≡ true → (b : Bool) → has_name new.trigger.name x ≡ b → stands new.trigger.name new.number (cond b (new ∷ ds) (x ∷ with_definition new ds)) ≡ true
    by rest true hit = ap (λ b. b || stands new.trigger.name new.number ds) (is-itself new)
    by rest false miss = ap (λ b. (b && (x.number == new.number)) || stands new.trigger.name new.number (with_definition new ds)) miss ∙ rest

-- a definition of another name
pub other-with : (name : List ℕ) (number : ℕ) (new : DefinedTrigger) (ds : List DefinedTrigger) → bytes_eq new.trigger.name name ≡ false → stands name number (with_definition new ds) ≡ stands name number ds
other-with name number new [] other = ap (λ b. (b && (new.number == number)) || false) (differs-flipped new.trigger.name name other)
other-with name number new (x ∷ ds) other = by (other-with name number new ds other) (has_name new.trigger.name x) refl
  where
    by : stands name number (with_definition new ds) ≡ stands name number ds → (b : Bool) → has_name new.trigger.name x ≡ b → stands name number (cond b (new ∷ ds) (x ∷ with_definition new ds)) ≡ stands name number (x ∷ ds)
    by rest true hit =
        ap (λ b. (b && (new.number == number)) || stands name number ds) (differs-flipped new.trigger.name name other)
        ∙ sym (ap (λ b. (b && (x.number == number)) || stands name number ds) (ap (λ n. bytes_eq name n) (sym ((bytes_eq-Decides new.trigger.name x.trigger.name).0 hit)) ∙ differs-flipped new.trigger.name name other))
    by rest false miss = ap (λ b. is_definition name number x || b) rest

pub other-without : (name : List ℕ) (number : ℕ) (gone : List ℕ) (ds : List DefinedTrigger) → bytes_eq gone name ≡ false → stands name number (without_definition gone ds) ≡ stands name number ds
other-without name number gone [] other = refl
other-without name number gone (x ∷ ds) other = by (other-without name number gone ds other) (has_name gone x) refl
  where
    by : stands name number (without_definition gone ds) ≡ stands name number ds → (b : Bool) → has_name gone x ≡ b → stands name number (cond b ds (x ∷ without_definition gone ds)) ≡ stands name number (x ∷ ds)
    by rest true hit = sym (ap (λ b. (b && (x.number == number)) || stands name number ds) (ap (λ n. bytes_eq name n) (sym ((bytes_eq-Decides gone x.trigger.name).0 hit)) ∙ differs-flipped gone name other))
    by rest false miss = ap (λ b. is_definition name number x || b) rest
