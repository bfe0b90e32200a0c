-- The triggers of a root by their names: the place of a name, and what a trigger is put into or taken out of.
use Rattle.std.proofs.Common.{◌≡◌, ℕ, zero, suc, ◌+◌, ◌<◌, Bool, true, false, List, [], ◌∷◌, ◌++◌, length, drop, get_or, set, cond, Option, Some, None, is_some, refl, sym, ap, ◌∙◌, ◌≤◌, arith}
use Rattle.std.proofs.lemmas.List.Quantifiers.{position-Some}
use Rattle.std.proofs.lemmas.Iterator.Adapters.{position_from-zero}
use Rattle.std.proofs.lemmas.Map.Keys.{IsDistinct-head, IsDistinct-tail, IsDistinct-cons}
use Rattle.std.specs.List.{AllByRecursion, IsDistinct, position, position_from, remove}
use Rattle.std.specs.Str.{bytes_eq}
use Rattle.wm_registry.specs.Spelling.{names_of}
use Rattle.wm_registry.specs.Triggers.{Definition, is_named, defined, without}

-- the first trigger of the name stands at i
pub record IsPlace (name : List ℕ) (triggers : List Definition) (i : ℕ) : Type 0 where
  pub within : i < length triggers
  pub named : (d : Definition) → is_named name (get_or triggers i d) ≡ true
  pub others : (k : ℕ) (d : Definition) → k < i → is_named name (get_or triggers k d) ≡ false

is_place : (name : List ℕ) (triggers : List Definition) (i : ℕ) (d : Definition) → position (is_named name) triggers ≡ Some i → IsPlace name triggers i
is_place name triggers i d e = record {
  within = (position-Some (is_named name) triggers i d e).0;
  named = λ z. (position-Some (is_named name) triggers i z e).1;
  others = λ k z. (position-Some (is_named name) triggers i z e).2 k;
}

-- behind the first trigger
behind : (name : List ℕ) (old : Definition) (rest : List Definition) (i : ℕ) → IsPlace name (old ∷ rest) (suc i) → IsPlace name rest i
behind name old rest i p = record {
  within = omega (arith, p.within);
  named = p.named;
  others = λ k d lt. p.others (suc k) d (omega arith);
}

-- without the trigger of a name that is there
without-place : (name : List ℕ) (triggers : List Definition) (i : ℕ) → IsPlace name triggers i → without name triggers ≡ remove triggers i
without-place name [] i p = absurd (omega (arith, p.within))
without-place name (old ∷ rest) zero p = let here = p.named old in rw here refl
without-place name (old ∷ rest) (suc i) p =
    let here = p.others 0 old (omega arith) in
    rw here (ap (λ l. old ∷ l) (without-place name rest i (behind name old rest i p)))

-- with a trigger in the place of that of its name
defined-place : (trigger : Definition) (triggers : List Definition) (i : ℕ) → IsPlace trigger.name triggers i → defined trigger triggers ≡ set triggers i trigger
defined-place trigger [] i p = absurd (omega (arith, p.within))
defined-place trigger (old ∷ rest) zero p = let here = p.named old in rw here refl
defined-place trigger (old ∷ rest) (suc i) p =
    let here = p.others 0 old (omega arith) in
    rw here (ap (λ l. old ∷ l) (defined-place trigger rest i (behind trigger.name old rest i p)))

pub without-at : (name : List ℕ) (triggers : List Definition) (i : ℕ) (d : Definition) → position (is_named name) triggers ≡ Some i → without name triggers ≡ remove triggers i
without-at name triggers i d e = without-place name triggers i (is_place name triggers i d e)

pub defined-at : (trigger : Definition) (triggers : List Definition) (i : ℕ) → position (is_named trigger.name) triggers ≡ Some i → defined trigger triggers ≡ set triggers i trigger
defined-at trigger triggers i e = defined-place trigger triggers i (is_place trigger.name triggers i trigger e)

-- no item passes the test
absent_from : {X : Type 0} (test : X → Bool) (i : ℕ) (xs : List X) → position_from test i xs ≡ None → AllByRecursion (λ x. test x ≡ false) xs
absent_from test i [] e = tt
absent_from {X} test i (x ∷ xs) e = by (test x) refl e (absent_from test (i + 1) xs)
  where
    by : (b : Bool) → test x ≡ b → cond b (Some i) (position_from test (i + 1) xs) ≡ None → (position_from test (i + 1) xs ≡ None → AllByRecursion (λ y. test y ≡ false) xs) → AllByRecursion (λ y. test y ≡ false) (x ∷ xs)
    by true h f rest = absurd cc
    by false h f rest = (h, rest f)

none_from : {X : Type 0} (test : X → Bool) (i : ℕ) (xs : List X) → AllByRecursion (λ x. test x ≡ false) xs → position_from test i xs ≡ None
none_from test i [] h = refl
none_from test i (x ∷ xs) h = let first = h.0 in rw first (none_from test (i + 1) xs h.1)

-- no trigger has the name
pub absent : (name : List ℕ) (triggers : List Definition) → position (is_named name) triggers ≡ None → AllByRecursion (λ t. is_named name t ≡ false) triggers
absent name triggers e = absent_from (is_named name) 0 triggers (sym (position_from-zero (is_named name) triggers) ∙ e)

none : (name : List ℕ) (triggers : List Definition) → AllByRecursion (λ t. is_named name t ≡ false) triggers → position (is_named name) triggers ≡ None
none name triggers h = position_from-zero (is_named name) triggers ∙ none_from (is_named name) 0 triggers h

without-absent : (name : List ℕ) (triggers : List Definition) → AllByRecursion (λ t. is_named name t ≡ false) triggers → without name triggers ≡ triggers
without-absent name [] h = refl
without-absent name (old ∷ rest) h = let first = h.0 in rw first (ap (λ l. old ∷ l) (without-absent name rest h.1))

defined-absent : (trigger : Definition) (triggers : List Definition) → AllByRecursion (λ t. is_named trigger.name t ≡ false) triggers → defined trigger triggers ≡ triggers ++ trigger ∷ []
defined-absent trigger [] h = refl
defined-absent trigger (old ∷ rest) h = let first = h.0 in rw first (ap (λ l. old ∷ l) (defined-absent trigger rest h.1))

pub without-none : (name : List ℕ) (triggers : List Definition) → position (is_named name) triggers ≡ None → without name triggers ≡ triggers
without-none name triggers e = without-absent name triggers (absent name triggers e)

pub defined-none : (trigger : Definition) (triggers : List Definition) → position (is_named trigger.name) triggers ≡ None → defined trigger triggers ≡ triggers ++ trigger ∷ []
defined-none trigger triggers e = defined-absent trigger triggers (absent trigger.name triggers e)

-- ---- triggers of which no two have one name

names_absent : (name : List ℕ) (triggers : List Definition) → AllByRecursion (λ t. is_named name t ≡ false) triggers → AllByRecursion (λ n. bytes_eq name n ≡ false) (names_of triggers)
names_absent name [] h = tt
names_absent name (old ∷ rest) h = (h.0, names_absent name rest h.1)

absent_names : (name : List ℕ) (triggers : List Definition) → AllByRecursion (λ n. bytes_eq name n ≡ false) (names_of triggers) → AllByRecursion (λ t. is_named name t ≡ false) triggers
absent_names name [] h = tt
absent_names name (old ∷ rest) h = (h.0, absent_names name rest h.1)

pub apart-cons : (first : Definition) (triggers : List Definition) → 1 ≤ length triggers → first ≡ get_or triggers 0 first → position (is_named first.name) (drop 1 triggers) ≡ None → IsDistinct bytes_eq (names_of (drop 1 triggers)) → IsDistinct bytes_eq (names_of triggers)
apart-cons first [] some is e h = absurd (omega (arith, some))
apart-cons first (x ∷ xs) some is e h =
    let none : position (is_named x.name) xs ≡ None = rw is at e in
    IsDistinct-cons bytes_eq x.name (names_of xs) (names_absent x.name xs (absent x.name xs none)) h

pub apart-tail : (triggers : List Definition) → 1 ≤ length triggers → IsDistinct bytes_eq (names_of triggers) → IsDistinct bytes_eq (names_of (drop 1 triggers))
apart-tail [] some h = absurd (omega (arith, some))
apart-tail (x ∷ xs) some h = IsDistinct-tail bytes_eq x.name (names_of xs) h

pub apart-head : (first : Definition) (triggers : List Definition) → 1 ≤ length triggers → first ≡ get_or triggers 0 first → IsDistinct bytes_eq (names_of triggers) → position (is_named first.name) (drop 1 triggers) ≡ None
apart-head first [] some is h = absurd (omega (arith, some))
apart-head first (x ∷ xs) some is h =
    let found : position (is_named x.name) xs ≡ None = none x.name xs (absent_names x.name xs (IsDistinct-head bytes_eq x.name (names_of xs) h)) in
    rw is found

pub apart-nil : (triggers : List Definition) → length triggers < 1 → IsDistinct bytes_eq (names_of triggers)
unfolding IsDistinct
apart-nil [] few = tt
apart-nil (x ∷ xs) few = absurd (omega (arith, few))

pub none_is : {X : Type 0} (found : Option X) → is_some found ≡ false → found ≡ None
none_is None e = refl
none_is (Some x) e = absurd cc
