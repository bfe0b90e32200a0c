-- The triggers of a root once one is defined or taken out: how many there are, their names, and their spelling's length.
use Rattle.std.proofs.Common.{◌≡◌, inl, inr, ℕ, ◌+◌, ◌≤◌, Bool, true, false, cond, ◌||◌, List, [], ◌∷◌, ◌++◌, length, flat_map, refl, sym, subst, ◌∙◌, arith, true≢false}
use Rattle.std.proofs.lemmas.Bool.{cases_Bool}
use Rattle.std.proofs.lemmas.List.{length-append}
use Rattle.std.proofs.lemmas.Slice.Eq.{bytes_eq-Decides}
use Rattle.std.specs.List.{AllByRecursion, IsDistinct}
use Rattle.std.specs.Str.{bytes_eq}
use Rattle.wm_registry.specs.Spelling.{names_of}
use Rattle.wm_registry.specs.Triggers.{Definition, is_named, has_trigger, defined, without}

pub same_bytes : (a b : List ℕ) → bytes_eq a b ≡ true → a ≡ b
same_bytes a b h = (bytes_eq-Decides a b).0 h

pub bytes_eq-flip : (a b : List ℕ) → bytes_eq a b ≡ false → bytes_eq b a ≡ false
bytes_eq-flip a b miss = elim (cases_Bool (bytes_eq b a)) [
  | inl hit ↦ absurd (true≢false (sym ((bytes_eq-Decides a b).1 (sym (same_bytes b a hit))) ∙ miss))
  | inr other ↦ other
]

-- ---- one defined

-- in the place of that of its name there are as many
pub length-defined-there : (t : Definition) (ts : List Definition) → has_trigger t.name ts ≡ true → length (defined t ts) ≡ length ts
length-defined-there t [] h = absurd (true≢false (sym h))
length-defined-there t (x ∷ ts) h = by (λ q. length-defined-there t ts q) (is_named t.name x) h
  where
    by : (has_trigger t.name ts ≡ true → length (defined t ts) ≡ length ts) → (b : Bool) → (b || has_trigger t.name ts) ≡ true → length (cond b (t ∷ ts) (x ∷ defined t ts)) ≡ length (x ∷ ts)
    by rest true q = omega arith
    by rest false q = omega (arith, rest q)

-- and else at most one more
pub length-defined : (t : Definition) (ts : List Definition) → length (defined t ts) ≤ length ts + 1
length-defined t [] = omega arith
length-defined t (x ∷ ts) = by (length-defined t ts) (is_named t.name x)
  where
    by : length (defined t ts) ≤ length ts + 1 → (b : Bool) → length (cond b (t ∷ ts) (x ∷ defined t ts)) ≤ length (x ∷ ts) + 1
    by rest true = omega arith
    by rest false = omega arith

names-defined : (P : List ℕ → Type 0) (t : Definition) (ts : List Definition) → AllByRecursion P (names_of ts) → P t.name → AllByRecursion P (names_of (defined t ts))
names-defined P t [] h p = (p, tt)
names-defined P t (x ∷ ts) h p = by (names-defined P t ts h.1 p) (is_named t.name x)
  where
    by : AllByRecursion P (names_of (defined t ts)) → (b : Bool) → AllByRecursion P (names_of (cond b (t ∷ ts) (x ∷ defined t ts)))
    by rest true = (p, h.1)
    by rest false = (h.0, rest)

pub apart-defined : (t : Definition) (ts : List Definition) → IsDistinct bytes_eq (names_of ts) → IsDistinct bytes_eq (names_of (defined t ts))
unfolding IsDistinct
apart-defined t [] h = (tt, tt)
apart-defined t (x ∷ ts) h = by (apart-defined t ts h.1) (is_named t.name x) refl
  where
    by : IsDistinct bytes_eq (names_of (defined t ts)) → (b : Bool) → is_named t.name x ≡ b → IsDistinct bytes_eq (names_of (cond b (t ∷ ts) (x ∷ defined t ts)))
    by rest true hit = subst (λ n. IsDistinct bytes_eq (n ∷ names_of ts)) (sym (same_bytes t.name x.name hit)) h
    by rest false miss = (names-defined (λ n. bytes_eq x.name n ≡ false) t ts h.0 (bytes_eq-flip t.name x.name miss), rest)

-- ---- one taken out

names-without : (P : List ℕ → Type 0) (name : List ℕ) (ts : List Definition) → AllByRecursion P (names_of ts) → AllByRecursion P (names_of (without name ts))
names-without P name [] h = h
names-without P name (x ∷ ts) h = by (names-without P name ts h.1) (is_named name x)
  where
    by : AllByRecursion P (names_of (without name ts)) → (b : Bool) → AllByRecursion P (names_of (cond b ts (x ∷ without name ts)))
    by rest true = h.1
    by rest false = (h.0, rest)

pub apart-without : (name : List ℕ) (ts : List Definition) → IsDistinct bytes_eq (names_of ts) → IsDistinct bytes_eq (names_of (without name ts))
unfolding IsDistinct
apart-without name [] h = h
apart-without name (x ∷ ts) h = by (apart-without name ts h.1) (is_named name x)
  where
    by : IsDistinct bytes_eq (names_of (without name ts)) → (b : Bool) → IsDistinct bytes_eq (names_of (cond b ts (x ∷ without name ts)))
    by rest true = h.1
    by rest false = (names-without (λ n. bytes_eq x.name n ≡ false) name ts h.0, rest)

-- the others are spelled in no more bytes
pub length-without : (f : Definition → List ℕ) (name : List ℕ) (ts : List Definition) → length (flat_map f (without name ts)) ≤ length (flat_map f ts)
length-without f name [] = omega arith
length-without f name (x ∷ ts) = by (length-without f name ts) (is_named name x)
  where
    by : length (flat_map f (without name ts)) ≤ length (flat_map f ts) → (b : Bool) → length (flat_map f (cond b ts (x ∷ without name ts))) ≤ length (f x ++ flat_map f ts)
    by rest true = omega (arith, length-append (f x) (flat_map f ts))
    by rest false = omega (arith, length-append (f x) (flat_map f (without name ts)), length-append (f x) (flat_map f ts))
