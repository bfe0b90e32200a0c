-- The laws of `Wire` for pairs and for values that may be missing.
-- For proofs and the ghost members of impls: a reader of definitions may skip it.
use Rattle.std.proofs.Common.{◌≡◌, ℕ, ◌^◌, ◌<◌, List, ◌++◌, length, Option, Some, None, refl, sym, ap, ◌∙◌, append_assoc}
use Rattle.std.proofs.lemmas.List.{append_cancel_left}
use Rattle.wm_wire.specs.Spelling.{Alone, IsPair, IsOptional, pair_spelling, optional_spelling}

-- where two firsts begin the same bytes, they are the same, and so is what follows them
pub record SamePrefix {V : Type 0} (x y : V) (a b : List ℕ) : Type 0 where
  pub value : x ≡ y
  pub rest : a ≡ b

pub same_prefix : {V : Type 0} (fits : V → Type 0) (spelling : V → List ℕ) → Alone fits spelling → (x y : V) (a b : List ℕ) → fits x → fits y → spelling x ++ a ≡ spelling y ++ b → SamePrefix x y a b
same_prefix fits spelling alone x y a b hx hy e =
    let same : x ≡ y = alone x y a b hx hy e in
    record {
      value = same;
      rest = append_cancel_left (spelling x) a b (e ∙ ap (λ v. spelling v ++ b) (sym same));
    }

pub alone_pair : {A B : Type 0} (fits : A → Type 0) (spelling : A → List ℕ) (fits' : B → Type 0) (spelling' : B → List ℕ) → Alone fits spelling → Alone fits' spelling' → Alone (IsPair fits spelling fits' spelling') (pair_spelling spelling spelling')
alone_pair fits spelling fits' spelling' alone alone' x y a b hx hy e =
    let apart : spelling x.0 ++ (spelling' x.1 ++ a) ≡ spelling y.0 ++ (spelling' y.1 ++ b) = sym (append_assoc (spelling x.0) (spelling' x.1) a) ∙ e ∙ append_assoc (spelling y.0) (spelling' y.1) b in
    let first = same_prefix fits spelling alone x.0 y.0 (spelling' x.1 ++ a) (spelling' y.1 ++ b) hx.first hy.first apart in
    let second = alone' x.1 y.1 a b hx.second hy.second first.rest in
    ap (λ v. (v, x.1)) first.value ∙ ap (λ v. (y.0, v)) second

pub short_pair : {A B : Type 0} (fits : A → Type 0) (spelling : A → List ℕ) (fits' : B → Type 0) (spelling' : B → List ℕ) (x : A × B) → IsPair fits spelling fits' spelling' x → length (pair_spelling spelling spelling' x) < 2 ^ 32
short_pair fits spelling fits' spelling' x h = h.short

pub alone_optional : {V : Type 0} (fits : V → Type 0) (spelling : V → List ℕ) → Alone fits spelling → Alone (IsOptional fits spelling) (optional_spelling spelling)
alone_optional fits spelling alone None None a b hx hy e = refl
alone_optional fits spelling alone None (Some y) a b hx hy e = absurd cc
alone_optional fits spelling alone (Some x) None a b hx hy e = absurd cc
alone_optional fits spelling alone (Some x) (Some y) a b hx hy e =
    let rest : spelling x ++ a ≡ spelling y ++ b = cc in
    ap (λ v. Some v) (alone x y a b hx.held hy.held rest)

pub short_optional : {V : Type 0} (fits : V → Type 0) (spelling : V → List ℕ) (x : Option V) → IsOptional fits spelling x → length (optional_spelling spelling x) < 2 ^ 32
short_optional fits spelling x h = h.short
