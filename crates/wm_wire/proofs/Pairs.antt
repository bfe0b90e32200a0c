-- What is no pair, once its first value has been read.
use Rattle.std.proofs.Common.{◌≡◌, ℕ, ◌^◌, ◌≤◌, List, ◌++◌, length, drop, sym, ap, ◌∙◌, append_assoc, arith}
use Rattle.wm_wire.specs.PairLaws.{SamePrefix, same_prefix}
use Rattle.wm_wire.specs.Spelling.{Alone, BeginsWith, NoneBegins, IsPair, pair_spelling}

-- the first of each pair that begins the bytes is the one that was read
first_is : {A B : Type 0} (fits : A → Type 0) (spelling : A → List ℕ) (fits' : B → Type 0) (spelling' : B → List ℕ) → Alone fits spelling → (bytes : List ℕ) (first : A) (size : ℕ) (pair : A × B) (rest : List ℕ) → BeginsWith fits spelling bytes first size → IsPair fits spelling fits' spelling' pair → bytes ≡ pair_spelling spelling spelling' pair ++ rest → SamePrefix first pair.0 (drop size bytes) (spelling' pair.1 ++ rest)
first_is fits spelling fits' spelling' alone bytes first size pair rest begins h e =
    same_prefix fits spelling alone first pair.0 (drop size bytes) (spelling' pair.1 ++ rest) begins.known h.first (sym begins.parts ∙ e ∙ append_assoc (spelling pair.0) (spelling' pair.1) rest)

-- where no second follows the first, no pair begins the bytes
pub no_second : {A B : Type 0} (fits : A → Type 0) (spelling : A → List ℕ) (fits' : B → Type 0) (spelling' : B → List ℕ) → Alone fits spelling → (bytes : List ℕ) (first : A) (size : ℕ) → BeginsWith fits spelling bytes first size → NoneBegins fits' spelling' (drop size bytes) → NoneBegins (IsPair fits spelling fits' spelling') (pair_spelling spelling spelling') bytes
no_second fits spelling fits' spelling' alone bytes first size begins none pair rest h e =
    none pair.1 rest h.second (first_is fits spelling fits' spelling' alone bytes first size pair rest begins h e).rest

-- nor where the two that follow each other are too long for a pair
pub pair_too_long : {A B : Type 0} (fits : A → Type 0) (spelling : A → List ℕ) (fits' : B → Type 0) (spelling' : B → List ℕ) → Alone fits spelling → Alone fits' spelling' → (bytes : List ℕ) (first : A) (size : ℕ) (second : B) (size' : ℕ) → BeginsWith fits spelling bytes first size → BeginsWith fits' spelling' (drop size bytes) second size' → 2 ^ 32 ≤ length (pair_spelling spelling spelling' (first, second)) → NoneBegins (IsPair fits spelling fits' spelling') (pair_spelling spelling spelling') bytes
pair_too_long fits spelling fits' spelling' alone alone' bytes first size second size' begins begins' long pair rest h e =
    let same = first_is fits spelling fits' spelling' alone bytes first size pair rest begins h e in
    let same' = same_prefix fits' spelling' alone' second pair.1 (drop size' (drop size bytes)) rest begins'.known h.second (sym begins'.parts ∙ same.rest) in
    omega (arith, long, h.short, ap (λ v. length (spelling v ++ spelling' second)) same.value, ap (λ v. length (spelling pair.0 ++ spelling' v)) same'.value)
