-- The spellings of values, and what reading one means.
use Rattle.std.specs.Prelude.{◌≡◌, ◌≤◌, ◌<◌, ◌^◌, ℕ, List, [], ◌∷◌, ◌++◌, Bool, true, false, length, drop, flat_map, Option, Some, None, IfSome, IsUtf8}
use Rattle.std.specs.List.{AllByRecursion}
use Rattle.byteorder.specs.Endian.{big_bytes}

-- each value of the type
abbrev pub Every : {V : Type 0} → V → Type 0
Every v = Unit {0}

abbrev pub truth : Bool → List ℕ
truth false = 0 ∷ []
truth true = 1 ∷ []

-- the number of bytes, and the bytes
abbrev pub text : List ℕ → List ℕ
text bytes = big_bytes 4 (length bytes) ++ bytes

-- the number of items, and the items one after another
abbrev pub list_spelling : {V : Type 0} → (V → List ℕ) → List V → List ℕ
list_spelling spelling items = big_bytes 4 (length items) ++ flat_map spelling items

-- the first, and the second
abbrev pub pair_spelling : {A B : Type 0} → (A → List ℕ) → (B → List ℕ) → A × B → List ℕ
pair_spelling first second pair = first pair.0 ++ second pair.1

-- 0; or 1, and the value
abbrev pub optional_spelling : {V : Type 0} → (V → List ℕ) → Option V → List ℕ
optional_spelling spelling None = 0 ∷ []
optional_spelling spelling (Some value) = 1 ∷ spelling value

-- a text of at most max bytes, and below 2 ^ 16
pub record IsText (max : ℕ) (bytes : List ℕ) : Type 0 where
  pub short : length bytes ≤ max
  pub below : length bytes < 2 ^ 16
  pub utf8 : IsUtf8 bytes

-- at most max items, and below 2 ^ 16, which fit together in less than 2 ^ 32 bytes
pub record IsList {V : Type 0} (max : ℕ) (fits : V → Type 0) (spelling : V → List ℕ) (items : List V) : Type 0 where
  pub count : length items ≤ max
  pub below : length items < 2 ^ 16
  pub each : AllByRecursion fits items
  pub short : length (list_spelling spelling items) < 2 ^ 32

-- two values that fit together in less than 2 ^ 32 bytes
pub record IsPair {A B : Type 0} (fits : A → Type 0) (spelling : A → List ℕ) (fits' : B → Type 0) (spelling' : B → List ℕ) (pair : A × B) : Type 0 where
  pub first : fits pair.0
  pub second : fits' pair.1
  pub short : length (pair_spelling spelling spelling' pair) < 2 ^ 32

-- no value, or one whose spelling leaves room for a byte below 2 ^ 32
pub record IsOptional {V : Type 0} (fits : V → Type 0) (spelling : V → List ℕ) (value : Option V) : Type 0 where
  pub held : IfSome value fits
  pub short : length (optional_spelling spelling value) < 2 ^ 32

-- the spelling of the value is the first len of the bytes
pub record BeginsWith {V : Type 0} (fits : V → Type 0) (spelling : V → List ℕ) (bytes : List ℕ) (value : V) (len : ℕ) : Type 0 where
  pub known : fits value
  pub parts : bytes ≡ spelling value ++ drop len bytes
  pub whole : len ≡ length (spelling value)

-- no spelling begins another, and no two values share one
abbrev pub Alone : {V : Type 0} → (V → Type 0) → (V → List ℕ) → Type 0
Alone {V} fits spelling = (x y : V) (a b : List ℕ) → fits x → fits y → spelling x ++ a ≡ spelling y ++ b → x ≡ y

-- no prefix of the bytes is a spelling
abbrev pub NoneBegins : {V : Type 0} → (V → Type 0) → (V → List ℕ) → List ℕ → Type 0
NoneBegins {V} fits spelling bytes = (value : V) (rest : List ℕ) → fits value → bytes ≡ spelling value ++ rest → ⊥

abbrev pub Takes : {V : Type 0} → (V → Type 0) → (V → List ℕ) → List ℕ → Option (V × ℕ) → Type 0
Takes fits spelling bytes None = NoneBegins fits spelling bytes
Takes fits spelling bytes (Some found) = BeginsWith fits spelling bytes found.0 found.1
