-- For private clauses: the bytes of a name's text, and the number that they begin with.
use Rattle.std.specs.Prelude.{◌≡◌, ◌<◌, ℕ, zero, suc, ◌+◌, ◌*◌, List, [], ◌∷◌, slice_index, string_bytes}
use Rattle.wm_crawler.specs.declared.name.NameText.{NameText}
use Rattle.wm_crawler.specs.declared.name.NameText.TheVariants.{Short, Long}

abbrev pub name_bytes : NameText → List ℕ
name_bytes (Short text) = text.bytes
name_bytes (Long text) = string_bytes text

-- the number that n bytes spell behind a, the greatest first; zeros stand behind the last of fewer
abbrev pub spelt : ℕ → ℕ → List ℕ → ℕ
spelt a zero bytes = a
spelt a (suc n) [] = spelt (a * 256) n []
spelt a (suc n) (b ∷ bs) = spelt (a * 256 + b) n bs

-- that of the first 16
abbrev pub front_number : List ℕ → ℕ
front_number bytes = spelt 0 16 bytes

-- the number is that of the bytes, each of which is below 256
abbrev pub IsFront : ℕ → List ℕ → Type 0
IsFront front bytes = (front ≡ front_number bytes) × ((i : ℕ) → slice_index bytes i < 256)
