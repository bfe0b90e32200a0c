-- An area of a larger content.
use Rattle.std.specs.Prelude.{◌≡◌, ℕ, ◌+◌, List, length, take, drop}

-- the bytes of an area of this length from this place on
abbrev pub area : ℕ → ℕ → List ℕ → List ℕ
area offset len content = take len (drop offset content)

-- new is old outside the area
pub record SameOutside (offset len : ℕ) (old new : List ℕ) : Type 0 where
  pub before : take offset new ≡ take offset old
  pub behind : drop (offset + len) new ≡ drop (offset + len) old
  pub size : length new ≡ length old
