-- The roots that a session has subscriptions on, as the bits of its slot's wake flag.
use Rattle.std.specs.Prelude.{◌≡◌, ℕ, ◌%◌, ◌^◌, bit_or, List, [], ◌∷◌, Option, None, Some, MatchOption}
use Rattle.wm_subs.specs.declared.subscribed.Subscribed.{Subscribed}
use Rattle.wm_workers.specs.WatchedRoots.{MayHaveHad, MayHaveLacked}

-- beside these bits that of the root of a number, if it has one
abbrev pub with_bit : ℕ → Option ℕ → ℕ
with_bit roots None = roots
with_bit roots (Some number) = bit_or roots (2 ^ (number % 64))

-- beside the first bits come just those of the roots of the subscriptions, each by the number that it may have had; a root that may have been lacking has none
abbrev pub AddsBitsOf : {T : Type 0} → ℕ → List (Subscribed T) → ℕ → Type 0
AddsBitsOf roots [] all = all ≡ roots
AddsBitsOf roots (one ∷ rest) all = (number : Option ℕ) × MatchOption number (MayHaveLacked one.root) (MayHaveHad one.root) × AddsBitsOf (with_bit roots number) rest all
