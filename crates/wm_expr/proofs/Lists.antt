-- Tests over lists.
use Rattle.std.proofs.Common.{◌≡◌, Bool, List, [], ◌∷◌, map, refl, ap}
use Rattle.std.specs.Prelude.{◌||◌}
use Rattle.std.specs.List.{list_any}

pub any_of_images : {X Y : Type 0} (f : Y → Bool) (g : X → Y) (xs : List X) → list_any f (map g xs) ≡ list_any (λ x. f (g x)) xs
any_of_images f g [] = refl
any_of_images f g (x ∷ xs) = ap (λ (b : Bool). f (g x) || b) (any_of_images f g xs)
