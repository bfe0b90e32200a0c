use Rattle.std.proofs.Common.{◌≡◌, ◌==◌, ℕ, Bool, true, false, not, ◌&&◌, ◌||◌, nat_eq, List, [], ◌∷◌, refl, ap, ◌∙◌}
use Rattle.std.specs.List.{list_all, list_any}
use Rattle.wm_names.proofs.components.is_free_of.Goals as goal

neither : (a b : Bool) → not (a || b) ≡ (not a && not b)
neither true b = refl
neither false b = refl

holds_none : (x : ℕ) (bytes : List ℕ) → not (list_any (λ b. nat_eq b x) bytes) ≡ list_all (λ b. not (b == x)) bytes
holds_none x [] = refl
holds_none x (b ∷ bytes) = neither (nat_eq b x) (list_any (λ y. nat_eq y x) bytes) ∙ ap (λ r. not (nat_eq b x) && r) (holds_none x bytes)

pub returns : goal.returns
returns c = ap not c.contains.ensures.value ∙ holds_none c.args.byte c.args.text.now
