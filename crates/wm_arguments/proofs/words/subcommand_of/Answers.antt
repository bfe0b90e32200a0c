use Rattle.std.proofs.Common.{◌≡◌, Option, None, Some, ap, ap₂, is_some, refl, sym, true≢false, option_map}
use Rattle.std.specs.Prelude.{unwrap_or}
use Rattle.wm_arguments.proofs.words.subcommand_of.Goals as goal

some_same : {X : Type 0} (x y : X) → Some x ≡ Some y → x ≡ y
some_same x y same = ap (λ o. unwrap_or o x) same

some≢none : {X : Type 0} (x : X) → Some x ≡ None → ⊥
some≢none x same = true≢false (ap is_some same)

-- what maps to the same by each of two functions maps to the same by both
both : {X Y Z W : Type 0} (f : X → Y) (g : X → Z) (k : W → Y) (l : W → Z) (r : Option X) (o : Option W) → option_map f r ≡ option_map k o
    → option_map g r ≡ option_map (λ (p : Y × Z). p.1) (option_map {U = Y × Z} (λ w. (k w, l w)) o)
    → option_map {U = Y × Z} (λ x. (f x, g x)) r ≡ option_map {U = Y × Z} (λ w. (k w, l w)) o
both f g k l None None first second = refl
both f g k l None (Some w) first second = absurd (some≢none (k w) (sym first))
both f g k l (Some x) None first second = absurd (some≢none (f x) first)
both f g k l (Some x) (Some w) first second = ap₂ (λ a b. Some (a, b)) (some_same _ _ first) (some_same _ _ second)

pub returns : goal.returns
returns c = both _ _ _ _ c.subcommand.result _ c.subcommand.ensures.name c.subcommand.ensures.rows
