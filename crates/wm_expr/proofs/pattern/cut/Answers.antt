use Rattle.std.proofs.Common.{◌∷◌, ◌+◌, ℕ, List, sym, ap, ◌∙◌, take}
use Rattle.std.specs.Prelude.{◌==◌}
use Rattle.std.proofs.lemmas.List.{take_rest}
use Rattle.wm_names.specs.Paths.{components}
use Rattle.wm_expr.proofs.Cuts.{cut_at, uncut}
use Rattle.wm_expr.proofs.pattern.cut.Goals as goal

pub returns-in-Some : goal.returns-in-Some
returns-in-Some c =
    let text = c.args.parts.now in
    let i = c.in-Some.i in
    cut_at (λ b. b == 47) text i (sym c.in-Some.ensures) ∙ ap (λ (rest : List ℕ). take i text ∷ components rest) (sym (take_rest text (i + 1)))

pub returns-in-None : goal.returns-in-None
returns-in-None c = uncut (λ b. b == 47) c.args.parts.now (sym c.in-None.ensures)
