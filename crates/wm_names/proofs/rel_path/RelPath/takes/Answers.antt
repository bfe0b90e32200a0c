use Rattle.std.proofs.Common.{◌==◌, not, ◌&&◌, ap, sym, ◌∙◌, length, List, ℕ, arith}
use Rattle.std.specs.List.{list_all}
use Rattle.wm_names.specs.Paths.{is_component}
use Rattle.wm_names.proofs.Joins.{fit_below}
use Rattle.wm_names.proofs.rel_path.RelPath.takes.Goals as goal

pub returns-then-folder-name-lt-MAX_REL_PATH-clause-fit : goal.returns-then-folder-name-lt-MAX_REL_PATH-clause-fit
returns-then-folder-name-lt-MAX_REL_PATH-clause-fit c =
    c.is_one_component.ensures
    ∙ ap (λ (name : List ℕ). list_all (λ b. not (b == 47)) name && is_component name) c.as_bytes.ensures.value
    ∙ sym (fit_below c.args.self.now c.args.name.now c.as_str-folder.ensures.rules (omega (arith, c.if-folder-name-lt-MAX_REL_PATH.true, ap length c.as_str-folder.ensures.value)))
