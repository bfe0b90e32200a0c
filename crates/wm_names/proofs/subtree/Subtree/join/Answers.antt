use Rattle.std.proofs.Common.{◌≡◌, ◌==◌, ◌↔◌, not, Bool, false, ap, sym, subst, ◌∙◌, List, ℕ}
use Rattle.std.specs.List.{list_all}
use Rattle.std.specs.Prelude.{IsErrOf}
use Rattle.wm_disk.specs.declared.refusal.Refusal.TheVariants.{BadPath}
use Rattle.wm_names.specs.Entries.{is_fit}
use Rattle.wm_names.specs.declared.subtree.Subtree.{Subtree}
use Rattle.wm_names.proofs.Joins.{fit_whole}
use Rattle.wm_names.proofs.subtree.Subtree.join.Goals as goal

pub returns-then-is_free_of-clause-refused : goal.returns-then-is_free_of-clause-refused
returns-then-is_free_of-clause-refused c =
    subst (λ (b : Bool). IsErrOf c.read.result BadPath ↔ (b ≡ false))
    (fit_whole c.args.name.now (ap (λ (name : List ℕ). list_all (λ b. not (b == 47)) name) (sym c.as_bytes.ensures.value) ∙ sym c.is_free_of.ensures ∙ c.if-is_free_of.true) ∙ ap (λ (part : Subtree). is_fit part c.args.name.now) (sym c.in-Whole.is))
    c.read.ensures.refused
