use Rattle.std.proofs.Common.{◌≡◌, ◌≤◌, ◌∙◌, false, inr, length, refl, subst, sym, arith, List}
use Rattle.std.specs.List.{All}
use Rattle.std.proofs.lemmas.List.{take_all}
use Rattle.wm_names.specs.Paths.{Path}
use Rattle.wm_commands.specs.Folders.{names_root}
use Rattle.wm_commands.proofs.Listed.{none_next}
use Rattle.wm_commands.proofs.folders.named_root.Goals as goal

pub loop-root-preserved : goal.loop-root-preserved
loop-root-preserved c = none_next c.args.roots.now c.loop-root.root-index c.root-item.result c.args.path.now c.loop-root-test.true c.root-item.is (sym c.names.ensures ∙ c.if-names.false) c.loop-root.invariant

pub returns : goal.returns
returns c =
    let end : length c.args.roots.now ≤ c.loop-root.root-index = grind (arith, c.loop-root-test.false) in
    let whole = take_all c.loop-root.root-index c.args.roots.now end in
    inr (subst (λ (some : List Path). All (λ one. names_root one c.args.path.now ≡ false) some) whole c.loop-root.invariant, refl)
