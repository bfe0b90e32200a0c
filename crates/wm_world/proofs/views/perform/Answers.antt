use Rattle.std.proofs.Common.{position, set, sym, subst, ap, ◌∙◌}
use Rattle.std.specs.Prelude.{IfErr, ◌≢◌}
use Rattle.std.proofs.lemmas.Result.{on_ok_weaker}
use Rattle.wm_disk.specs.declared.refusal.Refusal.TheVariants.{NoMemory}
use Rattle.wm_view.specs.Steps.{step}
use Rattle.wm_view.specs.Summaries.{Summary}
use Rattle.wm_world.specs.Refinement.{is_root}
use Rattle.wm_world.proofs.Places.{placed, unplaced}
use Rattle.wm_world.proofs.Refining.{moved_step}
use Rattle.wm_world.proofs.views.perform.Goals as goal

pub returns-in_default : goal.returns-in_default
returns-in_default c = sym (unplaced (is_root c.args.number) (λ s. step s c.args.op.now) c.args.views.now.items (ap (λ vs. position (is_root c.args.number) vs) (sym c.deref.ensures.value) ∙ sym c.place_of.ensures ∙ c.in_default.is))

pub returns-in-Ok : goal.returns-in-Ok
returns-in-Ok c =
    let views = c.args.views.now.items in
    let place = c.in-Some.place in
    let old : Summary = c.index_mut.result.now in
    let fine : IfErr c.perform.result (λ e. e ≢ NoMemory) = subst (λ r. IfErr r (λ e. e ≢ NoMemory)) (sym c.in-Ok.is) tt in
    ap (λ v. set views place v) (moved_step old c.perform.new.self c.args.op.now c.perform.result c.perform.ensures.by_step fine)
    ∙ sym (placed (is_root c.args.number) (λ s. step s c.args.op.now) views place old (ap (λ vs. position (is_root c.args.number) vs) (sym c.deref.ensures.value) ∙ sym c.place_of.ensures ∙ c.in-Some.is) c.index_mut.ensures.value)

pub returns-in-Err : goal.returns-in-Err
returns-in-Err c =
    let views = c.args.views.now.items in
    let place = c.in-Some.place in
    let old : Summary = c.index_mut.result.now in
    on_ok_weaker c.unless_memory.result
    (λ other. let fine : IfErr c.perform.result (λ e. e ≢ NoMemory) = subst (λ r. IfErr r (λ e. e ≢ NoMemory)) (sym c.in-Err.is) other in
    ap (λ v. set views place v) (moved_step old c.perform.new.self c.args.op.now c.perform.result c.perform.ensures.by_step fine)
    ∙ sym (placed (is_root c.args.number) (λ s. step s c.args.op.now) views place old (ap (λ vs. position (is_root c.args.number) vs) (sym c.deref.ensures.value) ∙ sym c.place_of.ensures ∙ c.in-Some.is) c.index_mut.ensures.value))
    c.unless_memory.ensures
