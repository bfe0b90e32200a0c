use Rattle.std.proofs.Common.{◌≡◌, ℕ, Option, Some, None, sym, ◌∙◌, refl}
use Rattle.std.proofs.lemmas.Result.{on_ok_weaker}
use Rattle.wm_world.proofs.Calls.{operate_none, operate_some}
use Rattle.wm_world.proofs.world.World.perform.Goals as goal

none_of : (o : Option ℕ) → ((n : ℕ) → o ≡ Some n → ⊥) → o ≡ None
none_of None f = refl
none_of (Some n) f = absurd (f n refl)

pub returns-in_default : goal.returns-in_default
returns-in_default g c = operate_none g.D.Disk g.met.D.Disk.only_now c.every_registry.ensures.in_version_2 c.args.self.now c.args.path.now c.args.op.now (sym c.number_at.ensures ∙ none_of c.number_at.result c.in_default.not-Some)

pub returns : goal.returns
returns g c =
    let old = c.args.self.now in
    on_ok_weaker c.perform.result
    (λ e. operate_some g.D.Disk g.met.D.Disk.only_now c.every_registry.ensures.in_version_2 c.every_operation.ensures.a_function old _ c.args.path.now c.args.op.now c.in-Some.number (sym c.number_at.ensures ∙ c.in-Some.is) refl refl refl e)
    c.perform.ensures
