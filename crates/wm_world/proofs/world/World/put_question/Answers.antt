use Rattle.std.proofs.Common.{◌∙◌, refl, arith}
use Rattle.std.proofs.lemmas.Result.{on_ok_weaker}
use Rattle.wm_world.specs.Refinement.{asking_by}
use Rattle.wm_world.specs.Steps.{asking, with_client}
use Rattle.wm_world.proofs.Calls.{ask_none, ask_one, while_down}
use Rattle.wm_world.proofs.world.World.put_question.Goals as goal

pub returns-in_default : goal.returns-in_default
returns-in_default g c = while_down g.D.Disk g.met.D.Disk.only_now c.every_registry.ensures.in_version_2 c.args.self.now (λ w. with_client (asking w) c.args.n w) c.in_default.not-Up

pub returns-then-n-len : goal.returns-then-n-len
returns-then-n-len g c = ask_none g.D.Disk g.met.D.Disk.only_now c.every_registry.ensures.in_version_2 c.args.self.now c.args.n (omega (arith, c.if-n-len.true, c.len.ensures, c.args.self.now.shown.clients.ok))

pub returns : goal.returns
returns g c =
    on_ok_weaker c.ask.result
    (λ e. ask_one g.D.Disk g.met.D.Disk.only_now c.every_registry.ensures.in_version_2 c.every_answer.ensures c.args.self.now _ c.args.n c.ask.new.client c.index_mut.result.now c.in-Up.store _ c.in-Up.is refl refl refl (omega (arith, c.if-n-len.false, c.len.ensures)) refl c.index_mut.ensures.value
    (e ∙ (λ i. asking_by (c.registry.ensures.value i) (c.deref.ensures.value i) c.index_mut.result.now)))
    c.ask.ensures
