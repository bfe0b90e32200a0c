use Rattle.std.proofs.Common.{◌≡◌, Option, refl, subst, sym}
use Rattle.std.specs.Prelude.{IfSome, is_some}
use Rattle.serde_json.specs.View.{view}
use Rattle.wm_commands.specs.CommandAnswers.{IsAnswer, is_answer}
use Rattle.wm_commands.specs.declared.answers.Answer.{Answer}
use Rattle.wm_commands.proofs.showing.answered.Goals as goal

pub returns-in_ok-text-in-Some : goal.returns-in_ok-text-in-Some
returns-in_ok-text-in-Some c =
    let is = subst (λ (r : Option Answer). IfSome r (IsAnswer (view c.args.reply.now))) c.in-Some.is c.in_ok-answer.ensures.answer in
    let found = subst (λ (r : Option Answer). is_some r ≡ is_answer (view c.args.reply.now)) c.in-Some.is c.in_ok-answer.ensures.found in
    rw (sym found) (c.in-Some.answer, is, refl, c.in_ok-text-in-Some.ensures)
