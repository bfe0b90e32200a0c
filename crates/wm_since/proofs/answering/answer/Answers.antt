use Rattle.std.proofs.Common.{rules}
use Rattle.wm_since.specs.Answers.{question}
use Rattle.wm_since.proofs.Agree.{by_summary}
use Rattle.wm_since.proofs.answering.answer.Goals as goal

pub returns-clause-histories : goal.returns-clause-histories
returns-clause-histories g c = λ h made same. by_summary c.every_answer.ensures (g.T.Test.passes c.args.query.now.test) h c.args.view.now (question c.args.query.now) _ (search rules) made same
