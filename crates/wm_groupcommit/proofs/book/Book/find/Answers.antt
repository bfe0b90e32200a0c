use Rattle.std.proofs.lemmas.Result.{IfOk-weaker}
use Rattle.wm_groupcommit.proofs.Lasting.{some_later}
use Rattle.wm_groupcommit.proofs.book.Book.find.Goals as goal

pub returns-clause-book : goal.returns-clause-book
returns-clause-book g c = λ s. IfOk-weaker c.command.result _ _ (λ r h. some_later c.args.receipt.now c.args.receipt.now.list c.args.self.now.list r s h) c.command.ensures.stands
