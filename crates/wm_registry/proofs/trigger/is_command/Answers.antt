use Rattle.std.proofs.Common.{sym, ◌∙◌, arith}
use Rattle.wm_registry.proofs.Words.{is_command_where}
use Rattle.wm_registry.proofs.trigger.is_command.Goals as goal

pub returns-then-words-le16 : goal.returns-then-words-le16
returns-then-words-le16 c =
    c.are_short.ensures ∙ is_command_where (λ w. w.now) c.args.words.now _ (omega arith) (sym c.is_empty.ensures ∙ c.if-words-le16.true.0) c.if-words-le16.true.1
