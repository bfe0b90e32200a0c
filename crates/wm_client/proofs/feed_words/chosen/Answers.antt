use Rattle.std.proofs.lemmas.Result.{IfOk-weaker}
use Rattle.wm_client.proofs.feed_words.chosen.Goals as goal

pub returns : goal.returns
returns c = IfOk-weaker c.told.result _ _ (λ r tells. rw (c.word_of.ensures, c.word_of-2.ensures, c.word_of-3.ensures) at tells) c.told.ensures
