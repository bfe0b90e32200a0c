use Rattle.std.proofs.Common.{arith}
use Rattle.wm_registry.proofs.Words.{word_fits}
use Rattle.wm_registry.proofs.trigger.read_words.Goals as goal

pub new-requires : goal.new-requires
new-requires c = (omega arith, word_fits (λ w. w.now) c.args.words.now c.loop-word.word-index _ c.requires c.loop-word-test.true)
