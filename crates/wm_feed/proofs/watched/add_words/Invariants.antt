use Rattle.std.proofs.Common.{◌≡◌, map, take}
use Rattle.wm_feed.specs.Watched.{with_words}
use Rattle.wm_feed.proofs.watched.add_words.Given as goal

abbrev pub invariant-loop-word : goal.invariant-loop-word
invariant-loop-word l = l.watched.keys ≡ with_words (map (λ word. word.now) (take l.word-index l.words)) l.initial.watched.keys
