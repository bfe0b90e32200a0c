use Rattle.std.proofs.Common.{◌≡◌, map, take}
use Rattle.wm_registry.proofs.trigger.read_words.Given as goal

abbrev pub invariant-loop-word : goal.invariant-loop-word
invariant-loop-word l = l.list ≡ map (λ w. w.now) (take l.word-index l.words)
