use Rattle.std.specs.Prelude.{length}
use Rattle.wm_client.proofs.negative.+negative_said.Given as goal

abbrev pub decreases-negative_said : goal.decreases-negative_said
decreases-negative_said l = length l.words.now
