use Rattle.std.proofs.Common.{◌+◌, ◌*◌}
use Rattle.wm_crawler.proofs.telling.+fn-meta_all-join+arg2+fn-meta_all-join+arg3+meta_all.Given as goal

abbrev pub decreases-join+arg2 : goal.decreases-join+arg2
decreases-join+arg2 g l = 2 * l.half + 1

abbrev pub decreases-join+arg3 : goal.decreases-join+arg3
decreases-join+arg3 g l = 2 * l.rest + 1

abbrev pub decreases-meta_all : goal.decreases-meta_all
decreases-meta_all g l = 2 * l.workers
