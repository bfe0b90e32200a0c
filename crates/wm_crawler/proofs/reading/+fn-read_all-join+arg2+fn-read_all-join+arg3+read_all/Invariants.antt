use Rattle.std.proofs.Common.{◌+◌, ◌*◌}
use Rattle.wm_crawler.proofs.reading.+fn-read_all-join+arg2+fn-read_all-join+arg3+read_all.Given as goal

abbrev pub decreases-join+arg2 : goal.decreases-join+arg2
decreases-join+arg2 g l = 2 * l.half + 1

abbrev pub decreases-join+arg3 : goal.decreases-join+arg3
decreases-join+arg3 g l = 2 * l.rest + 1

abbrev pub decreases-read_all : goal.decreases-read_all
decreases-read_all g l = 2 * l.workers
