use Rattle.wm_crawler.proofs.Levels.{top_in}
use Rattle.wm_crawler.proofs.crawling.read_top.Goals as goal

pub returns-clause-inside : goal.returns-clause-inside
returns-clause-inside g c = top_in c.args.top.now c.new.result.items c.read_folder.new.level.paths.items c.in_ok-read_folder.ensures.from.0 c.new.ensures.items c.in_ok-read_folder.ensures.from.1
