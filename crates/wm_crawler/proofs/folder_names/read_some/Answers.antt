use Rattle.std.proofs.Common.{take}
use Rattle.wm_crawler.proofs.FolderLists.{part_read}
use Rattle.wm_crawler.proofs.folder_names.read_some.Goals as goal

pub returns-in_ok-add_names-in-Ok-clause-read : goal.returns-in_ok-add_names-in-Ok-clause-read
returns-in_ok-add_names-in-Ok-clause-read g c s =
    part_read (take c.in-Ok.n c.read_names.new.buffer) (g.N.NameReader.left c.args.names.now) (g.N.NameReader.left c.read_names.new.self) c.args.dir.now c.add_names.new.dir
    (c.in-Ok.ensures.given s).0 c.in_ok-add_names-in-Ok.ensures
