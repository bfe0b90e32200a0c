use Rattle.wm_file.specs.FileEvents.{point_after}
use Rattle.wm_file.specs.FileLaws.{file_write_follows, failed_write_follows}
use Rattle.wm_file.proofs.file.FileDiskDisk.write_at.Goals as goal

pub returns-in-Ok-clause-crash : goal.returns-in-Ok-clause-crash
returns-in-Ok-clause-crash g c = rw c.in-Ok.ensures.noted λ h. file_write_follows (point_after g.S.Start.content c.args.self.now.file.log.events) c.args.at c.args.bytes.now (c.requires h.0)

pub returns-in-Err-clause-crash : goal.returns-in-Err-clause-crash
returns-in-Err-clause-crash g c = rw c.in-Err.ensures.noted λ h. failed_write_follows (point_after g.S.Start.content c.args.self.now.file.log.events) c.args.at c.args.bytes.now
