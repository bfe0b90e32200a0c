use Rattle.std.proofs.Common.{◌≡◌, take}
use Rattle.wm_triggers.proofs.run.copied_all.Given as goal

abbrev pub invariant-loop-file : goal.invariant-loop-file
invariant-loop-file l = l.copies.items ≡ take l.file-index l.files
