use Rattle.std.proofs.Common.{take}
use Rattle.std.specs.Prelude.{option_map}
use Rattle.wm_commands.specs.Folders.{IsHolderOf}
use Rattle.wm_commands.proofs.folders.holder_of.Given as goal

abbrev pub invariant-loop-root : goal.invariant-loop-root
invariant-loop-root l = IsHolderOf (take l.root-index l.roots) l.dir (option_map (λ r. r.now) l.best)
