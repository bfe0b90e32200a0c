use Rattle.std.proofs.Common.{◌≡◌, false, take}
use Rattle.std.specs.Prelude.{All}
use Rattle.wm_commands.specs.Folders.{names_root}
use Rattle.wm_commands.proofs.folders.named_root.Given as goal

abbrev pub invariant-loop-root : goal.invariant-loop-root
invariant-loop-root l = All (λ one. names_root one l.path ≡ false) (take l.root-index l.roots)
