use Rattle.std.proofs.Common.{◌+◌, sym, subst, Option}
use Rattle.std.specs.Prelude.{option_map, take}
use Rattle.wm_names.specs.Paths.{Path}
use Rattle.wm_commands.specs.Folders.{IsHolderOf}
use Rattle.wm_commands.proofs.Holders.{better_next}
use Rattle.wm_commands.proofs.folders.holder_of.Goals as goal

pub loop-root-preserved : goal.loop-root-preserved
loop-root-preserved c = subst (λ (best : Option Path). IsHolderOf (take (c.loop-root.root-index + 1) c.args.roots.now) c.args.dir.now best) (sym c.better-best.ensures)
    (better_next c.args.roots.now c.loop-root.root-index c.args.dir.now c.root-item.result (option_map (λ r. r.now) c.loop-root.best) c.loop-root-test.true c.root-item.is c.loop-root.invariant)
