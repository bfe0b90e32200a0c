use Rattle.std.proofs.Common.{◌≤◌, ◌+◌, ap, sym, subst, rules}
use Rattle.wm_workers.specs.WatchedRoots.{RiseFrom}
use Rattle.wm_workers.proofs.Rising.{put_above, rise_on}
use Rattle.wm_workers.proofs.roots.table.RootTable.put.Goals as goal

pub invariant_of-self : goal.invariant_of-self
invariant_of-self g c =
    let above = put_above c.args.root.number c.args.self.now c.requires in (
      search rules,
      subst (λ xs. RiseFrom 0 xs (c.args.root.number + 1)) (sym c.push_reserved.ensures.items)
          (rise_on 0 c.self.inside.roots.items c.self.inside.next c.args.root c.self.invariant.1 (subst (λ n. n ≤ c.args.root.number) (sym (ap (λ w. w.next) c.self.view_is)) above)),
    )
