use Rattle.std.proofs.Common.{◌∙◌, ◌<◌, take, drop, ◌+◌, length, get_or, ap, sym, subst, refl, rules}
use Rattle.std.specs.List.{remove}
use Rattle.wm_workers.specs.WatchedRoots.{RiseFrom, has_path}
use Rattle.wm_workers.proofs.Parting.{parted_at, removed}
use Rattle.wm_workers.proofs.Rising.{rise_without}
use Rattle.wm_workers.proofs.roots.table.RootTable.take.Goals as goal

pub invariant_of-self : goal.invariant_of-self
invariant_of-self g c =
    let place = c.in_ok-place.place in
    let roots = c.self.inside.roots.items in
    let lt = subst (λ l. place < length l) (sym (ap (λ w. w.roots) c.self.view_is)) c.in_ok-place.ensures.0 in
    let whole = parted_at roots roots place c.remove.result refl lt c.remove.ensures.value in (
      search rules,
      subst (λ xs. RiseFrom 0 xs c.self.inside.next) (sym (c.remove.ensures.items ∙ removed roots place))
          (rise_without 0 (take place roots) c.remove.result (drop (place + 1) roots) c.self.inside.next (subst (λ xs. RiseFrom 0 xs c.self.inside.next) whole c.self.invariant.1)),
    )

pub returns : goal.returns
returns g c =
    let same = ap (λ w. w.roots) c.self.view_is in
    let place = c.in_ok-place.place in (
      (
        take place c.args.self.now.roots,
        drop (place + 1) c.args.self.now.roots,
        parted_at c.args.self.now.roots c.self.inside.roots.items place c.remove.result same
            (subst (λ l. place < length l) (sym same) c.in_ok-place.ensures.0) c.remove.ensures.value,
        c.in_ok-place.ensures.1,
        ap (has_path c.args.path.now) (c.remove.ensures.value ∙ ap (λ l. get_or l place c.remove.result) same) ∙ c.in_ok-place.ensures.2 c.remove.result,
        c.remove.ensures.items ∙ ap (λ l. remove l place) same ∙ removed c.args.self.now.roots place,
      ),
      ap (λ w. w.next) c.self.view_is,
    )
