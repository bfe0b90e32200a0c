use Rattle.std.proofs.Common.{◌∙◌, ◌<◌, ◌++◌, ◌∷◌, Some, take, drop, ◌+◌, length, get_or, ap, sym, subst, refl, rules}
use Rattle.wm_workers.specs.WatchedRoots.{RiseFrom, lacks_root}
use Rattle.wm_workers.proofs.Parting.{parted_at, replaced}
use Rattle.wm_workers.proofs.Rising.{rise_with}
use Rattle.wm_workers.proofs.roots.table.RootTable.fill.Goals as goal

pub invariant_of-self : goal.invariant_of-self
invariant_of-self g c =
    let place = c.in-Some.place in
    let roots = c.self.inside.roots.items in
    let old = c.index_mut.result.now in
    let new = record old { watched = Some c.args.watched } in
    let lt = subst (λ l. place < length l) (sym (ap (λ w. w.roots) c.self.view_is)) c.in-Some.ensures.0 in
    let whole = parted_at roots roots place old refl lt c.index_mut.ensures.value in (
      search rules,
      subst (λ xs. RiseFrom 0 xs c.self.inside.next) (sym (replaced roots place new lt))
          (rise_with 0 (take place roots) old new (drop (place + 1) roots) c.self.inside.next refl (subst (λ xs. RiseFrom 0 xs c.self.inside.next) whole c.self.invariant.1)),
    )

pub returns : goal.returns
returns g c =
    let place = c.in-Some.place in
    let roots = c.self.inside.roots.items in
    let all = c.args.self.now.roots in
    let old = c.index_mut.result.now in
    let new = record old { watched = Some c.args.watched } in
    let same = ap (λ w. w.roots) c.self.view_is in
    let found = c.in-Some.ensures in
    let lt = subst (λ l. place < length l) (sym same) found.0 in (
      old,
      (
        take place all,
        drop (place + 1) all,
        parted_at all roots place old same lt c.index_mut.ensures.value,
        found.1,
        ap (lacks_root c.args.number) (c.index_mut.ensures.value ∙ ap (λ l. get_or l place old) same) ∙ found.2 old,
        replaced roots place new lt ∙ ap (λ l. take place l ++ new ∷ drop (place + 1) l) same,
      ),
      ap (λ w. w.next) c.self.view_is,
    )
