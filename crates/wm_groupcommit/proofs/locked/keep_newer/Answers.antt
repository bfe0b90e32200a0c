use Rattle.std.proofs.Common.{[], ◌∷◌, ◌++◌, sym, ap, ◌∙◌, arith, length-append}
use Rattle.wm_groupcommit.specs.Counting.{kept_newer, counts_after, counts_with}
use Rattle.wm_groupcommit.proofs.Counted.{newer_of-push, counts_after-push}
use Rattle.wm_groupcommit.proofs.locked.keep_newer.Goals as goal

pub loop-call-preserved : goal.loop-call-preserved
loop-call-preserved c =
    let l = c.loop-call in
    let x = c.in-Some.call in
    let n = c.args.counts.now.items in
    let e = c.keep.ensures in
    record {
      kept = e.kept ∙ ap (λ cs. l.kept.items ++ kept_newer cs x) l.invariant.counts ∙ ap (λ k. k ++ kept_newer (counts_after n l.yielded) x) l.invariant.kept ∙ sym (newer_of-push n l.yielded x);
      counts = e.counts ∙ ap (λ cs. counts_with cs x) l.invariant.counts ∙ sym (counts_after-push n l.yielded x);
      few = omega (arith, e.room.1, l.invariant.few, length-append l.yielded (x ∷ []));
      room = e.room.0 ∙ l.invariant.room;
    }
