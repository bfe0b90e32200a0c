use Rattle.std.proofs.Common.{◌∙◌, ap, sym, subst}
use Rattle.wm_root.specs.ReadingSeen.{IsReadingSeen}
use Rattle.wm_root.proofs.Operating.{reading_seen}
use Rattle.wm_root.proofs.watched_root.WatchedRoot.take_in.Goals as goal

-- it is seen as the root under its lock made of it
pub returns-clause-seen : goal.returns-clause-seen
returns-clause-seen g c =
    let done = c.take_in-performed in
    subst (λ ended. IsReadingSeen (g.S.Seconds.may_read c.args.seconds.now) c.args.found c.notify.result.1.is_published ended) (sym (c.notify.ensures.0 ∙ ap (λ kept. kept.ended) c.keep-kept.ensures.ended))
    (subst (λ is_published. IsReadingSeen (g.S.Seconds.may_read c.args.seconds.now) c.args.found is_published done.result.ended) (sym (ap (λ changed. changed.is_published) c.notify.ensures.1 ∙ ap (λ kept. kept.is_published) c.keep-kept.ensures.ended))
    (reading_seen (g.S.Seconds.may_read c.args.seconds.now) c.second.result c.args.found done.new.self.keeper.published done.result.is_published done.result.ended c.second.ensures done.ensures.ended))
