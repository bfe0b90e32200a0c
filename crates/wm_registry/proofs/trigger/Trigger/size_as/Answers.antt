use Rattle.wm_registry.proofs.Placed.{small_sizes}
use Rattle.wm_registry.proofs.trigger.Trigger.size_as.Goals as goal

pub returns-clause-short : goal.returns-clause-short
returns-clause-short c =
    small_sizes c.args.version _ _ _ _ _ _ _ _ c.size.ensures.fits c.size-2.ensures.fits c.size-3.ensures.fits c.size.ensures.exact c.size-2.ensures.exact c.size-3.ensures.exact c.ending_size-end.ensures.exact
