use Rattle.std.proofs.Common.{◌≡◌, IfOk, length, arith, subst}
use Rattle.std.specs.BTreeSet as set
use Rattle.std.specs.Vec.Iter.{into_iter_len}
use Rattle.std.proofs.lemmas.Iterator.Adapters.{YieldsList-from_vec, fact_from_collect}
use Rattle.wm_view.specs.KnownPaths.{place_cmp}
use Rattle.wm_view.proofs.known_paths.first.set_of.Goals as goal

pub returns : goal.returns
returns c =
    let places = c.args.places.items in
    let len : into_iter_len c.into_iter.result ≡ length places = omega (arith, c.into_iter.ensures.len, c.args.places.ok) in
    subst (λ r. IfOk r (set.IsFromIterResult place_cmp places)) c.in_ok-set.was
    (fact_from_collect (set.IsFromIterResult place_cmp) c.collect.result c.collect.ensures.ran (YieldsList-from_vec places c.into_iter.ensures.rest len))
