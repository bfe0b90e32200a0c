use Rattle.std.proofs.Common.{◌-◌, ◌∷◌, [], ◌++◌, take, drop, subst}
use Rattle.wm_feed.specs.Flows.{StandsNowhere, IsSplitBehind, record_end}
use Rattle.wm_feed.proofs.Cutting.{record_cut}
use Rattle.wm_feed.proofs.flow.Flow.record.Goals as goal

pub returns-in-Some : goal.returns-in-Some
returns-in-Some c =
    let rest = c.rest-rest.result.now in
    let n = c.in-Some.place in
    let found = c.in-Some.ensures in
    (drop n rest, subst (λ bytes. IsSplitBehind record_end bytes (take (n - 1) rest ++ 10 ∷ []) (drop n rest)) c.rest-rest.ensures (record_cut rest n found.0 found.1 found.2))

pub returns-in-None : goal.returns-in-None
returns-in-None c = subst (StandsNowhere record_end) c.rest-rest.ensures c.in-None.ensures
