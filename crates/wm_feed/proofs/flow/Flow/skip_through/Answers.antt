use Rattle.std.proofs.Common.{◌≡◌, ◌+◌, take, drop, refl, subst, sym, ap, ◌∙◌}
use Rattle.std.proofs.Math.Seq.{drop-drop}
use Rattle.wm_feed.specs.Flows.{StandsNowhere, IsSplitBehind}
use Rattle.wm_feed.proofs.Cutting.{cut_behind}
use Rattle.wm_feed.proofs.flow.Flow.skip_through.Goals as goal

pub returns-in-Some : goal.returns-in-Some
returns-in-Some c =
    let rest = c.rest.result.now in
    let n = c.in-Some.place in
    let found = c.in-Some.ensures in
    let front = take n rest in
    let left : drop n rest ≡ drop (c.self.inside.taken + n) c.self.inside.bytes.items = ap (drop n) (c.rest.ensures ∙ sym c.self.view_is) ∙ drop-drop n c.self.inside.taken c.self.inside.bytes.items in (
      front,
      subst (λ after. IsSplitBehind c.args.mark.now c.args.self.now front after) left
          (subst (λ bytes. IsSplitBehind c.args.mark.now bytes front (drop n rest)) c.rest.ensures (cut_behind c.args.mark.now rest n found.0 found.1 found.2)),
    )

pub returns-in-None : goal.returns-in-None
returns-in-None c = (subst (StandsNowhere c.args.mark.now) c.rest.ensures c.in-None.ensures, refl)
