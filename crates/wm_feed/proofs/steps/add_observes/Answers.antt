use Rattle.std.proofs.Common.{◌≡◌, ◌==◌, ◌<◌, false, List, [], ◌∷◌, ◌++◌, length, map, ap, ◌∙◌, arith}
use Rattle.std.proofs.lemmas.Bool.{eqb-false}
use Rattle.std.proofs.lemmas.List.{map_push}
use Rattle.wm_names.specs.Paths.{Path}
use Rattle.wm_feed.specs.declared.steps.Step.TheVariants.{Observe}
use Rattle.wm_feed.specs.Steps.{observe, step_in}
use Rattle.wm_feed.proofs.Listing.{flat_more, observe_more, short_more}
use Rattle.wm_feed.proofs.steps.add_observes.Goals as goal

pub loop-rest-preserved : goal.loop-rest-preserved
loop-rest-preserved c =
    let l = c.loop-rest in
    let list : List Path = c.split_at.result.0.now in
    let lists = l.invariant.0 in
    let there : (length l.rest.now == 0) ≡ false = cc (c.is_empty.ensures, c.loop-rest-test.true) in
    let some : 0 < length l.rest.now = omega (arith, eqb-false (length l.rest.now) 0 there) in (
      lists ++ list ∷ [],
      ap (map step_in) c.in_ok-push.ensures.items
          ∙ map_push step_in l.steps.items (Observe c.in_ok-copies.field-0)
          ∙ ap (λ x. map step_in l.steps.items ++ observe x ∷ []) c.in_ok-copies.ensures
          ∙ observe_more (map step_in l.steps.items) (map step_in c.args.steps.now.items) lists list l.invariant.1,
      flat_more lists list l.rest.now c.split_at.result.1.now c.args.paths.now l.invariant.2 c.split_at.ensures.by_index.0,
      short_more lists list l.invariant.3 (omega (arith, c.split_at.ensures.front_len, c.min.ensures)) (omega (arith, c.split_at.ensures.front_len, c.min.ensures)),
    )
