use Rattle.std.proofs.Common.{◌≡◌, ◌++◌, ◌∷◌, [], sym, ap, ◌∙◌}
use Rattle.std.proofs.lemmas.List.{map-append}
use Rattle.wm_lines.proofs.EachLemmas.{each_step}
use Rattle.wm_lines.specs.PairLines.{by_text, pair_of}
use Rattle.wm_lines.proofs.pairs.pairs.Goals as goal

pub loop-item-preserved : goal.loop-item-preserved
loop-item-preserved c =
    let pair = c.in-Some-pair.pair in
    let pushed : by_text c.push.new.self.items ≡ by_text c.loop-item.pairs.items ++ (pair.0.now, pair.1) ∷ [] =
    ap by_text c.in_ok-push.ensures.items ∙ map-append (λ p. (p.0.now, p.1)) c.loop-item.pairs.items (pair ∷ []) in
    rw pushed (each_step pair_of c.deref-item-items.result.now c.loop-item.item-index c.item-item.result _ _ _ c.loop-item-test.true c.item-item.is (sym c.in-Some-pair.ensures) c.loop-item.invariant)
