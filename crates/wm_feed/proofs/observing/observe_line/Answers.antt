use Rattle.std.proofs.Common.{◌≡◌, ◌≤◌, ◌∙◌, Some, ap, subst, sym, false}
use Rattle.serde_json.specs.Data.{Data, depth}
use Rattle.serde_json.specs.View.{view}
use Rattle.serde_json.specs.Written.{compact_text, has_float}
use Rattle.wm_feed.proofs.Lines.{observe_depth, observe_no_float}
use Rattle.wm_feed.proofs.observing.observe_line.Goals as goal

pub returns-clause-text : goal.returns-clause-text
returns-clause-text c =
    let no_float : has_float (view c.in_ok-value.value) ≡ false = ap has_float c.in_ok-value.ensures ∙ observe_no_float c.args.root.now c.args.pairs.now in
    c.in_ok-text.ensures.text no_float ∙ ap compact_text c.in_ok-value.ensures

pub returns-clause-reads : goal.returns-clause-reads
returns-clause-reads c =
    let shallow : depth (view c.in_ok-value.value) ≤ 127 =
    subst (λ (d : Data). depth d ≤ 127) (sym c.in_ok-value.ensures) (observe_depth c.args.root.now c.args.pairs.now) in
    c.in_ok-text.ensures.reads_back shallow ∙ ap (λ (d : Data). Some d) c.in_ok-value.ensures
