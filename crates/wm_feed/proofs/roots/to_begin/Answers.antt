use Rattle.std.proofs.Common.{◌≡◌, Bool, not, false, true, ap, ◌∙◌}
use Rattle.wm_names.specs.Paths.{Path}
use Rattle.wm_feed.specs.Once.{is_in_texts, with_text_once}
use Rattle.wm_feed.proofs.Once.{once_fail, once_pass}
use Rattle.wm_feed.proofs.roots.to_begin.Goals as goal
use Rattle.wm_feed.proofs.roots.to_begin.Goals.{then-not-is_listed+in_ok-add_root, else-not-is_listed}

pub loop-root-preserved : goal.loop-root-preserved
loop-root-preserved c =
    let root = c.root-item.result in
    let p : Path → Bool = λ one. not (is_in_texts one c.args.fed.now) in
    elim c.if-not-is_listed.branch [
      | then-not-is_listed+in_ok-add_root w ↦
          let new : is_in_texts root c.args.fed.now ≡ false = cc (c.is_listed.ensures, w.if-not-is_listed.true) in
          ap (λ v. v.items) w.missing-is
          ∙ w.in_ok-add_root.ensures
          ∙ ap (with_text_once root) c.loop-root.invariant
          ∙ once_pass p c.args.listed.now c.loop-root.root-index root c.loop-root-test.true c.root-item.is (ap not new)
      | else-not-is_listed w ↦
          let old : is_in_texts root c.args.fed.now ≡ true = cc (c.is_listed.ensures, w.if-not-is_listed.false) in
          ap (λ v. v.items) w.missing-is
          ∙ c.loop-root.invariant
          ∙ once_fail p c.args.listed.now c.loop-root.root-index root c.loop-root-test.true c.root-item.is (ap not old)
    ]
