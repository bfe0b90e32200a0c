use Rattle.std.proofs.Common.{[], map, rules}
use Rattle.std.proofs.lemmas.Result.{err_from_is_err_and}
use Rattle.wm_names.specs.declared.subtree.Subtree.TheVariants.{Whole}
use Rattle.wm_crawler.specs.Crawls.{leads_down, places_down}
use Rattle.wm_crawler.proofs.Tops.{leads_on, way_on, way_fails}
use Rattle.wm_crawler.proofs.top.leads_down.Goals as goal

pub returns-in_err-next-clause-refused : goal.returns-in_err-next-clause-refused
returns-in_err-next-clause-refused g c =
    let p = err_from_is_err_and c.from_residual.result c.from_residual.ensures.1 in
    let ns = c.args.names.now in
    rw (p.1, p.2) (λ ne.
    let h = c.in_err-next.ensures.refused ne in
    (h.0, way_fails (λ n. n.now) ns c.loop-name.name-index (record { ref_ptr = (0, 0); now = [] }) c.loop-name-test.true (g.T.Tree.may_fail c.args.tree.now) (places_down Whole (map (λ n. n.now) ns)) c.loop-name.folder c.loop-name.invariant.on h.1))

pub loop-name-preserved : goal.loop-name-preserved
loop-name-preserved g c =
    let ns = c.args.names.now in
    let i = c.loop-name.name-index in
    let folder = c.loop-name.folder in
    let next = c.in-Some.next in
    let is = c.in_ok-next.ensures.place next c.in-Some.is in
    record {
      read = λ s. leads_on (λ n. n.now) ns i (record { ref_ptr = (0, 0); now = [] }) c.loop-name-test.true (g.T.Tree.content c.args.tree.now) (leads_down (g.T.Tree.content c.args.tree.now) Whole (map (λ n. n.now) ns)) folder next
          (search rules) is (c.loop-name.invariant.read s);
      on = way_on (λ n. n.now) ns i (record { ref_ptr = (0, 0); now = [] }) c.loop-name-test.true (places_down Whole (map (λ n. n.now) ns)) folder next is c.loop-name.invariant.on;
    }
