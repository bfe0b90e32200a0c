use Rattle.std.proofs.Common.{◌≡◌, ◌-◌, ◌+◌, ◌≤◌, sym, ◌∙◌, arith, eqb-true}
use Rattle.std.specs.Vec.{vec_len}
use Rattle.std.proofs.lemmas.List.{nil_from_length}
use Rattle.std.proofs.lemmas.Result.{err_from_is_err_and}
use Rattle.wm_crawler.proofs.Levels.{all_levels, last_level, lead_first, lead_step}
use Rattle.wm_crawler.proofs.crawling.read_levels.Goals as goal

pub loop-init : goal.loop-init
loop-init g c = record {
  read = λ s. lead_first (g.T.Tree.content c.args.tree.now) c.new-files.result.items c.args.first.paths.items c.args.first.faults c.new-files.ensures.items;
  inside = λ top h. h;
}

pub returns-in_err-found-clause-refused : goal.returns-in_err-found-clause-refused
returns-in_err-found-clause-refused g c =
    let p = err_from_is_err_and c.from_residual.result c.from_residual.ensures.1 in
    rw (p.1, p.2) (λ ne.
    let h = c.in_err-found.ensures.refused ne in
    (h.0, λ top inside. h.1 top (c.loop.invariant.inside top inside)))

pub loop-preserved : goal.loop-preserved
loop-preserved g c = record {
  read = λ s. lead_step (g.T.Tree.content c.args.tree.now) c.loop.counter c.loop.files.items c.in_ok-found.found.items c.append.new.self.items c.loop.level.paths.items c.in_ok-found.next.paths.items
      c.loop.level.faults c.in_ok-found.next.faults c.args.first.paths.items c.args.first.faults c.loop-test.true c.in_ok-append.ensures.items (c.loop.invariant.read s) (c.in_ok-found.ensures.read s);
  inside = λ top h. c.in_ok-found.ensures.inside top (c.loop.invariant.inside top h);
}

pub returns-then-is_empty-clause-read : goal.returns-then-is_empty-clause-read
returns-then-is_empty-clause-read g c = λ s.
    let next = c.in_ok-found.next in
    let none : vec_len next.paths ≡ 0 = eqb-true (vec_len next.paths) 0 (sym c.if-is_empty.ensures) in
    all_levels (g.T.Tree.content c.args.tree.now) (1024 - (c.loop.counter + 1)) c.append.new.self.items next.paths.items next.faults c.args.first.paths.items c.args.first.faults
    (nil_from_length next.paths.items (sym next.paths.ok.0 ∙ none))
    (lead_step (g.T.Tree.content c.args.tree.now) c.loop.counter c.loop.files.items c.in_ok-found.found.items c.append.new.self.items c.loop.level.paths.items next.paths.items
    c.loop.level.faults next.faults c.args.first.paths.items c.args.first.faults c.loop-test.true c.in_ok-append.ensures.items (c.loop.invariant.read s) (c.in_ok-found.ensures.read s))

pub returns-clause-read : goal.returns-clause-read
returns-clause-read g c = λ s.
    let done : 1024 ≤ c.loop.counter = c.loop-test.false in
    last_level (g.T.Tree.content c.args.tree.now) (1024 - c.loop.counter) c.loop.files.items c.loop.level.paths.items c.loop.level.faults c.args.first.paths.items c.args.first.faults
    (omega (arith, done)) (c.loop.invariant.read s)
