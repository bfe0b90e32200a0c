use Rattle.std.proofs.Common.{◌≡◌, ◌+◌, drop, cond, Some, unwrap_or, sym, ap, ◌∙◌}
use Rattle.std.specs.BTreeMap.{get, is_at}
use Rattle.wm_names.specs.Paths.{path_cmp}
use Rattle.wm_view.specs.HistoryLaws.{last_told}
use Rattle.wm_view.specs.laws.Lists.{drop_here}
use Rattle.std.proofs.lemmas.List.{drop_all}
use Rattle.wm_root.proofs.Turns.{told_turn, lookup_finds}
use Rattle.wm_root.proofs.observed.note_all.Goals as goal

pub loop-pair-preserved : goal.loop-pair-preserved
loop-pair-preserved c =
    let pairs = c.args.pairs.now in
    let i = c.loop-pair.pair-index in
    let x = c.pair-item.result in
    record {
      kept = λ p read.
          told_turn c.loop-pair.states.entries c.insert.new.self.entries x (drop (i + 1) pairs) p read
          (c.in_ok-insert.ensures.updates.0 p ∙ ap (λ q. cond (is_at (path_cmp q) p) (Some x.1) (get path_cmp c.loop-pair.states p)) c.in_ok-path.ensures)
          ∙ ap (λ ps. last_told ps p (unwrap_or (get path_cmp c.loop-pair.states p) read)) (sym (drop_here pairs i x c.loop-pair-test.true c.pair-item.is))
          ∙ c.loop-pair.invariant.kept p read;
      ordered = c.in_ok-insert.ensures.ordered;
    }

pub returns-clause-kept : goal.returns-clause-kept
returns-clause-kept c = λ p read.
    let pairs = c.args.pairs.now in
    ap (λ o. unwrap_or o read) (sym (lookup_finds p c.loop-pair.states.entries))
    ∙ ap (λ ps. last_told ps p (unwrap_or (get path_cmp c.loop-pair.states p) read)) (sym (drop_all c.loop-pair.pair-index pairs c.loop-pair-test.false))
    ∙ c.loop-pair.invariant.kept p read
    ∙ ap (λ o. last_told pairs p (unwrap_or o read)) (lookup_finds p c.args.states.now.entries)
