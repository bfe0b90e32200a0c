use Rattle.std.proofs.Common.{◌≡◌, ◌+◌, drop, cond, Some, sym, ap, ◌∙◌}
use Rattle.std.specs.BTreeMap.{get, is_at}
use Rattle.std.specs.FinMap.{find}
use Rattle.wm_names.specs.Paths.{Path, path_cmp}
use Rattle.wm_view.specs.laws.Lists.{drop_here}
use Rattle.wm_root.proofs.Turns.{left_to_add, add_not, add_one, none_is}
use Rattle.wm_root.proofs.overlay.add_read.Goals as goal

pub loop-file-preserved-then-contains_key : goal.loop-file-preserved-then-contains_key
loop-file-preserved-then-contains_key c =
    let read = c.args.read.now in
    let i = c.loop-file.file-index in
    let x = c.file-item.result in
    let has = λ (p : Path). get path_cmp c.loop-file.states p in
    record {
      files = λ p.
          add_not has x (drop (i + 1) read) p (sym c.contains_key.ensures ∙ c.if-contains_key.true)
          ∙ ap (λ l. left_to_add (has p) (find path_cmp p l)) (sym (drop_here read i x c.loop-file-test.true c.file-item.is))
          ∙ c.loop-file.invariant.files p;
      ordered = c.loop-file.invariant.ordered;
    }

pub loop-file-preserved : goal.loop-file-preserved
loop-file-preserved c =
    let read = c.args.read.now in
    let i = c.loop-file.file-index in
    let x = c.file-item.result in
    let has = λ (p : Path). get path_cmp c.loop-file.states p in
    record {
      files = λ p.
          add_one has (λ q. get path_cmp c.insert.new.self q) x (drop (i + 1) read) p (none_is _ (sym c.if-contains_key.false ∙ c.contains_key.ensures))
          (c.in_ok-insert.ensures.updates.0 p ∙ ap (λ q. cond (is_at (path_cmp q) p) (Some (Some x.1)) (has p)) c.in_ok-path.ensures)
          ∙ ap (λ l. left_to_add (has p) (find path_cmp p l)) (sym (drop_here read i x c.loop-file-test.true c.file-item.is))
          ∙ c.loop-file.invariant.files p;
      ordered = c.in_ok-insert.ensures.ordered;
    }
