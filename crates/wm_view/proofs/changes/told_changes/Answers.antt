use Rattle.std.proofs.Common.{◌≡◌, ◌∷◌, cond, Option, Some, None, sym, ap, subst, ◌∙◌}
use Rattle.std.specs.BTreeMap.{get, is_at}
use Rattle.std.specs.FinMap.{find}
use Rattle.std.specs.Option.{option_or}
use Rattle.std.specs.Map.{keys_of}
use Rattle.std.specs.Map.Iter.{deref_pair}
use Rattle.std.specs.List.Sorted.{IsStrictlySortedBy}
use Rattle.std.proofs.lemmas.Map.Iter.{rest_more}
use Rattle.std.proofs.lemmas.Map.Keys.{sorted_tail}
use Rattle.wm_names.specs.Paths.{Path, path_cmp}
use Rattle.wm_names.specs.declared.entry.Meta.{Meta}
use Rattle.wm_view.specs.KnownPaths.{told}
use Rattle.wm_view.specs.Changes.{told_change, change_of}
use Rattle.wm_view.specs.Steps.{known_or}
use Rattle.wm_view.proofs.Plans.{change_turn, same_turn}
use Rattle.wm_view.proofs.Rooms.{sorted_from}
use Rattle.wm_view.proofs.changes.told_changes.Goals as goal

pub loop-path-preserved-in_ok-insert : goal.loop-path-preserved-in_ok-insert
loop-path-preserved-in_ok-insert c =
    let ks = told c.args.paths.now in
    let t = c.args.tick in
    let m = c.args.moment in
    let x : Path × Option Meta = (c.in-Some.path.now, c.in-Some.state.now) in
    let k = c.in-Some-change_of.known in
    let rest = c.next.new.self in
    let e : c.loop-path.path-iterator ≡ x ∷ rest = rest_more deref_pair _ _ _ (c.in-Some.path, c.in-Some.state) c.in-Some.is c.next.ensures.steps in
    let s = subst (λ l. IsStrictlySortedBy path_cmp (keys_of l)) e c.loop-path.invariant.rest_ordered in
    let made : Some k ≡ change_of (known_or ks x.0) t m x.1 = sym c.in-Some-change_of.is ∙ c.change_of.ensures ∙ ap (λ k. change_of k t m x.1) c.known_or.ensures in
    record {
      so_far = λ p.
          ap (option_or (told_change (known_or ks p) t m (find path_cmp p rest))) (c.in_ok-insert.ensures.updates.0 p ∙ ap (λ q. cond (is_at (path_cmp q) p) (Some k) (get path_cmp c.loop-path.changes p)) c.in_ok-path.ensures)
          ∙ change_turn x rest (sorted_from (x ∷ rest) s) (λ q. change_of (known_or ks q) t m) p (get path_cmp c.loop-path.changes p) k made
          ∙ ap (λ l. option_or (told_change (known_or ks p) t m (find path_cmp p l)) (get path_cmp c.loop-path.changes p)) (sym e)
          ∙ c.loop-path.invariant.so_far p;
      rest_ordered = sorted_tail path_cmp x.0 (keys_of rest) s;
      ordered = c.in_ok-insert.ensures.ordered;
    }

pub loop-path-preserved : goal.loop-path-preserved
loop-path-preserved c =
    let ks = told c.args.paths.now in
    let t = c.args.tick in
    let m = c.args.moment in
    let x : Path × Option Meta = (c.in-Some.path.now, c.in-Some.state.now) in
    let rest = c.next.new.self in
    let e : c.loop-path.path-iterator ≡ x ∷ rest = rest_more deref_pair _ _ _ (c.in-Some.path, c.in-Some.state) c.in-Some.is c.next.ensures.steps in
    let s = subst (λ l. IsStrictlySortedBy path_cmp (keys_of l)) e c.loop-path.invariant.rest_ordered in
    let made : None ≡ change_of (known_or ks x.0) t m x.1 = sym c.in_default.is ∙ c.change_of.ensures ∙ ap (λ k. change_of k t m x.1) c.known_or.ensures in
    record {
      so_far = λ p.
          same_turn x rest (sorted_from (x ∷ rest) s) (λ q. change_of (known_or ks q) t m) p (get path_cmp c.loop-path.changes p) made
          ∙ ap (λ l. option_or (told_change (known_or ks p) t m (find path_cmp p l)) (get path_cmp c.loop-path.changes p)) (sym e)
          ∙ c.loop-path.invariant.so_far p;
      rest_ordered = sorted_tail path_cmp x.0 (keys_of rest) s;
      ordered = c.loop-path.invariant.ordered;
    }
