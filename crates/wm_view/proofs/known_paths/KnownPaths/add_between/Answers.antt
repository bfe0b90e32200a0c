use Rattle.std.proofs.Common.{◌≡◌, Bor, ◌∷◌, [], T, cond, Some, option_and_then, sym, ap, subst, ◌∙◌}
use Rattle.std.specs.BTreeMap.{get, is_at}
use Rattle.std.specs.BTreeMap.Range.{entries_between, range_contains}
use Rattle.std.specs.FinMap.{find, is_sorted}
use Rattle.std.specs.FinMap.Entries.{below_all, is_sorted-where_key}
use Rattle.std.specs.Option.{option_or}
use Rattle.std.specs.Range.Bound.{bound_map}
use Rattle.std.specs.Map.Iter.{deref_pair}
use Rattle.std.proofs.lemmas.Map.Iter.{rest_more, rest_all}
use Rattle.wm_names.specs.Paths.{Path, path_cmp}
use Rattle.wm_view.specs.Changes.{gone_change}
use Rattle.wm_view.specs.declared.known.Known.{Known}
use Rattle.wm_view.proofs.Orders.{second}
use Rattle.wm_view.proofs.Plans.{change_turn, same_turn}
use Rattle.wm_view.proofs.Rooms.{sorted_from}
use Rattle.wm_view.proofs.known_paths.KnownPaths.add_between.Goals as goal

pub loop-path-init : goal.loop-path-init
loop-path-init c =
    let lo = bound_map (λ (p : Bor Path). p.now) c.args.bounds.0 in
    let hi = bound_map (λ (p : Bor Path). p.now) c.args.bounds.1 in
    let entries = c.args.self.now.known.entries in
    let e : c.into_iter-path-iterator.result ≡ entries_between path_cmp lo hi entries = c.into_iter-path-iterator.ensures.into_iter_gives ∙ c.range-path-items.ensures.between tt in
    record {
      so_far = λ p. ap (λ l. option_or (option_and_then (gone_change c.args.begun_at c.args.listing.now c.args.tick c.args.moment p) (find path_cmp p l)) (get path_cmp c.args.changes.now p)) e;
      rest_ordered = subst (λ l. T (is_sorted path_cmp l)) (sym e) (is_sorted-where_key path_cmp (range_contains path_cmp lo hi) entries (sorted_from entries c.requires.sound.ordered));
      ordered = c.requires.ordered;
    }

pub loop-path-preserved-in_ok-insert : goal.loop-path-preserved-in_ok-insert
loop-path-preserved-in_ok-insert c =
    let b = c.args.begun_at in
    let t = c.args.tick in
    let m = c.args.moment in
    let x : Path × Known = (c.in-Some.path.now, c.in-Some.known.now) in
    let rest = c.next.new.self in
    let e : c.loop-path.path-iterator ≡ x ∷ rest = rest_more deref_pair _ _ _ (c.in-Some.path, c.in-Some.known) c.in-Some.is c.next.ensures.steps in
    let s : T (is_sorted path_cmp (x ∷ rest)) = subst (λ l. T (is_sorted path_cmp l)) e c.loop-path.invariant.rest_ordered in
    let change = gone_change b c.args.listing.now t m in
    let had = λ (p : Path). get path_cmp c.loop-path.changes p in
    let k = c.in-Some-gone_change.known in
    record {
      so_far = λ p.
          ap (option_or (option_and_then (change p) (find path_cmp p rest))) (c.in_ok-insert.ensures.updates.0 p ∙ ap (λ q. cond (is_at (path_cmp q) p) (Some k) (had p)) c.in_ok-path.ensures)
          ∙ change_turn x rest s change p (had p) k (sym c.in-Some-gone_change.is ∙ c.gone_change.ensures)
          ∙ ap (λ l. option_or (option_and_then (change p) (find path_cmp p l)) (had p)) (sym e)
          ∙ c.loop-path.invariant.so_far p;
      rest_ordered = second (below_all path_cmp x.0 rest) (is_sorted path_cmp rest) s;
      ordered = c.in_ok-insert.ensures.ordered;
    }

pub loop-path-preserved : goal.loop-path-preserved
loop-path-preserved c =
    let b = c.args.begun_at in
    let t = c.args.tick in
    let m = c.args.moment in
    let x : Path × Known = (c.in-Some.path.now, c.in-Some.known.now) in
    let rest = c.next.new.self in
    let e : c.loop-path.path-iterator ≡ x ∷ rest = rest_more deref_pair _ _ _ (c.in-Some.path, c.in-Some.known) c.in-Some.is c.next.ensures.steps in
    let s : T (is_sorted path_cmp (x ∷ rest)) = subst (λ l. T (is_sorted path_cmp l)) e c.loop-path.invariant.rest_ordered in
    let change = gone_change b c.args.listing.now t m in
    let had = λ (p : Path). get path_cmp c.loop-path.changes p in
    record {
      so_far = λ p.
          same_turn x rest s change p (had p) (sym c.in_default.is ∙ c.gone_change.ensures)
          ∙ ap (λ l. option_or (option_and_then (change p) (find path_cmp p l)) (had p)) (sym e)
          ∙ c.loop-path.invariant.so_far p;
      rest_ordered = second (below_all path_cmp x.0 rest) (is_sorted path_cmp rest) s;
      ordered = c.loop-path.invariant.ordered;
    }

pub returns-clause-value : goal.returns-clause-value
returns-clause-value c = λ p.
    let change = gone_change c.args.begun_at c.args.listing.now c.args.tick c.args.moment p in
    let e : c.loop-path.path-iterator ≡ [] = rest_all deref_pair _ _ _ c.in-None.is c.next.ensures.steps in
    ap (λ l. option_or (option_and_then change (find path_cmp p l)) (find path_cmp p c.loop-path.changes.entries)) (sym e)
    ∙ c.loop-path.invariant.so_far p
