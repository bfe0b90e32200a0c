use Rattle.std.proofs.Common.{◌≡◌, ◌∷◌, true, None, Some, Option, cond, unwrap_or, sym, ap, subst, ◌∙◌}
use Rattle.std.specs.FinMap.{find}
use Rattle.std.specs.Map.{keys_of}
use Rattle.std.specs.Map.Iter.{deref_pair}
use Rattle.std.specs.List.Sorted.{IsStrictlySortedBy}
use Rattle.std.specs.Option.{option_or}
use Rattle.std.proofs.lemmas.Map.Iter.{rest_more}
use Rattle.std.proofs.lemmas.Map.Keys.{sorted_tail}
use Rattle.wm_names.specs.Entries.{covers}
use Rattle.wm_names.specs.Paths.{Path, path_cmp}
use Rattle.wm_names.specs.declared.entry.Meta.{Meta}
use Rattle.wm_view.specs.Files.{at}
use Rattle.wm_root.proofs.Turns.{gone_turn, listed_turn, to_list}
use Rattle.wm_root.proofs.overlay.listed.Goals as goal

pub loop-path-preserved-in-Continue-1 : goal.loop-path-preserved-in-Continue-1
loop-path-preserved-in-Continue-1 c =
    let x : Path × Option Meta = (c.in-Some.path.now, c.in-Some.state.now) in
    let rest = c.next.new.self in
    let e : c.loop-path.path-iterator ≡ x ∷ rest = rest_more deref_pair _ _ _ (c.in-Some.path, c.in-Some.state) c.in-Some.is c.next.ensures.steps in
    let s = subst (λ l. IsStrictlySortedBy path_cmp (keys_of l)) e c.loop-path.invariant.rest_ordered in
    record {
      part = c.add.ensures.part ∙ c.loop-path.invariant.part;
      files = λ p within.
          listed_turn x c.in-Some-state.meta rest p (at c.loop-path.listing.files p) (at c.add.new.listing.files p) c.in-Some-state.is
          (c.in_ok-add.ensures.files p (ap (λ t. covers t p) c.loop-path.invariant.part ∙ within))
          ∙ ap (λ l. option_or (at c.loop-path.listing.files p) (to_list (find path_cmp p l))) (sym e)
          ∙ c.loop-path.invariant.files p within;
      rest_ordered = sorted_tail path_cmp x.0 (keys_of rest) s;
    }

pub loop-path-preserved : goal.loop-path-preserved
loop-path-preserved c =
    let x : Path × Option Meta = (c.in-Some.path.now, c.in-Some.state.now) in
    let rest = c.next.new.self in
    let e : c.loop-path.path-iterator ≡ x ∷ rest = rest_more deref_pair _ _ _ (c.in-Some.path, c.in-Some.state) c.in-Some.is c.next.ensures.steps in
    let s = subst (λ l. IsStrictlySortedBy path_cmp (keys_of l)) e c.loop-path.invariant.rest_ordered in
    record {
      part = c.loop-path.invariant.part;
      files = λ p within.
          gone_turn x rest p (at c.loop-path.listing.files p) s c.in_default.is
          ∙ ap (λ l. option_or (at c.loop-path.listing.files p) (to_list (find path_cmp p l))) (sym e)
          ∙ c.loop-path.invariant.files p within;
      rest_ordered = sorted_tail path_cmp x.0 (keys_of rest) s;
    }
