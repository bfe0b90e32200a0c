use Rattle.std.proofs.Common.{◌≡◌, ◌==◌, ◌++◌, ◌∷◌, [], length, map, take, sym, ap, subst, ◌∙◌, true≢false, arith}
use Rattle.std.proofs.lemmas.Iterator.Adapters.{YieldsList-from_vec}
use Rattle.std.proofs.lemmas.Iterator.Consumers.{YieldsList-turn, YieldsList-so_far}
use Rattle.std.proofs.lemmas.List.{map-id}
use Rattle.std.proofs.lemmas.Map.Made.{is_some-lookup}
use Rattle.std.specs.List.{list_any}
use Rattle.std.specs.Map.{keys_of}
use Rattle.std.specs.Str.{bytes_eq}
use Rattle.indexmap.proofs.CallerLemmas.{insert_entry-new}
use Rattle.wm_registry.specs.Spelling.{AreRoots}
use Rattle.wm_registry.proofs.Named.{none_is}
use Rattle.wm_registry.proofs.States.{MayFollow, AreRoots-none, AreRoots-push, next_may_follow}
use Rattle.wm_registry.proofs.wire.gathered.Goals as goal
use Rattle.wm_registry.proofs.wire.gathered.Goals.{then-root-next-via-then-root-next, then-root-next-via-else-root-next+then-contains_key, then-root-next-via-else-root-next+else-contains_key+then-has_number}

pub loop-entry-init : goal.loop-entry-init
loop-entry-init g c = record { gathered = c.in_ok-roots.ensures.empty; apart = AreRoots-none c.args.next }

pub returns-then-root-next-clause-none : goal.returns-then-root-next-clause-none
returns-then-root-next-clause-none g c =
    let all = c.args.entries in
    let seen = c.loop-entry.yielded in
    let given = c.into_iter-entry-iterator.ensures.into_iter_gives in
    let items = c.into_vec-entry-items.ensures.value in
    let road = YieldsList-from_vec {s = c.into_iter-entry-iterator.result} all (given.0 ∙ items) (omega (arith, given.1, ap length items, c.into_vec-entry-items.result.ok.0)) in
    let front : map (λ x. x) seen ≡ take (length seen) all = YieldsList-so_far road seen c.loop-entry.entry-iterator c.loop-entry.yielded_by in
    let turn = YieldsList-turn road seen c.loop-entry.entry-iterator c.loop-entry.yielded_by c.next.result c.next.new.self c.in-Some.entry c.in-Some.is c.next.ensures.steps in
    let gathered = c.loop-entry.invariant.gathered in
    let path = c.entry.inside.path in
    let root = c.entry.inside.root in
    λ h.
    let may : MayFollow c.args.next seen (path, root) = subst (MayFollow c.args.next seen) (sym c.entry.view_is) (next_may_follow c.args.next all seen c.in-Some.entry (sym (map-id seen) ∙ front) turn.0 turn.1 h) in
    elim c.then-root-next.branch [
      | then-root-next-via-then-root-next w ↦ omega (arith, w.if-root-next.true, may.below)
      | then-root-next-via-else-root-next+then-contains_key w ↦
          absurd (true≢false (w.if-contains_key.ensures ∙ is_some-lookup (bytes_eq path) c.loop-entry.roots.entries ∙ ap (λ es. list_any (bytes_eq path) (keys_of es)) gathered ∙ may.path))
      | then-root-next-via-else-root-next+else-contains_key+then-has_number w ↦
          absurd (true≢false (w.if-has_number.ensures ∙ ap (list_any (λ r. r.1.number == root.number)) gathered ∙ may.number))
    ]

pub loop-entry-preserved : goal.loop-entry-preserved
loop-entry-preserved g c =
    let seen = c.loop-entry.yielded in
    let roots = c.loop-entry.roots in
    let gathered = c.loop-entry.invariant.gathered in
    let path = c.entry.inside.path in
    let root = c.entry.inside.root in
    let may : MayFollow c.args.next seen (path, root) = record {
      below = c.if-root-next.false;
      path = sym (c.if-contains_key.ensures ∙ is_some-lookup (bytes_eq path) roots.entries ∙ ap (λ es. list_any (bytes_eq path) (keys_of es)) gathered);
      number = sym (c.if-has_number.ensures ∙ ap (list_any (λ r. r.1.number == root.number)) gathered);
    } in
    let new = insert_entry-new bytes_eq roots path root (none_is _ (sym c.if-contains_key.ensures)) in
    record {
      gathered = c.in_ok-insert.ensures.entries ∙ new ∙ ap (λ es. es ++ (path, root) ∷ []) gathered ∙ ap (λ e. seen ++ e ∷ []) c.entry.view_is;
      apart = subst (λ e. AreRoots c.args.next (seen ++ e ∷ [])) c.entry.view_is (AreRoots-push c.args.next seen (path, root) c.loop-entry.invariant.apart may);
    }
