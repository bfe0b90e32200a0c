use Rattle.std.proofs.Common.{◌≡◌, ◌∷◌, [], ◌++◌, ◌-◌, ◌≤◌, cond, Some, None, filter, sym, ap, subst, ◌∙◌, append_assoc, append-nil, le_refl}
use Rattle.std.specs.List.Sorted.{IsStrictlySortedBy}
use Rattle.std.specs.FinMap.{find}
use Rattle.std.specs.Map.Iter.{deref}
use Rattle.std.proofs.lemmas.Map.Iter.{rest_more}
use Rattle.std.proofs.lemmas.Map.Keys.{sorted_head, sorted_tail}
use Rattle.wm_disk.specs.Counters.{max_counter}
use Rattle.wm_names.specs.Paths.{path_cmp}
use Rattle.wm_view.specs.KnownPaths.{told, known_at, is_wanted, place_cmp, known_there, add_known}
use Rattle.wm_view.proofs.InOrder.{late, all_later}
use Rattle.wm_view.proofs.known_paths.KnownPaths.listed.Goals as goal

pub returns-then-saturating_sub-tick : goal.returns-then-saturating_sub-tick
returns-then-saturating_sub-tick c =
    let q = c.in-Some.place.now in
    let rest = c.next.new.self in
    let ks = told c.args.self.now in
    let w = is_wanted c.args.tick c.args.existing in
    let e : c.loop-place.place-iterator ≡ q ∷ rest = rest_more deref _ _ _ c.in-Some.place c.in-Some.is c.next.ensures.steps in
    let ordered : IsStrictlySortedBy place_cmp (q ∷ rest) = subst (IsStrictlySortedBy place_cmp) e c.loop-place.invariant.ordered in
    let l : max_counter - q.0 ≤ c.args.tick = subst (λ n. n ≤ c.args.tick) c.saturating_sub.ensures c.if-saturating_sub-tick.true in
    let none : filter w (known_at ks (q ∷ rest)) ≡ [] = late ks c.args.tick c.args.existing q.0 (q ∷ rest) l (λ p x f. (c.requires.placed p x f).0) (le_refl q.0, all_later q rest (sorted_head place_cmp q rest ordered)) in
    sym (append-nil c.loop-place.changed.items)
    ∙ ap (λ m. c.loop-place.changed.items ++ m) (sym none)
    ∙ ap (λ m. c.loop-place.changed.items ++ filter w (known_at ks m)) (sym e)
    ∙ c.loop-place.invariant.so_far

pub loop-place-preserved-in-Continue-branch-2 : goal.loop-place-preserved-in-Continue-branch-2
loop-place-preserved-in-Continue-branch-2 c =
    let q = c.in-Some.place.now in
    let rest = c.next.new.self in
    let ks = told c.args.self.now in
    let w = is_wanted c.args.tick c.args.existing in
    let out = c.loop-place.changed.items in
    let k = c.in-Some-known_there.known in
    let e : c.loop-place.place-iterator ≡ q ∷ rest = rest_more deref _ _ _ c.in-Some.place c.in-Some.is c.next.ensures.steps in
    let f : Some k ≡ known_there (find path_cmp q.1 ks) q.0 = sym c.in-Some-known_there.is ∙ c.known_there.ensures in
    let entry : (c.in_ok-path.path, k) ∷ [] ≡ (q.1, k) ∷ [] = ap (λ p. (p, k) ∷ []) c.in_ok-path.ensures in
    record {
      so_far = ap (λ m. m ++ filter w (known_at ks rest)) (c.in_ok-push.ensures.items ∙ ap (λ m. out ++ m) entry)
          ∙ append_assoc out ((q.1, k) ∷ []) (filter w (known_at ks rest))
          ∙ ap (λ b. out ++ cond b ((q.1, k) ∷ filter w (known_at ks rest)) (filter w (known_at ks rest))) (sym c.if-is_wanted.true ∙ c.is_wanted.ensures q.1)
          ∙ ap (λ g. out ++ filter w (add_known q.1 g (known_at ks rest))) f
          ∙ ap (λ m. out ++ filter w (known_at ks m)) (sym e)
          ∙ c.loop-place.invariant.so_far;
      ordered = sorted_tail place_cmp q rest (subst (IsStrictlySortedBy place_cmp) e c.loop-place.invariant.ordered);
    }

pub loop-place-preserved-else-is_wanted : goal.loop-place-preserved-else-is_wanted
loop-place-preserved-else-is_wanted c =
    let q = c.in-Some.place.now in
    let rest = c.next.new.self in
    let ks = told c.args.self.now in
    let w = is_wanted c.args.tick c.args.existing in
    let out = c.loop-place.changed.items in
    let k = c.in-Some-known_there.known in
    let e : c.loop-place.place-iterator ≡ q ∷ rest = rest_more deref _ _ _ c.in-Some.place c.in-Some.is c.next.ensures.steps in
    let f : Some k ≡ known_there (find path_cmp q.1 ks) q.0 = sym c.in-Some-known_there.is ∙ c.known_there.ensures in
    record {
      so_far = ap (λ b. out ++ cond b ((q.1, k) ∷ filter w (known_at ks rest)) (filter w (known_at ks rest))) (sym c.if-is_wanted.false ∙ c.is_wanted.ensures q.1)
          ∙ ap (λ g. out ++ filter w (add_known q.1 g (known_at ks rest))) f
          ∙ ap (λ m. out ++ filter w (known_at ks m)) (sym e)
          ∙ c.loop-place.invariant.so_far;
      ordered = sorted_tail place_cmp q rest (subst (IsStrictlySortedBy place_cmp) e c.loop-place.invariant.ordered);
    }

pub loop-place-preserved : goal.loop-place-preserved
loop-place-preserved c =
    let q = c.in-Some.place.now in
    let rest = c.next.new.self in
    let ks = told c.args.self.now in
    let w = is_wanted c.args.tick c.args.existing in
    let out = c.loop-place.changed.items in
    let e : c.loop-place.place-iterator ≡ q ∷ rest = rest_more deref _ _ _ c.in-Some.place c.in-Some.is c.next.ensures.steps in
    let f : None ≡ known_there (find path_cmp q.1 ks) q.0 = sym c.in_default.is ∙ c.known_there.ensures in
    record {
      so_far = ap (λ g. out ++ filter w (add_known q.1 g (known_at ks rest))) f
          ∙ ap (λ m. out ++ filter w (known_at ks m)) (sym e)
          ∙ c.loop-place.invariant.so_far;
      ordered = sorted_tail place_cmp q rest (subst (IsStrictlySortedBy place_cmp) e c.loop-place.invariant.ordered);
    }
