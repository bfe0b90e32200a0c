use Rattle.std.proofs.Common.{◌≡◌, Some, ◌-◌, ◌≤◌, T, true, filter, sym, ap, subst, ◌∙◌, arith, true≢false}
use Rattle.std.specs.BTreeSet as set
use Rattle.std.specs.FinMap.{find, is_sorted}
use Rattle.std.specs.Ordering.{eq_by_cmp}
use Rattle.std.specs.Set.{is_member}
use Rattle.wm_disk.specs.Counters.{max_counter}
use Rattle.wm_names.specs.Paths.{Path, path_cmp}
use Rattle.wm_view.specs.KnownPaths.{is_told, place_cmp, told}
use Rattle.wm_view.specs.declared.known.Known.{Known}
use Rattle.wm_view.proofs.Firsts.{first_sorted, first_there, first_told, made_entries}
use Rattle.wm_view.proofs.known_paths.KnownPaths.first.Goals as goal

pub returns-clause-value : goal.returns-clause-value
returns-clause-value c =
    let m = c.args.moment in
    let files = c.args.files.now in
    let pairs = c.in_ok-known.known.items in
    let sorted : T (is_sorted path_cmp pairs) = subst (λ l. T (is_sorted path_cmp l)) (sym c.in_ok-known.ensures) (first_sorted m files c.requires) in
    ap (filter is_told) (made_entries c.in_ok-known-2.known pairs sorted c.in_ok-known-2.ensures ∙ c.in_ok-known.ensures) ∙ first_told m files

pub returns-clause-sound : goal.returns-clause-sound
returns-clause-sound c =
    let m = c.args.moment in
    let files = c.args.files.now in
    let order = c.in_ok-order-2.order in
    let there = λ (p : Path) (x : Known) (e : find path_cmp p (told (record { known = c.in_ok-known-2.known; order = order; gone = c.new.result })) ≡ Some x). first_there m p x files (sym (ap (find path_cmp p) (returns-clause-value c)) ∙ e) in
    let low : 1 ≤ max_counter = omega arith in
    record {
      ordered = c.in_ok-known-2.ensures.1;
      in_order = c.in_ok-order-2.ensures.1;
      gone_ordered = c.new.ensures.ordered;
      placed = λ p x e. (
        subst (λ n. n ≤ max_counter) (sym (there p x e).0) low,
        subst (λ n. set.contains place_cmp order (max_counter - n, p) ≡ true) (sym (there p x e).0)
            (c.in_ok-order-2.ensures.0 (max_counter - 1, p) ∙ ap (λ l. is_member (eq_by_cmp place_cmp) l (max_counter - 1, p)) c.in_ok-order.ensures ∙ (there p x e).2),
      );
      gone = λ p x e h. absurd (true≢false (sym (there p x e).1 ∙ h));
    }
