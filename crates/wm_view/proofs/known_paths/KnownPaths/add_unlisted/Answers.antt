use Rattle.std.proofs.Common.{◌≡◌, ◌++◌, ◌∷◌, [], true, IfSome, sym, ap, subst, ◌∙◌}
use Rattle.std.specs.BTreeMap.Range.{range_contains}
use Rattle.std.specs.FinMap.{find}
use Rattle.std.specs.Option.{option_or}
use Rattle.std.specs.declared.ops.Bound.TheVariants.{Excluded, Unbounded}
use Rattle.wm_names.specs.Entries.{covers}
use Rattle.wm_names.specs.Paths.{path_cmp}
use Rattle.wm_view.proofs.Below.{behind, behind_top, between}
use Rattle.wm_view.proofs.Recrawls.{gone_among, on_ok}
use Rattle.wm_view.proofs.Rooms.{sorted_from}
use Rattle.wm_view.proofs.known_paths.KnownPaths.add_unlisted.Goals as goal

pub returns-in-Whole-clause-value : goal.returns-in-Whole-clause-value
returns-in-Whole-clause-value c =
    let entries = c.args.self.now.known.entries in
    on_ok c.add_between.result
    (λ made p. made p
    ∙ ap (λ o. option_or o (find path_cmp p c.args.changes.now.entries)) (gone_among c.args.begun_at c.args.tick c.args.moment c.args.listing.now p entries (range_contains path_cmp Unbounded Unbounded) (sorted_from entries c.requires.sound.ordered) (λ _ _. true)))
    c.add_between.ensures.value

pub add_between-requires-in-Some-clause-forward : goal.add_between-requires-in-Some-clause-forward
add_between-requires-in-Some-clause-forward c =
    let end : c.in-Some.end ≡ c.in-Below.top ++ 48 ∷ [] = subst (λ o. IfSome o (λ e. e ≡ c.in-Below.top ++ 48 ∷ [])) c.in-Some.is c.in_ok-end.ensures in
    ap (path_cmp c.in-Below.top) end ∙ behind_top c.in-Below.top 48 []

pub returns-in-Some-clause-value : goal.returns-in-Some-clause-value
returns-in-Some-clause-value c =
    let entries = c.args.self.now.known.entries in
    let found = c.args.listing.now in
    let top = c.in-Below.top in
    let end : c.in-Some.end ≡ top ++ 48 ∷ [] = subst (λ o. IfSome o (λ e. e ≡ top ++ 48 ∷ [])) c.in-Some.is c.in_ok-end.ensures in
    on_ok c.add_between-in-Some.result
    (λ made p. made p
    ∙ ap (λ o. option_or o (find path_cmp p c.args.changes.now.entries)) (gone_among c.args.begun_at c.args.tick c.args.moment found p entries (range_contains path_cmp (Excluded top) (Excluded c.in-Some.end)) (sorted_from entries c.requires.sound.ordered)
    (λ covered. subst (λ e. range_contains path_cmp (Excluded top) (Excluded e) p ≡ true) (sym end) (between top p (ap (λ s. covers s p) (sym c.in-Below.is ∙ c.subtree.ensures) ∙ covered)))))
    c.add_between-in-Some.ensures.value

pub returns-in-None-clause-value : goal.returns-in-None-clause-value
returns-in-None-clause-value c =
    let entries = c.args.self.now.known.entries in
    let found = c.args.listing.now in
    let top = c.in-Below.top in
    on_ok c.add_between-in-None.result
    (λ made p. made p
    ∙ ap (λ o. option_or o (find path_cmp p c.args.changes.now.entries)) (gone_among c.args.begun_at c.args.tick c.args.moment found p entries (range_contains path_cmp (Excluded top) Unbounded) (sorted_from entries c.requires.sound.ordered)
    (λ covered. behind top p (ap (λ s. covers s p) (sym c.in-Below.is ∙ c.subtree.ensures) ∙ covered))))
    c.add_between-in-None.ensures.value
