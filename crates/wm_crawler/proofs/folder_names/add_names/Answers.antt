use Rattle.std.proofs.Common.{rules, tests, List, ℕ, ◌==◌, ◌∙◌, sym, ap, Bor}
use Rattle.std.specs.List.{slice_split}
use Rattle.std.proofs.lemmas.Iterator.Consumers.{YieldsList-at, YieldsList-end}
use Rattle.std.proofs.lemmas.Iterator.Splits.{YieldsList-from_slice_split}
use Rattle.wm_crawler.specs.FolderNames.{with_held_names}
use Rattle.wm_crawler.proofs.FolderLists.{name_more, with_held_names-filter}
use Rattle.wm_crawler.proofs.folder_names.add_names.Goals as goal

pub loop-name-preserved : goal.loop-name-preserved
loop-name-preserved c =
    name_more (λ (x : Bor (List ℕ)). x.now) c.loop-name.yielded c.in-Some.name c.args.dir.now c.loop-name.dir c.add_name.new.dir c.loop-name.invariant c.in_ok-add_name.ensures

pub returns : goal.returns
returns c =
    let seen = YieldsList-end
    (YieldsList-at c.into_iter-name-iterator.ensures.into_iter_gives
    (YieldsList-from_slice_split _ (λ b. b == 0) c.args.names.now c.split-name-items.ensures.rest c.split-name-items.ensures.done c.split-name-items.ensures.closure (λ x r q k. search (rules, tests))))
    c.loop-name.yielded _ c.loop-name.yielded_by _ _ c.in-None.is c.next.ensures.steps in
    c.loop-name.invariant ∙ ap (λ (l : List (List ℕ)). with_held_names l c.args.dir.now) seen.0
    ∙ sym (with_held_names-filter (slice_split (λ b. b == 0) c.args.names.now) c.args.dir.now)
