use Rattle.std.proofs.Common.{◌+◌, ◌-◌, ◌++◌, ◌∷◌, [], drop, sym, ap, ◌∙◌, append_assoc, append-nil}
use Rattle.wm_disk.specs.Counters.{max_counter}
use Rattle.wm_view.specs.Changes.{first_places}
use Rattle.wm_view.proofs.Lists.{all_dropped}
use Rattle.wm_view.specs.laws.Lists.{drop_here}
use Rattle.wm_view.proofs.known_paths.first.first_places.Goals as goal

pub loop-entry-preserved : goal.loop-entry-preserved
loop-entry-preserved c =
    let files = c.args.files.now in
    let i = c.loop-entry.entry-index in
    let x = c.entry-item.result in
    let had = c.loop-entry.places.items in
    let rest = first_places (drop (i + 1) files) in
    ap (λ l. l ++ rest) (c.in_ok-push.ensures.items ∙ ap (λ q. had ++ (max_counter - 1, q) ∷ []) c.in_ok-path.ensures)
    ∙ append_assoc had (first_places (x ∷ [])) rest
    ∙ ap (λ l. had ++ first_places l) (sym (drop_here files i x c.loop-entry-test.true c.entry-item.is))
    ∙ c.loop-entry.invariant

pub returns : goal.returns
returns c =
    sym (append-nil c.loop-entry.places.items)
    ∙ ap (λ l. c.loop-entry.places.items ++ first_places l) (sym (all_dropped c.args.files.now c.loop-entry.entry-index c.loop-entry-test.false))
    ∙ c.loop-entry.invariant
