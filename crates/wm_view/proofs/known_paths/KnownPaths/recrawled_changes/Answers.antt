use Rattle.std.proofs.Common.{option_and_then, lt-ltb, ap, ◌∙◌}
use Rattle.std.specs.FinMap.{find}
use Rattle.std.specs.Option.{option_or}
use Rattle.wm_names.specs.Paths.{path_cmp}
use Rattle.wm_view.specs.Changes.{gone_change, listed_change}
use Rattle.wm_view.specs.Files.{at}
use Rattle.wm_view.specs.KnownPaths.{told}
use Rattle.wm_view.specs.Steps.{known_or}
use Rattle.wm_view.proofs.Recrawls.{recrawl_change}
use Rattle.wm_view.proofs.InOrder.{told_low}
use Rattle.wm_view.proofs.Rooms.{sorted_from}
use Rattle.wm_view.proofs.known_paths.KnownPaths.recrawled_changes.Goals as goal

pub returns-clause-value : goal.returns-clause-value
returns-clause-value c = λ p.
    let k = c.args.self.now in
    let b = c.args.begun_at in
    let t = c.args.tick in
    let m = c.args.moment in
    let found = c.args.listing.now in
    c.in_ok-add_unlisted.ensures.value p
    ∙ ap (option_or (option_and_then (gone_change b found t m p) (find path_cmp p (told k))))
    (c.in_ok-changes.ensures.value p ∙ ap (λ files. option_and_then (listed_change (known_or (told k) p) b t m) (at files p)) c.files.ensures.value)
    ∙ recrawl_change (told k) b t m found p (λ x e. lt-ltb 0 x.last (told_low p x k.known.entries (sorted_from k.known.entries c.requires.ordered) e)) c.files.ensures.below
