use Rattle.std.proofs.Common.{Bool, ◌&&◌, cond, Some, None, ap, sym, ◌∙◌}
use Rattle.wm_names.specs.Paths.{same_path}
use Rattle.wm_view.specs.Files.{at}
use Rattle.wm_view.specs.Listings.{Found}
use Rattle.wm_crawler.specs.Levels.{or_else}
use Rattle.wm_crawler.proofs.Results.{added, already}
use Rattle.wm_crawler.proofs.listed.add.Goals as goal

pub returns-in-Ok-clause-files : goal.returns-in-Ok-clause-files
returns-in-Ok-clause-files c = λ q.
    let e = c.in-Ok.ensures.ok in
    let files = c.args.listing.now.files in
    ap (λ (l : Found). at l.files q) e.2
    ∙ added files c.args.path c.args.meta q e.1
    ∙ ap (λ (b : Bool). or_else (at files q) (cond (b && same_path q c.args.path) (Some c.args.meta) None)) (sym e.0)

pub returns-in-Err-BadArguments-clause-files : goal.returns-in-Err-BadArguments-clause-files
returns-in-Err-BadArguments-clause-files c = λ q.
    let e = rw c.in-Err-BadArguments.field-0-is at c.in-Err-BadArguments.ensures.refused in
    let l = c.args.listing.now in
    ap (λ (m : Found). at m.files q) c.in-Err-BadArguments.ensures.same ∙ already l c.args.path c.args.meta q e.0 e.1
