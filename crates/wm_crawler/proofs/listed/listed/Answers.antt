use Rattle.std.proofs.Common.{◌&&◌, cond, Some, None, ap, ◌∙◌}
use Rattle.wm_names.specs.Paths.{same_path}
use Rattle.wm_names.specs.Entries.{covers}
use Rattle.wm_names.specs.declared.entry.Meta.{Meta}
use Rattle.wm_names.specs.declared.subtree.Subtree.{Subtree}
use Rattle.std.specs.Prelude.{Option}
use Rattle.wm_view.specs.Files.{at}
use Rattle.wm_crawler.specs.Levels.{or_else}
use Rattle.wm_crawler.proofs.Results.{listed_more}
use Rattle.wm_crawler.proofs.listed.listed.Goals as goal

pub loop-path-preserved : goal.loop-path-preserved
loop-path-preserved c =
    let path = c.in-Some.path in
    let meta = c.in-Some.meta in
    record {
      part = c.in_ok-add.ensures.subtree ∙ c.loop-path.invariant.part;
      files = λ q.
          c.in_ok-add.ensures.files q
          ∙ ap (λ (s : Subtree). or_else (at c.loop-path.listing.files q) (cond (covers s path && same_path q path) (Some meta) None)) c.loop-path.invariant.part
          ∙ ap (λ (o : Option Meta). or_else o (cond (covers c.args.subtree path && same_path q path) (Some meta) None)) (c.loop-path.invariant.files q)
          ∙ listed_more c.args.subtree q path meta c.loop-path.yielded;
    }
