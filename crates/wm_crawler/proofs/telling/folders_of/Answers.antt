use Rattle.std.proofs.Common.{◌++◌, [], ap, sym, ◌∙◌}
use Rattle.std.specs.List.{cons_option}
use Rattle.wm_crawler.specs.Levels.{folder_at}
use Rattle.wm_crawler.proofs.Steps.{filtered_more}
use Rattle.wm_crawler.proofs.telling.folders_of.Goals as goal

pub loop-entry-preserved : goal.loop-entry-preserved
loop-entry-preserved c =
    c.in_ok-add_folder.ensures
    ∙ ap (λ v. v ++ cons_option (folder_at c.entry-item.result) []) c.loop-entry.invariant
    ∙ sym (filtered_more folder_at c.args.found.now c.loop-entry.entry-index c.entry-item.result c.loop-entry-test.true c.entry-item.is)
