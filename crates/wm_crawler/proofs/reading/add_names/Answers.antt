use Rattle.std.proofs.Common.{◌+◌, ◌++◌, [], ◌∷◌, not, take, ap, sym, ◌∙◌, append_assoc}
use Rattle.std.specs.List.{cons_option, count_by, filter_map}
use Rattle.wm_names.specs.Paths.{Path}
use Rattle.wm_names.specs.Entries.{is_fit}
use Rattle.wm_crawler.specs.Levels.{counted, path_of}
use Rattle.wm_crawler.proofs.Steps.{count_more, counted_step, filtered_more}
use Rattle.wm_crawler.proofs.reading.add_names.Goals as goal

pub loop-name-preserved : goal.loop-name-preserved
loop-name-preserved c =
    let folder = c.args.folder.now in
    let names = c.args.names.now in
    let i = c.loop-name.name-index in
    let name = c.name-item.result in
    let old = c.args.level.now in
    let so_far = filter_map (path_of folder) (take i names) in
    let unfit = λ (n : Path). not (is_fit folder n) in
    record {
      paths = c.in_ok-add_name.ensures.paths
          ∙ ap (λ (n : Path). c.loop-name.level.paths.items ++ cons_option (path_of folder n) []) c.as_str.ensures
          ∙ ap (λ v. v ++ cons_option (path_of folder name) []) c.loop-name.invariant.paths
          ∙ append_assoc old.paths.items so_far (cons_option (path_of folder name) [])
          ∙ ap (λ v. old.paths.items ++ v) (sym (filtered_more (path_of folder) names i name c.loop-name-test.true c.name-item.is));
      faults = counted_step old.faults (count_by unfit (take i names)) (count_by unfit (name ∷ [])) (count_by unfit (take (i + 1) names))
          c.loop-name.level.faults c.add_name.new.level.faults c.loop-name.invariant.faults
          (c.in_ok-add_name.ensures.faults ∙ ap (λ (n : Path). counted (c.loop-name.level.faults + count_by unfit (n ∷ []))) c.as_str.ensures)
          (count_more unfit names i name c.loop-name-test.true c.name-item.is);
    }
