use Rattle.std.proofs.Common.{◌≡◌, ◌≢◌, ◌++◌, ◌∙◌, ap, List, Option}
use Rattle.std.specs.Option.{option_map}
use Rattle.wm_disk.specs.declared.refusal.Refusal.{Refusal}
use Rattle.wm_disk.specs.declared.refusal.Refusal.TheVariants.{DeviceFailed, NoMemory as no_memory}
use Rattle.wm_names.specs.declared.entry.Meta.{Meta}
use Rattle.wm_crawler.specs.FileSystems.{SomePathFails}
use Rattle.wm_crawler.specs.Stats.{meta_of_stat}
use Rattle.wm_crawler.proofs.Batches.{asked_behind, fails_behind, if_err, on_ok}
use Rattle.wm_crawler.proofs.folder_tree.add_batch.Goals as goal

pub returns-clause-read : goal.returns-clause-read
returns-clause-read g c =
    let asked = asked_behind (λ path. option_map meta_of_stat (g.F.FileSystem.stat_at c.args.files.now path)) c.args.prefix.now c.args.paths.now _ c.in_ok-write_paths.ensures.written in
    on_ok c.add_metas.result (λ f s. f s ∙ ap (λ (l : List (Option Meta)). c.args.metas.now.items ++ l) asked) c.add_metas.ensures.read

pub returns-clause-refused : goal.returns-clause-refused
returns-clause-refused g c =
    if_err (λ (e : Refusal). e ≢ no_memory → (e ≡ DeviceFailed) × SomePathFails (g.F.FileSystem.may_fail c.args.files.now) _)
    (λ (e : Refusal). e ≢ no_memory → (e ≡ DeviceFailed) × SomePathFails (λ p. g.F.FileSystem.may_fail c.args.files.now (c.args.prefix.now ++ p)) c.args.paths.now)
    c.add_metas.result
    (λ e f ne. ((f ne).0, fails_behind (g.F.FileSystem.may_fail c.args.files.now) c.args.prefix.now c.args.paths.now _ c.in_ok-write_paths.ensures.written (f ne).1))
    c.add_metas.ensures.refused
