use Rattle.std.proofs.Common.{rules, tests, ◌≡◌, ◌++◌, ◌∙◌, refl, ap, subst, List, Option, Some, map, length}
use Rattle.std.specs.Option.{option_map}
use Rattle.std.specs.String.{string_bytes}
use Rattle.std.proofs.lemmas.Result.{err_from_is_err_and}
use Rattle.wm_names.specs.Paths.{Path}
use Rattle.wm_names.specs.declared.entry.Meta.{Meta}
use Rattle.wm_crawler.specs.FileSystems.{place_path}
use Rattle.wm_crawler.specs.Stats.{meta_of_stat}
use Rattle.wm_crawler.proofs.Batches.{all_asked, all_behind_slash, among_later, among_now, as_many, batch_more, both_parts, fails_below_root}
use Rattle.wm_crawler.proofs.folder_tree.metas_below.Goals as goal

pub returns-in_err-add_batch-clause-refused : goal.returns-in_err-add_batch-clause-refused
returns-in_err-add_batch-clause-refused g c =
    let p = err_from_is_err_and c.from_residual-in_err-add_batch.result c.from_residual-in_err-add_batch.ensures.1 in
    let split = both_parts _ c.loop-rest.rest.now c.split_at.result.0.now c.split_at.result.1.now c.split_at.ensures.front c.split_at.ensures.back in
    rw (p.1, p.2) (λ ne.
    let h = c.in_err-add_batch.ensures.refused ne in (
      h.0,
      fails_below_root (g.F.FileSystem.may_fail c.args.files.now) c.args.root.now c.deref.result.now (place_path c.args.root.now) c.args.paths.now c.split_at.result.0.now
          (c.deref.ensures ∙ c.in_ok-write_path.ensures) (λ q. refl)
          (λ q a. c.loop-rest.invariant.among q (among_now q c.loop-rest.rest.now c.split_at.result.0.now c.split_at.result.1.now split a)) h.1,
    ))

pub loop-rest-preserved : goal.loop-rest-preserved
loop-rest-preserved g c =
    let split = both_parts _ c.loop-rest.rest.now c.split_at.result.0.now c.split_at.result.1.now c.split_at.ensures.front c.split_at.ensures.back in
    let asked = λ (prefix path : Path). option_map meta_of_stat (g.F.FileSystem.stat_at c.args.files.now (prefix ++ path)) in
    record {
      each = search rules;
      texts =
          let room : c.loop-rest.texts.len ≡ 64 = search rules in
          let wrote : length c.add_batch.new.texts ≡ c.loop-rest.texts.len = search rules in
          as_many c.loop-rest.texts.len c.add_batch.new.texts _ wrote ∙ room;
      read = λ s.
          batch_more (asked (string_bytes c.write_path.new.text)) c.args.paths.now c.loop-rest.rest.now c.split_at.result.0.now c.split_at.result.1.now c.loop-rest.metas.items c.add_batch.new.metas.items
          split (c.loop-rest.invariant.read s)
          (subst (λ (prefix : Path). c.add_batch.new.metas.items ≡ c.loop-rest.metas.items ++ map (asked prefix) c.split_at.result.0.now) c.deref.ensures (c.in_ok-add_batch.ensures.read s));
      among = λ q a. c.loop-rest.invariant.among q (among_later q c.loop-rest.rest.now c.split_at.result.0.now c.split_at.result.1.now split a);
    }

pub returns-clause-read : goal.returns-clause-read
returns-clause-read g c = λ s.
    let none : length c.loop-rest.rest.now ≡ 0 = search (rules, tests) in
    let asked = λ (path : Path). option_map meta_of_stat (g.F.FileSystem.stat_at c.args.files.now path) in
    let all = all_asked (λ (path : Path). asked (string_bytes c.write_path.new.text ++ path)) c.args.paths.now c.loop-rest.rest.now c.loop-rest.metas.items none (c.loop-rest.invariant.read s) in
    ap (λ (l : List (Option Meta)). map Some l) all ∙ all_behind_slash asked c.args.root.now (string_bytes c.write_path.new.text) c.args.paths.now c.in_ok-write_path.ensures
