use Rattle.std.proofs.Common.{◌≡◌, ◌++◌, ◌∷◌, [], List, true, false, refl, sym, ap, ◌∙◌}
use Rattle.std.specs.Prelude.{Option, Some, is_some, option_and_then}
use Rattle.std.specs.FinMap.{find}
use Rattle.serde_json.specs.Data.{Items}
use Rattle.serde_json.specs.View.{view, items_view}
use Rattle.serde_json.specs.declared.value.Value.{Value}
use Rattle.wm_names.specs.Paths.{path_cmp}
use Rattle.wm_names.specs.declared.entry.Meta.{Meta}
use Rattle.wm_view.specs.Files.{Files}
use Rattle.wm_lines.specs.ListingLines.{file_of, files_in, files_of, once}
use Rattle.wm_lines.specs.PairLines.{by_text}
use Rattle.wm_lines.proofs.EachLemmas.{each_step}
use Rattle.wm_lines.proofs.ListedLemmas.{all_again, by_text-insert, by_text-lookup, once-new}
use Rattle.wm_lines.proofs.listing.files.Goals as goal

pub returns-then-is_some-clause-refused : goal.returns-then-is_some-clause-refused
returns-then-is_some-clause-refused c =
    let done = c.loop-item.invariant.0 in
    let text = c.in-Some-file.text in
    let meta = c.in-Some-file.meta in
    let found : is_some (find path_cmp text.now (by_text c.loop-item.files.entries)) ≡ true =
    ap (λ (o : Option Meta). is_some o) (sym (by_text-lookup text c.loop-item.files.entries)) ∙ (ap (λ (o : Option Meta). is_some o) (sym c.in_ok-insert.ensures.old) ∙ sym c.if-is_some.ensures) in
    let whole : files_of (view c.args.value.now) ≡ files_in (items_view c.deref-item-items.result.now) =
    ap (λ (o : Option Items). option_and_then files_in o) (sym c.in-Some.ensures) ∙ ap (λ (l : List Value). files_in (items_view l)) (sym c.deref-item-items.ensures.value) in
    let read = each_step file_of c.deref-item-items.result.now c.loop-item.item-index c.item-item.result done (text.now, meta) _ c.loop-item-test.true c.item-item.is (sym c.in-Some-file.ensures) c.loop-item.invariant.1 in
    λ ne. (refl, whole ∙ (ap (λ (o : Option Files). option_and_then once o) read ∙ all_again done _ text.now meta _ c.loop-item.invariant.2 found))

pub loop-item-preserved : goal.loop-item-preserved
loop-item-preserved c =
    let done = c.loop-item.invariant.0 in
    let text = c.in-Some-file.text in
    let meta = c.in-Some-file.meta in
    let new : is_some (find path_cmp text.now (by_text c.loop-item.files.entries)) ≡ false =
    ap (λ (o : Option Meta). is_some o) (sym (by_text-lookup text c.loop-item.files.entries)) ∙ (ap (λ (o : Option Meta). is_some o) (sym c.in_ok-insert.ensures.old) ∙ sym c.if-is_some.ensures) in (
      done ++ (text.now, meta) ∷ [],
      each_step file_of c.deref-item-items.result.now c.loop-item.item-index c.item-item.result done (text.now, meta) _ c.loop-item-test.true c.item-item.is (sym c.in-Some-file.ensures) c.loop-item.invariant.1,
      once-new done _ text.now meta c.loop-item.invariant.2 new ∙ ap (λ (files : Files). Some files) (sym (ap by_text c.in_ok-insert.ensures.entries ∙ by_text-insert text meta c.loop-item.files.entries)),
    )
