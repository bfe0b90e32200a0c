use Rattle.std.proofs.Common.{◌≡◌, false, List, length, get_or, Some, None, sym, ap, ◌∙◌, arith}
use Rattle.wm_registry.specs.Endings.{count_fits}
use Rattle.wm_registry.specs.Roots.{State, with_triggers}
use Rattle.wm_registry.specs.Spelling.{trigger_spelling}
use Rattle.wm_registry.specs.Triggers.{Definition, defined, is_named, same_definition}
use Rattle.wm_registry.specs.declared.reply.Reply.TheVariants.{Changed, Replaced}
use Rattle.wm_registry.proofs.Branches.{by_size, old-le-state, same_any, same_place, size_added, size_replaced, trigger_added, trigger_refused, trigger_replaced, trigger_unplaced}
use Rattle.wm_registry.proofs.Sizes.{none_passes, some_passes}
use Rattle.wm_registry.proofs.registry.Registry.reply_to_trigger.Goals as goal

pub unless_full-requires-clause-less : goal.unless_full-requires-clause-less
unless_full-requires-clause-less c =
    let t = c.args.trigger.now in
    let root = c.args.root.now in
    let old = c.index-triggers-place.result in
    let place = same_place c.name.result.now t.name c.as_slice-triggers.result.now root.triggers (Some c.in-Some.place) c.name.ensures c.as_slice-triggers.ensures.value c.in-Some.ensures in
    let is : old ≡ get_or root.triggers c.in-Some.place old = c.index-triggers-place.is ∙ ap (λ l. get_or l c.in-Some.place old) c.as_slice-triggers.ensures.value in
    omega (arith, c.size_as-old.ensures.exact, ap (λ (st : State). length (trigger_spelling st.version old)) c.self.view_is, ap (λ (x : Definition). length (trigger_spelling c.args.self.now.version x)) is, old-le-state c.args.self.now c.args.path.now t root c.in-Some.place old c.requires place)

pub returns-in-Some : goal.returns-in-Some
returns-in-Some c =
    let s = c.args.self.now in
    let path = c.args.path.now in
    let t = c.args.trigger.now in
    let root = c.args.root.now in
    let old = c.index-triggers-place.result in
    let place = same_place c.name.result.now t.name c.as_slice-triggers.result.now root.triggers (Some c.in-Some.place) c.name.ensures c.as_slice-triggers.ensures.value c.in-Some.ensures in
    let is : old ≡ get_or root.triggers c.in-Some.place old = c.index-triggers-place.is ∙ ap (λ l. get_or l c.in-Some.place old) c.as_slice-triggers.ensures.value in
    let bytes = ap (λ (x : Definition). length (trigger_spelling s.version x)) is in
    let of_old = ap (λ (st : State). length (trigger_spelling st.version old)) c.self.view_is in
    let of_new = ap (λ (st : State). length (trigger_spelling st.version t)) c.self.view_is in
    let new = by_size (with_triggers s path root (defined t root.triggers)) Replaced c.unless_full.result _
    (omega (arith, size_replaced s path t root c.in-Some.place old c.requires place, bytes, of_old, of_new, c.size_as.ensures.exact, c.size_as-old.ensures.exact)) c.unless_full.ensures in
    trigger_replaced s path t root c.unless_full.result
    (ap (λ (st : State). count_fits st.version t.max_files_stdin) (sym c.self.view_is) ∙ sym c.if-not-fits_version.ensures)
    (same_any (same_definition t) c.as_slice-triggers.result.now root.triggers false c.as_slice-triggers.ensures.value c.if-is_defined.ensures)
    (some_passes (is_named t.name) root.triggers c.in-Some.place place)
    new

pub returns-then-triggers : goal.returns-then-triggers
returns-then-triggers c =
    let t = c.args.trigger.now in
    let root = c.args.root.now in
    let place = same_place c.name.result.now t.name c.as_slice-triggers.result.now root.triggers None c.name.ensures c.as_slice-triggers.ensures.value c.in-None.ensures in
    trigger_refused c.args.self.now c.args.path.now t root
    (ap (λ (st : State). count_fits st.version t.max_files_stdin) (sym c.self.view_is) ∙ sym c.if-not-fits_version.ensures)
    (same_any (same_definition t) c.as_slice-triggers.result.now root.triggers false c.as_slice-triggers.ensures.value c.if-is_defined.ensures)
    (none_passes (is_named t.name) root.triggers place)
    (omega (arith, ap (λ (l : List Definition). length l) c.as_slice-triggers.ensures.value))

pub returns-else-triggers : goal.returns-else-triggers
returns-else-triggers c =
    let s = c.args.self.now in
    let path = c.args.path.now in
    let t = c.args.trigger.now in
    let root = c.args.root.now in
    let place = same_place c.name.result.now t.name c.as_slice-triggers.result.now root.triggers None c.name.ensures c.as_slice-triggers.ensures.value c.in-None.ensures in
    let of_new = ap (λ (st : State). length (trigger_spelling st.version t)) c.self.view_is in
    let new = by_size (with_triggers s path root (defined t root.triggers)) Changed c.unless_full-in-None.result _
    (omega (arith, size_added s path t root c.requires place, of_new, c.size_as-in-None.ensures.exact)) c.unless_full-in-None.ensures in
    trigger_added s path t root c.unless_full-in-None.result
    (ap (λ (st : State). count_fits st.version t.max_files_stdin) (sym c.self.view_is) ∙ sym c.if-not-fits_version.ensures)
    (same_any (same_definition t) c.as_slice-triggers.result.now root.triggers false c.as_slice-triggers.ensures.value c.if-is_defined.ensures)
    (none_passes (is_named t.name) root.triggers place)
    (omega (arith, ap (λ (l : List Definition). length l) c.as_slice-triggers.ensures.value))
    new

pub returns-then-not-fits_version : goal.returns-then-not-fits_version
returns-then-not-fits_version c =
    trigger_unplaced c.args.self.now c.args.path.now c.args.trigger.now c.args.root.now
    (ap (λ (st : State). count_fits st.version c.args.trigger.now.max_files_stdin) (sym c.self.view_is) ∙ sym c.if-not-fits_version.ensures)
