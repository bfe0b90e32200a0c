use Rattle.std.proofs.Common.{Some, map, option_map, sym, ap, ◌∙◌}
use Rattle.serde_json.specs.View.{view}
use Rattle.wm_lines.specs.Keys.{flag_in}
use Rattle.wm_lines.specs.TriggerLines.{file_count_in, stdin_in, words_in}
use Rattle.wm_lines.proofs.TriggerLemmas.{from_parts, made_by_rules}
use Rattle.wm_lines.proofs.triggers.trigger_with.Goals as goal

pub returns-clause-ok : goal.returns-clause-ok
returns-clause-ok c =
    let d = view c.args.object.now in
    let got = c.in-Some-Some-Some-Some in
    made_by_rules _ _ _ c.new.ensures.ok c.new.ensures.fits
    (from_parts d (option_map (λ t. t.now) c.args.expression) got.name.now (map (λ w. w.now) c.deref.result.now) got.append_files got.stdin got.count (sym c.has_known_keys.ensures ∙ c.if-not-has_known_keys.false)
    (sym got.ensures)
    (ap words_in (sym c.get-4.ensures) ∙ c.in_ok-words.ensures.ok ∙ ap (λ ws. Some (map (λ w. w.now) ws)) (sym c.deref.ensures.value))
    (ap flag_in (sym c.get.ensures) ∙ sym got.ensures')
    (ap stdin_in (sym c.get-2.ensures) ∙ sym got.ensures'')
    (ap file_count_in (sym c.get-3.ensures) ∙ sym got.ensures'''))
