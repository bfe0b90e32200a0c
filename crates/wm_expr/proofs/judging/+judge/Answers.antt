use Rattle.std.proofs.Common.{ℕ, ◌+◌, Bool, drop, arith, sym, ap, ◌∙◌}
use Rattle.std.specs.Prelude.{option_and_then}
use Rattle.std.specs.Bool.{then_some}
use Rattle.serde_json.specs.View.{items_view, view}
use Rattle.wm_expr.specs.Readings.{simple_term, term_of}
use Rattle.wm_expr.specs.Within.{left_by, left_by_all, read_within, terms_within}
use Rattle.wm_expr.proofs.Flat.{left_by_flat, of_no_parts, simple_flat}
use Rattle.wm_expr.proofs.Left.{left_at, left_by_list, no_room}
use Rattle.wm_expr.proofs.Within.{no_level, on_more}
use Rattle.wm_expr.proofs.judging.+judge.Goals as goal

pub judge_not-returns-in-len2-up : goal.judge_not-returns-in-len2-up
judge_not-returns-in-len2-up t c = sym (ap (left_by (c.args.room + 1)) (on_more c.args.levels c.args.parts.now c.in-len2-up.len_at_least))

pub judge_term-returns-in_err-below : goal.judge_term-returns-in_err-below
judge_term-returns-in_err-below t c =
    c.from_residual.ensures ∙ ap (left_by c.args.room) (sym (no_level c.args.levels (term_of (view c.args.value.now)) (omega (arith, c.in_err-below.ensures))))

pub judge_term-returns-in_err-left : goal.judge_term-returns-in_err-left
judge_term-returns-in_err-left t c =
    c.from_residual-in_err-left.ensures ∙ sym (no_room c.args.room (read_within c.args.levels (view c.args.value.now)) (omega (arith, c.in_err-left.ensures)))

pub judge_terms-returns-in_err-left : goal.judge_terms-returns-in_err-left
judge_terms-returns-in_err-left t c =
    let parts = c.args.parts.now in
    let i = c.loop-part.part-index in
    let levels = c.args.levels in
    c.from_residual.ensures
    ∙ (ap (option_and_then (λ (left : ℕ). left_by_all left (terms_within levels (items_view (drop (i + 1) parts))))) c.in_err-left.ensures
    ∙ (sym (left_at levels c.loop-part.left parts i c.part-item.result c.loop-part-test.true c.part-item.is) ∙ c.loop-part.invariant))

pub judge_terms-loop-part-preserved : goal.judge_terms-loop-part-preserved
judge_terms-loop-part-preserved t c =
    let parts = c.args.parts.now in
    let i = c.loop-part.part-index in
    let levels = c.args.levels in
    ap (option_and_then (λ (left : ℕ). left_by_all left (terms_within levels (items_view (drop (i + 1) parts))))) c.in_ok-left.ensures
    ∙ (sym (left_at levels c.loop-part.left parts i c.part-item.result c.loop-part-test.true c.part-item.is) ∙ c.loop-part.invariant)

pub judge_word-returns-in-allof : goal.judge_word-returns-in-allof
judge_word-returns-in-allof t c = c.judge_terms.ensures ∙ sym (left_by_list c.args.levels c.args.room c.args.word.now (items_view c.args.parts.now) c.in-allof.is)

pub judge_word-returns-in_default : goal.judge_word-returns-in_default
judge_word-returns-in_default t c =
    let word = c.args.word.now in
    let parts = items_view c.args.parts.now in
    c.then_some.ensures
    ∙ (ap (λ (b : Bool). then_some b c.args.room) c.is_simple_term.ensures
    ∙ sym (ap (left_by (c.args.room + 1)) (of_no_parts c.args.levels word parts c.in_default.not-not c.in_default.not-allof c.in_default.not-anyof)
    ∙ left_by_flat c.args.levels c.args.room (simple_term word parts) (simple_flat word parts)))
