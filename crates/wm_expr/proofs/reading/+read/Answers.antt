use Rattle.std.proofs.Common.{ℕ, arith, List, Some, None, map, refl, sym, ap, ◌∙◌}
use Rattle.std.proofs.lemmas.Result.{err_from_is_err_and}
use Rattle.serde_json.specs.View.{items_view, view}
use Rattle.wm_expr.specs.Terms.{Term, Not}
use Rattle.wm_expr.specs.Readings.{term_of}
use Rattle.wm_expr.specs.Views.{term}
use Rattle.wm_expr.specs.Within.{word_within}
use Rattle.wm_expr.proofs.Views.{term_allof, term_anyof, term_not}
use Rattle.wm_expr.proofs.Within.{all_of_each, any_of_each, no_level, on_more, on_one}
use Rattle.wm_expr.proofs.reading.+read.Goals as goal

pub read_not-returns-in_err-read_term-in-len1-clause-refused :
    goal.read_not-returns-in_err-read_term-in-len1-clause-refused
read_not-returns-in_err-read_term-in-len1-clause-refused t c =
    let p = err_from_is_err_and c.from_residual.result c.from_residual.ensures.1 in
    rw (p.1, p.2) (λ ne.
    let h = c.in_err-read_term-in-len1.ensures.refused ne in
    (h.0, on_one c.args.levels c.args.parts.now c.part-item.result None c.in-len1.len_at_least c.in-len1.len_below c.part-item.is h.1))

pub read_not-returns-in_ok-new-in-len1-clause-ok :
    goal.read_not-returns-in_ok-new-in-len1-clause-ok
read_not-returns-in_ok-new-in-len1-clause-ok t c =
    let e = c.in_ok-read_term-in-len1.field-0 in
    on_one c.args.levels c.args.parts.now c.part-item.result (Some (term e)) c.in-len1.len_at_least c.in-len1.len_below c.part-item.is c.in_ok-read_term-in-len1.ensures.ok
    ∙ (ap (λ x. Some (Not (term x))) (sym c.in_ok-new-in-len1.ensures.ok) ∙ ap (λ (x : Term). Some x) (sym (term_not c.in_ok-new-in-len1.field-0)))

pub read_not-returns-in-len2-up-clause-refused :
    goal.read_not-returns-in-len2-up-clause-refused
read_not-returns-in-len2-up-clause-refused t c = λ ne. (refl, on_more c.args.levels c.args.parts.now c.in-len2-up.len_at_least)

pub read_term-returns-in_default-clause-refused :
    goal.read_term-returns-in_default-clause-refused
read_term-returns-in_default-clause-refused t c = λ ne. (refl, no_level c.args.levels (term_of (view c.args.value.now)) (omega (arith, c.in_default.ensures)))

pub read_word-returns-in_err-read_terms-in-allof-clause-refused :
    goal.read_word-returns-in_err-read_terms-in-allof-clause-refused
read_word-returns-in_err-read_terms-in-allof-clause-refused t c =
    let p = err_from_is_err_and c.from_residual.result c.from_residual.ensures.1 in
    rw (p.1, p.2) (λ ne.
    let h = c.in_err-read_terms-in-allof.ensures.refused ne in
    (h.0, ap (λ (word : List ℕ). word_within c.args.levels word (items_view c.args.parts.now)) c.in-allof.is ∙ all_of_each c.args.levels (items_view c.args.parts.now) None h.1))

pub read_word-returns-in_err-read_terms-in-anyof-clause-refused :
    goal.read_word-returns-in_err-read_terms-in-anyof-clause-refused
read_word-returns-in_err-read_terms-in-anyof-clause-refused t c =
    let p = err_from_is_err_and c.from_residual-in_err-read_terms-in-anyof.result c.from_residual-in_err-read_terms-in-anyof.ensures.1 in
    rw (p.1, p.2) (λ ne.
    let h = c.in_err-read_terms-in-anyof.ensures.refused ne in
    (h.0, ap (λ (word : List ℕ). word_within c.args.levels word (items_view c.args.parts.now)) c.in-anyof.is ∙ any_of_each c.args.levels (items_view c.args.parts.now) None h.1))

pub read_word-returns-in_ok-read_terms-in-allof-clause-ok :
    goal.read_word-returns-in_ok-read_terms-in-allof-clause-ok
read_word-returns-in_ok-read_terms-in-allof-clause-ok t c =
    let terms = c.in_ok-read_terms-in-allof.field-0 in
    ap (λ (word : List ℕ). word_within c.args.levels word (items_view c.args.parts.now)) c.in-allof.is
    ∙ (all_of_each c.args.levels (items_view c.args.parts.now) (Some (map term terms.items)) c.in_ok-read_terms-in-allof.ensures.ok ∙ ap (λ (x : Term). Some x) (sym (term_allof terms)))

pub read_word-returns-in_ok-read_terms-in-anyof-clause-ok :
    goal.read_word-returns-in_ok-read_terms-in-anyof-clause-ok
read_word-returns-in_ok-read_terms-in-anyof-clause-ok t c =
    let terms = c.in_ok-read_terms-in-anyof.field-0 in
    ap (λ (word : List ℕ). word_within c.args.levels word (items_view c.args.parts.now)) c.in-anyof.is
    ∙ (any_of_each c.args.levels (items_view c.args.parts.now) (Some (map term terms.items)) c.in_ok-read_terms-in-anyof.ensures.ok ∙ ap (λ (x : Term). Some x) (sym (term_anyof terms)))
