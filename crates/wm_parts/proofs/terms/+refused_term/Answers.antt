use Rattle.std.proofs.Common.{◌≡◌, ◌<◌, ℕ, Option, None, Some, Bor, ap, subst, sym, ◌∙◌}
use Rattle.std.specs.Prelude.{IfSome, option_map, unwrap_or}
use Rattle.serde_json.specs.Data.{Data, depth}
use Rattle.serde_json.specs.View.{items_view, view}
use Rattle.serde_json.specs.declared.value.Value.{Value}
use Rattle.wm_expr.specs.Readings.{expression_of}
use Rattle.wm_parts.specs.RefusedTerms.{first_refused, terms_in, refused_term}
use Rattle.wm_parts.proofs.TermParts.{shallower, term_is}
use Rattle.wm_parts.proofs.terms.+refused_term.Goals as goal

-- the first refused part of a value, by what the call found
found : (d : Data) (items : _) (r : Option (Bor Value)) → option_map (λ v. view v.now) r ≡ first_refused items → items ≡ terms_in d → option_map (λ v. view v.now) r ≡ first_refused (terms_in d)
found d items r e is = e ∙ ap first_refused is

pub refused_term-requires : goal.refused_term-requires
refused_term-requires t c =
    let e : option_map (λ (v : Bor Value). view v.now) c.first_refused.result ≡ first_refused (terms_in (view c.args.value.now)) = found (view c.args.value.now) (items_view c.parts_of.result.now) c.first_refused.result c.first_refused.ensures.value c.parts_of.ensures in
    let part : first_refused (terms_in (view c.args.value.now)) ≡ Some (view c.in-Some.part.now) = sym e ∙ ap (option_map (λ (v : Bor Value). view v.now)) c.in-Some.is in
    let below : depth (view c.in-Some.part.now) < depth (view c.args.value.now) = shallower _ _ part in
    let refused = subst (λ (r : Option (Bor Value)). IfSome r (λ v. expression_of (view v.now) ≡ None)) c.in-Some.is c.first_refused.ensures.refused in
    (subst (λ (n : ℕ). depth (view c.in-Some.part.now) < n) c.decreases below, refused)

pub returns-in-Some-clause-first : goal.returns-in-Some-clause-first
returns-in-Some-clause-first t c =
    let e : option_map (λ (v : Bor Value). view v.now) c.first_refused.result ≡ first_refused (terms_in (view c.args.value.now)) = found (view c.args.value.now) (items_view c.parts_of.result.now) c.first_refused.result c.first_refused.ensures.value c.parts_of.ensures in
    let part : first_refused (terms_in (view c.args.value.now)) ≡ Some (view c.in-Some.part.now) = sym e ∙ ap (option_map (λ (v : Bor Value). view v.now)) c.in-Some.is in
    c.refused_term.ensures.first ∙ sym (term_is (view c.args.value.now) ∙ ap (λ (x : Option Data). unwrap_or (option_map refused_term x) (view c.args.value.now)) part)

pub returns-in-None-clause-first : goal.returns-in-None-clause-first
returns-in-None-clause-first t c =
    let e : option_map (λ (v : Bor Value). view v.now) c.first_refused.result ≡ first_refused (terms_in (view c.args.value.now)) = found (view c.args.value.now) (items_view c.parts_of.result.now) c.first_refused.result c.first_refused.ensures.value c.parts_of.ensures in
    let none : first_refused (terms_in (view c.args.value.now)) ≡ None = sym e ∙ ap (option_map (λ (v : Bor Value). view v.now)) c.in-None.is in
    sym (term_is (view c.args.value.now) ∙ ap (λ (x : Option Data). unwrap_or (option_map refused_term x) (view c.args.value.now)) none)
