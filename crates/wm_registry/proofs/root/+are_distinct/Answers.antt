use Rattle.std.proofs.Common.{◌≡◌, None, drop, position, sym, ap, ◌∙◌, true≢false}
use Rattle.std.proofs.lemmas.List.{take_rest}
use Rattle.std.specs.List.{IsDistinct}
use Rattle.std.specs.Option.{is_some}
use Rattle.std.specs.Str.{bytes_eq}
use Rattle.wm_registry.specs.Spelling.{names_of}
use Rattle.wm_registry.specs.Triggers.{is_named}
use Rattle.wm_registry.proofs.Named.{apart-nil, apart-cons, apart-tail, apart-head, none_is}
use Rattle.wm_registry.proofs.Parts.{on_true, on_false}
use Rattle.wm_registry.proofs.root.+are_distinct.Goals as goal

pub returns-in-empty-clause-apart : goal.returns-in-empty-clause-apart
returns-in-empty-clause-apart t c = apart-nil c.args.triggers.now c.in-empty.len_below

pub returns-then-is_none-clause-apart : goal.returns-then-is_none-clause-apart
returns-then-is_none-clause-apart t c =
    let triggers = c.args.triggers.now in
    let rest = take_rest triggers 1 in
    let named : c.name.result.now ≡ c.trigger-item.result.name = c.name.ensures in
    let place = rw rest at c.place_of.ensures in
    let none : position (is_named c.trigger-item.result.name) (drop 1 triggers) ≡ None = ap (λ n. position (is_named n) (drop 1 triggers)) (sym named) ∙ sym place ∙ none_is c.place_of.result c.if-is_none.ensures in
    on_true c.are_distinct.result (λ (h : IsDistinct bytes_eq (names_of (drop 1 triggers))). apart-cons c.trigger-item.result triggers c.in-len1-up.len_at_least c.trigger-item.is none h) (rw rest at c.are_distinct.ensures.apart)

pub returns-then-is_none-clause-not_apart : goal.returns-then-is_none-clause-not_apart
returns-then-is_none-clause-not_apart t c =
    let triggers = c.args.triggers.now in
    let rest = take_rest triggers 1 in
    on_false c.are_distinct.result (λ (h : IsDistinct bytes_eq (names_of (drop 1 triggers)) → ⊥). λ (d : IsDistinct bytes_eq (names_of triggers)). h (apart-tail triggers c.in-len1-up.len_at_least d)) (rw rest at c.are_distinct.ensures.not_apart)

pub returns-else-is_none-clause-not_apart : goal.returns-else-is_none-clause-not_apart
returns-else-is_none-clause-not_apart t c =
    let triggers = c.args.triggers.now in
    let rest = take_rest triggers 1 in
    let named : c.name.result.now ≡ c.trigger-item.result.name = c.name.ensures in
    let place = rw rest at c.place_of.ensures in
    rw c.if-is_none.false (λ (d : IsDistinct bytes_eq (names_of triggers)).
    let none = apart-head c.trigger-item.result triggers c.in-len1-up.len_at_least c.trigger-item.is d in
    absurd (true≢false (sym c.if-is_none.ensures ∙ ap is_some (place ∙ ap (λ n. position (is_named n) (drop 1 triggers)) named ∙ none))))
