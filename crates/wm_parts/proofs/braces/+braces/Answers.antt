use Rattle.std.proofs.Common.{◌≡◌, ◌≤◌, ℕ, suc, List, [], ◌∷◌, Option, Some, Bor, ap, drop, get_or, length, subst, sym, ◌∙◌, true≢false, arith}
use Rattle.std.proofs.lemmas.List.{take_rest}
use Rattle.std.specs.Prelude.{is_some, option_map, unwrap_or}
use Rattle.serde_json.proofs.Views.{view-Array}
use Rattle.serde_json.specs.Data.{Data, Items, array, boolean, item, null, number, object, string}
use Rattle.serde_json.specs.Find.{as_str}
use Rattle.serde_json.specs.View.{items_view, view}
use Rattle.serde_json.specs.declared.value.Value.{Value}
use Rattle.wm_parts.specs.Braces.{braced, braced_behind, braced_list}
use Rattle.wm_parts.proofs.braces.+braces.Goals as goal

-- behind a word stands what a list holds
behind : (levels : ℕ) (d : Data) (word : List ℕ) (ds : Items) → as_str d ≡ Some word → braced_list levels (item d ds) ≡ braced_behind levels word ds
behind levels null word ds is = absurd (true≢false (sym (ap is_some is)))
behind levels (boolean b) word ds is = absurd (true≢false (sym (ap is_some is)))
behind levels (number n) word ds is = absurd (true≢false (sym (ap is_some is)))
behind levels (string text) word ds is = ap (λ (w : List ℕ). braced_behind levels w ds) (ap (λ o. unwrap_or o []) is)
behind levels (array _) word ds is = absurd (true≢false (sym (ap is_some is)))
behind levels (object _) word ds is = absurd (true≢false (sym (ap is_some is)))

-- a list is its first item, and those behind that
split : (items : List Value) (first : Value) → 1 ≤ length items → first ≡ get_or items 0 first → items_view items ≡ item (view first) (items_view (drop 1 items))
split [] first some is = absurd (omega (arith, some))
split (x ∷ xs) first some is = ap (λ (v : Value). item (view v) (items_view xs)) (sym is)

pub braced_list-returns-in-Some : goal.braced_list-returns-in-Some
braced_list-returns-in-Some t c =
    let word : as_str (view c.first-item.result) ≡ Some c.in-Some.word.now = sym c.as_str.ensures ∙ ap (option_map (λ (text : Bor (List ℕ)). text.now)) c.in-Some.is in
    let list = split c.args.items.now c.first-item.result c.in-len1-up.len_at_least c.first-item.is in
    c.braced_behind.ensures ∙ ap (λ (rest : List Value). braced_behind c.args.levels c.in-Some.word.now (items_view rest)) (take_rest c.args.items.now 1) ∙ sym (ap (braced_list c.args.levels) list ∙ behind c.args.levels (view c.first-item.result) c.in-Some.word.now (items_view (drop 1 c.args.items.now)) word)

-- the levels of a list are one below those of its term
pub braced_term-returns-in-Array : goal.braced_term-returns-in-Array
braced_term-returns-in-Array t c =
    let told = option_map (λ (text : Bor (List ℕ)). text.now) c.braced_list.result in
    let levels : c.args.levels ≡ suc c.in_ok-below.below = omega (arith, c.in_ok-below.ensures) in
    let term : view c.args.term.now ≡ array (items_view c.in-Array.items.items) = ap view c.in-Array.is ∙ view-Array c.in-Array.items in
    let list : told ≡ braced_list c.in_ok-below.below (items_view c.in-Array.items.items) = c.braced_list.ensures ∙ ap (λ items. braced_list c.in_ok-below.below (items_view items)) c.deref.ensures.value in
    subst (λ (n : ℕ). told ≡ braced n (view c.args.term.now)) (sym levels) (subst (λ (d : Data). told ≡ braced (suc c.in_ok-below.below) d) (sym term) list)
