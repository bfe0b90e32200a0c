-- Whether a list of values has texts alone, value by value.
use Rattle.std.proofs.Common.{◌≡◌, ◌<◌, ◌≤◌, ◌&&◌, ℕ, Bool, true, false, List, [], ◌∷◌, None, length, take, get_or, map, refl, sym, ap, subst, ◌∙◌}
use Rattle.std.specs.Prelude.{is_some}
use Rattle.std.specs.List.{list_all}
use Rattle.std.proofs.lemmas.List.{take_all}
use Rattle.std.proofs.lemmas.List.Folds.{list_all-map, list_all_at}
use Rattle.serde_json.specs.Data.{Data, string}
use Rattle.serde_json.specs.Find.{as_str}
use Rattle.serde_json.specs.View.{items_of, items_view, view}
use Rattle.serde_json.specs.declared.value.Value.{Value}
use Rattle.wm_commands.specs.CommandAnswers.{are_texts}

abbrev is_text : Data → Bool
is_text value = is_some (as_str value)

by_value : (values : List Data) → are_texts (items_of values) ≡ list_all is_text values
by_value [] = refl
by_value (value ∷ values) = ap (λ b. is_some (as_str value) && b) (by_value values)

strings_are : (texts : List (List ℕ)) → are_texts (items_of (map string texts)) ≡ true
strings_are [] = refl
strings_are (text ∷ texts) = strings_are texts

-- values that were all read as texts are texts
pub are_all : (values : List Value) (i : ℕ) (texts : List (List ℕ)) → map string texts ≡ map view (take i values) → length values ≤ i → true ≡ are_texts (items_view values)
are_all values i texts is end =
    let whole : map string texts ≡ map view values = is ∙ ap (map view) (take_all i values end) in
    sym (subst (λ (ds : List Data). are_texts (items_of ds) ≡ true) whole (strings_are texts))

-- one that isn't read as a text is none
pub lacks_one : (values : List Value) (i : ℕ) (value : Value) → i < length values → value ≡ get_or values i value → as_str (view value) ≡ None → false ≡ are_texts (items_view values)
lacks_one values i value lt is none =
    let no : is_text (view (get_or values i value)) ≡ false = subst (λ (v : Value). is_text (view v) ≡ false) is (ap is_some none) in
    sym (by_value (map view values) ∙ list_all-map is_text view values ∙ list_all_at (λ v. is_text (view v)) values i value lt no)
