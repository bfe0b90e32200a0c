-- Terms that take nothing behind their first part.
use Rattle.std.proofs.Common.{◌≡◌, ◌≤◌, List, [], ◌∷◌, length, refl, ap, arith}
use Rattle.std.specs.Prelude.{None, option_map, option_and_then}
use Rattle.serde_json.specs.Data.{Data}
use Rattle.serde_json.specs.Find.{as_str}
use Rattle.serde_json.specs.View.{items_view}
use Rattle.serde_json.specs.declared.value.Value.{Value}
use Rattle.wm_names.specs.Entries.{kind_of}
use Rattle.wm_expr.specs.Readings.{scope_of, size_alone, suffix_term, type_term}
use Rattle.wm_expr.specs.Terms.{OfType}

pub suffix_alone : (d : Data) (rest : List Value) → 1 ≤ length rest → suffix_term d (items_view rest) ≡ None
suffix_alone d [] h = absurd (omega arith)
suffix_alone d (v ∷ vs) h = refl

pub type_alone : (d : Data) (rest : List Value) → 1 ≤ length rest → type_term d (items_view rest) ≡ None
type_alone d [] h = absurd (omega arith)
type_alone d (v ∷ vs) h = refl

pub of_no_kind : (d : Data) (rest : List Value) → option_and_then kind_of (as_str d) ≡ None → type_term d (items_view rest) ≡ None
of_no_kind d [] h = ap (option_map OfType) h
of_no_kind d (v ∷ vs) h = refl

pub no_two : (rest : List Value) → 2 ≤ length rest → size_alone (items_view rest) ≡ None
no_two [] h = absurd (omega arith)
no_two (v ∷ []) h = absurd (omega arith)
no_two (v ∷ w ∷ vs) h = refl

pub no_two_words : (rest : List Value) → 2 ≤ length rest → scope_of (items_view rest) ≡ None
no_two_words [] h = absurd (omega arith)
no_two_words (v ∷ []) h = absurd (omega arith)
no_two_words (v ∷ w ∷ vs) h = refl
