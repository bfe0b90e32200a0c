-- Terms that hold no other: each is one term, one deep.
use Rattle.std.proofs.Common.{◌≡◌, ℕ, ◌+◌, ◌-◌, Bool, true, false, cond, List, refl, ap, ◌∙◌, arith}
use Rattle.std.specs.Prelude.{◌≢◌, nat_le, Option, Some, None, IfSome, is_some, option_map, option_and_then, codes}
use Rattle.std.specs.Str.{bytes_eq}
use Rattle.std.specs.Bool.{then_some}
use Rattle.std.proofs.lemmas.Bool.{false_from_ne_true, le-leb}
use Rattle.std.proofs.lemmas.Slice.Eq.{bytes_eq-Decides}
use Rattle.serde_json.specs.Data.{Data, Items, no_items, item}
use Rattle.wm_expr.specs.Limits.{count, depth, taken_from}
use Rattle.wm_expr.specs.Readings.{plain_of, simple_term, suffix_term, type_term}
use Rattle.wm_expr.specs.Terms.{Term, Name, Suffix, OfType, Size, Match}
use Rattle.wm_expr.specs.Within.{left_by, within, word_within}

abbrev IsFlat : Term → Type 0
IsFlat x = (depth x ≡ 1) × (count x ≡ 1)

abbrev HasFlat : Option Term → Type 0
HasFlat o = IfSome o IsFlat

-- ---- what is flat

of_choice : (b : Bool) (o p : Option Term) → HasFlat o → HasFlat p → HasFlat (cond b o p)
of_choice true o p h k = h
of_choice false o p h k = k

of_one : {X : Type 0} (f : X → Term) → ((x : X) → IsFlat (f x)) → (o : Option X) → HasFlat (option_map f o)
of_one f h None = tt
of_one f h (Some x) = h x

of_both : {X Y : Type 0} (f : X → Y → Term) → ((x : X) (y : Y) → IsFlat (f x y)) → (o : Option X) (p : Option Y) → HasFlat (option_and_then (λ x. option_map (f x) p) o)
of_both f h None p = tt
of_both f h (Some x) p = of_one (f x) (h x) p

pub plain_flat : (word : List ℕ) → HasFlat (plain_of word)
plain_flat word =
    of_choice (bytes_eq word (codes "true")) _ _ (refl, refl)
    (of_choice (bytes_eq word (codes "false")) _ _ (refl, refl) (of_choice (bytes_eq word (codes "exists")) _ _ (refl, refl) (of_choice (bytes_eq word (codes "empty")) _ _ (refl, refl) tt)))

suffix_flat : (d : Data) (ds : Items) → HasFlat (suffix_term d ds)
suffix_flat d no_items = of_one Suffix (λ x. (refl, refl)) _
suffix_flat d (item e ds) = tt

type_flat : (d : Data) (ds : Items) → HasFlat (type_term d ds)
type_flat d no_items = of_one OfType (λ x. (refl, refl)) _
type_flat d (item e ds) = tt

pub simple_flat : (word : List ℕ) (ds : Items) → HasFlat (simple_term word ds)
simple_flat word no_items = plain_flat word
simple_flat word (item d ds) =
    of_choice (bytes_eq word (codes "name")) _ _ (of_both Name (λ x y. (refl, refl)) _ _)
    (of_choice (bytes_eq word (codes "suffix")) _ _ (suffix_flat d ds)
    (of_choice (bytes_eq word (codes "type")) _ _ (type_flat d ds)
    (of_choice (bytes_eq word (codes "size")) _ _ (of_both Size (λ x y. (refl, refl)) _ _) (of_choice (bytes_eq word (codes "match")) _ _ (of_both Match (λ x y. (refl, refl)) _ _) tt))))

-- one is taken for a flat term
pub left_by_flat : (levels room : ℕ) (o : Option Term) → HasFlat o → left_by (room + 1) (within (levels + 1) o) ≡ then_some (is_some o) room
left_by_flat levels room None h = refl
left_by_flat levels room (Some x) h =
    ap (λ (n : ℕ). left_by (room + 1) (cond (nat_le n (levels + 1)) (Some x) None)) h.0
    ∙ (ap (λ (b : Bool). left_by (room + 1) (cond b (Some x) None)) (le-leb 1 (levels + 1) (omega arith))
    ∙ (ap (taken_from (room + 1)) h.1 ∙ (ap (λ (b : Bool). cond b (Some (room + 1 - 1)) None) (le-leb 1 (room + 1) (omega arith)) ∙ ap (λ (n : ℕ). Some n) (omega arith))))

-- ---- words

apart : (word text : List ℕ) → word ≢ text → bytes_eq word text ≡ false
apart word text ne = false_from_ne_true (bytes_eq word text) (λ e. ne ((bytes_eq-Decides word text).0 e))

pub of_no_parts : (levels : ℕ) (word : List ℕ) (ds : Items) → word ≢ codes "not" → word ≢ codes "allof" → word ≢ codes "anyof" → word_within levels word ds ≡ within (levels + 1) (simple_term word ds)
of_no_parts levels word ds not_not not_allof not_anyof =
    rw (apart word (codes "not") not_not, apart word (codes "allof") not_allof, apart word (codes "anyof") not_anyof) refl
