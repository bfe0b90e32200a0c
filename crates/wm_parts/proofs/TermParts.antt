-- The term for which a value is refused, by the first of its parts that is refused; that part is less deep.
use Rattle.std.proofs.Common.{◌≡◌, ◌≤◌, ◌<◌, Bool, true, false, Option, None, Some, refl, ap, subst, arith}
use Rattle.std.specs.Prelude.{is_some, option_map, unwrap_or, if◌then◌else◌}
use Rattle.serde_json.specs.Data.{Data, Items, array, boolean, depth, item, items_depth, no_items, null, number, object, string}
use Rattle.wm_expr.specs.Readings.{expression_of}
use Rattle.wm_parts.specs.RefusedTerms.{first_refused, holds_terms, terms_in, refused_part, refused_term}

chosen : (b : Bool) (d : Data) (x y : Option Data) → x ≡ option_map refused_term y → (if b then x else Some (refused_term d)) ≡ option_map refused_term (if b then y else Some d)
chosen true d x y e = e
chosen false d x y e = refl

pub part_is : (ds : Items) → refused_part ds ≡ option_map refused_term (first_refused ds)
part_is no_items = refl
part_is (item d ds) = chosen (is_some (expression_of d)) d (refused_part ds) (first_refused ds) (part_is ds)

by_word : (b : Bool) (ds : Items) (whole : Data) → (if b then unwrap_or (refused_part ds) whole else whole) ≡ unwrap_or (option_map refused_term (first_refused (if b then ds else no_items))) whole
by_word true ds whole = ap (λ x. unwrap_or x whole) (part_is ds)
by_word false ds whole = refl

pub term_is : (d : Data) → refused_term d ≡ unwrap_or (option_map refused_term (first_refused (terms_in d))) d
term_is null = refl
term_is (boolean b) = refl
term_is (number n) = refl
term_is (string s) = refl
term_is (object ms) = refl
term_is (array no_items) = refl
term_is (array (item null ds)) = refl
term_is (array (item (boolean b) ds)) = refl
term_is (array (item (number n) ds)) = refl
term_is (array (item (array es) ds)) = refl
term_is (array (item (object ms) ds)) = refl
term_is (array (item (string word) ds)) = by_word (holds_terms word) ds (array (item (string word) ds))

-- ---- depth

abbrev Among : Items → Option Data → Type 0
Among ds None = Unit {0}
Among ds (Some p) = depth p ≤ items_depth ds

chosen_among : (b : Bool) (d : Data) (ds : Items) (x : Option Data) → Among ds x → Among (item d ds) (if b then x else Some d)
chosen_among true d ds None h = tt
chosen_among true d ds (Some p) h = omega (arith, h)
chosen_among false d ds x h = omega arith

first_among : (ds : Items) → Among ds (first_refused ds)
first_among no_items = tt
first_among (item d ds) = chosen_among (is_some (expression_of d)) d ds (first_refused ds) (first_among ds)

abbrev Below : Data → Option Data → Type 0
Below d None = Unit {0}
Below d (Some p) = depth p < depth d

from_among : (word : Data) (ds : Items) (x : Option Data) → Among ds x → Below (array (item word ds)) x
from_among word ds None h = tt
from_among word ds (Some p) h = omega (arith, h)

below_word : (b : Bool) (word : Data) (ds : Items) → Below (array (item word ds)) (first_refused (if b then ds else no_items))
below_word true word ds = from_among word ds (first_refused ds) (first_among ds)
below_word false word ds = tt

pub first_below : (d : Data) → Below d (first_refused (terms_in d))
first_below null = tt
first_below (boolean b) = tt
first_below (number n) = tt
first_below (string s) = tt
first_below (object ms) = tt
first_below (array no_items) = tt
first_below (array (item null ds)) = tt
first_below (array (item (boolean b) ds)) = tt
first_below (array (item (number n) ds)) = tt
first_below (array (item (array es) ds)) = tt
first_below (array (item (object ms) ds)) = tt
first_below (array (item (string word) ds)) = below_word (holds_terms word) (string word) ds

pub shallower : (d p : Data) → first_refused (terms_in d) ≡ Some p → depth p < depth d
shallower d p e = subst (Below d) e (first_below d)
