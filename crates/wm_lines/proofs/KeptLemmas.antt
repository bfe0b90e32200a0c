-- Expressions hold no floats, and so have texts of their own.
use Rattle.std.proofs.Common.{◌≡◌, ℕ, Bool, true, false, cond, List, [], ◌∷◌, is_some, Option, Some, None, Ok, Err, refl, sym, ap, ◌∙◌, codes, bytes_eq}
use Rattle.std.specs.List.{list_all}
use Rattle.std.specs.Map.{values_of}
use Rattle.std.specs.Prelude.{◌&&◌, option_and_then, option_map, unwrap_or}
use Rattle.serde_json.specs.Data.{Data, null, boolean, number, string, array, object, unsigned, negative, float, Items, no_items, item}
use Rattle.serde_json.specs.Find.{as_str}
use Rattle.serde_json.specs.Read.{read}
use Rattle.serde_json.specs.Written.{compact_text, has_float, items_have_float}
use Rattle.wm_disk.specs.declared.refusal.Refusal.TheVariants.{BadExpression}
use Rattle.wm_expr.specs.Limits.{keeps_limits}
use Rattle.wm_expr.specs.Patterns.{is_pattern}
use Rattle.wm_names.specs.Entries.{kind_of}
use Rattle.wm_expr.specs.Readings.{comparison_of, each, expression_of, joined, kept, list_term, match_term, name_term, not_term, one_or_many, scope_named, scope_of, simple_term, size_alone, size_of, size_term, suffix_term, term_from, term_of, terms_of, type_term}
use Rattle.wm_expr.specs.Terms.{AllOf, AnyOf, Match, Name, OfType, Size, Suffix, Term, Terms}
use Rattle.wm_names.specs.Paths.{Path}
use Rattle.wm_registry.specs.declared.root.Root.{Root}
use Rattle.wm_lines.specs.KeptExpressions.{expression_shown, has_expression, is_expression, kept_text}

-- ---- where an optional value made of others is there, so are they

nothing : {P : Type 0} → false ≡ true → P
nothing h = cc

first : {X Y : Type 0} (f : X → Option Y) (o : Option X) → is_some (option_and_then f o) ≡ true → is_some o ≡ true
first f None h = h
first f (Some x) h = refl

mapped : {X Y : Type 0} (f : X → Y) (o : Option X) → is_some (option_map f o) ≡ true → is_some o ≡ true
mapped f None h = h
mapped f (Some x) h = refl

second : {X Y Z : Type 0} (g : X → Y → Z) (o : Option X) (p : Option Y) → is_some (option_and_then (λ x. option_map (g x) p) o) ≡ true → is_some p ≡ true
second g None p h = nothing h
second g (Some x) p h = mapped (g x) p h

kept_some : {X : Type 0} (test : X → Bool) (o : Option X) → is_some (kept test o) ≡ true → is_some o ≡ true
kept_some test None h = h
kept_some test (Some x) h = refl

-- one of two
either_some : {X : Type 0} (b : Bool) (x y : Option X) (r : Bool) → (is_some x ≡ true → r ≡ false) → (is_some y ≡ true → r ≡ false) → is_some (cond b x y) ≡ true → r ≡ false
either_some true x y r f g h = f h
either_some false x y r f g h = g h

-- ---- parts of terms

text_free : (d : Data) → is_some (as_str d) ≡ true → has_float d ≡ false
text_free null h = nothing h
text_free (boolean b) h = nothing h
text_free (number n) h = nothing h
text_free (string s) h = refl
text_free (array ds) h = nothing h
text_free (object ms) h = nothing h

each_free : (ds : Items) → is_some (each as_str ds) ≡ true → items_have_float ds ≡ false
each_free no_items h = refl
each_free (item d ds) h =
    rw (text_free d (first _ (as_str d) h), each_free ds (second (λ x xs. x ∷ xs) (as_str d) (each as_str ds) h)) refl

many_free : (d : Data) → is_some (one_or_many d) ≡ true → has_float d ≡ false
many_free null h = nothing h
many_free (boolean b) h = nothing h
many_free (number n) h = nothing h
many_free (string s) h = refl
many_free (array ds) h = each_free ds h
many_free (object ms) h = nothing h

scope_free : (ds : Items) → is_some (scope_of ds) ≡ true → items_have_float ds ≡ false
scope_free no_items h = refl
scope_free (item d no_items) h = rw (text_free d (first scope_named (as_str d) h)) refl
scope_free (item d (item e ds)) h = nothing h

size_free : (d : Data) → is_some (size_of d) ≡ true → has_float d ≡ false
size_free null h = nothing h
size_free (boolean b) h = nothing h
size_free (number (unsigned n)) h = refl
size_free (number (negative z)) h = refl
size_free (number (float x)) h = nothing h
size_free (string s) h = refl
size_free (array ds) h = nothing h
size_free (object ms) h = nothing h

size_alone_free : (ds : Items) → is_some (size_alone ds) ≡ true → items_have_float ds ≡ false
size_alone_free no_items h = refl
size_alone_free (item d no_items) h = rw (size_free d h) refl
size_alone_free (item d (item e ds)) h = nothing h

-- ---- terms that hold no other

name_free : (d : Data) (ds : Items) → is_some (name_term d ds) ≡ true → items_have_float (item d ds) ≡ false
name_free d ds h = rw (many_free d (first _ (one_or_many d) h), scope_free ds (second Name (one_or_many d) (scope_of ds) h)) refl

suffix_free : (d : Data) (ds : Items) → is_some (suffix_term d ds) ≡ true → items_have_float (item d ds) ≡ false
suffix_free d no_items h = rw (many_free d (mapped Suffix (one_or_many d) h)) refl
suffix_free d (item e ds) h = nothing h

type_free : (d : Data) (ds : Items) → is_some (type_term d ds) ≡ true → items_have_float (item d ds) ≡ false
type_free d no_items h = rw (text_free d (first kind_of (as_str d) (mapped OfType (option_and_then kind_of (as_str d)) h))) refl
type_free d (item e ds) h = nothing h

size_term_free : (d : Data) (ds : Items) → is_some (size_term d ds) ≡ true → items_have_float (item d ds) ≡ false
size_term_free d ds h =
    let op = option_and_then comparison_of (as_str d) in
    rw (text_free d (first comparison_of (as_str d) (first _ op h)), size_alone_free ds (second Size op (size_alone ds) h)) refl

match_free : (d : Data) (ds : Items) → is_some (match_term d ds) ≡ true → items_have_float (item d ds) ≡ false
match_free d ds h =
    let pattern = kept is_pattern (as_str d) in
    rw (text_free d (kept_some is_pattern (as_str d) (first _ pattern h)), scope_free ds (second Match pattern (scope_of ds) h)) refl

simple_free : (word : List ℕ) (ds : Items) → is_some (simple_term word ds) ≡ true → items_have_float ds ≡ false
simple_free word no_items h = refl
simple_free word (item d ds) h =
    let r = items_have_float (item d ds) in
    let at_match : Option Term = cond (bytes_eq word (codes "match")) (match_term d ds) None in
    let at_size : Option Term = cond (bytes_eq word (codes "size")) (size_term d ds) at_match in
    let at_type : Option Term = cond (bytes_eq word (codes "type")) (type_term d ds) at_size in
    let at_suffix : Option Term = cond (bytes_eq word (codes "suffix")) (suffix_term d ds) at_type in
    either_some (bytes_eq word (codes "name")) (name_term d ds) at_suffix r (name_free d ds)
    (either_some (bytes_eq word (codes "suffix")) (suffix_term d ds) at_type r (suffix_free d ds)
    (either_some (bytes_eq word (codes "type")) (type_term d ds) at_size r (type_free d ds)
    (either_some (bytes_eq word (codes "size")) (size_term d ds) at_match r (size_term_free d ds)
    (either_some (bytes_eq word (codes "match")) (match_term d ds) None r (match_free d ds) nothing)))) h

-- ---- terms that hold others

not_some : (o : Option Terms) → is_some (not_term o) ≡ true → is_some o ≡ true
not_some None h = h
not_some (Some xs) h = refl

joined_first : (o : Option Term) (p : Option Terms) → is_some (joined o p) ≡ true → is_some o ≡ true
joined_first None p h = h
joined_first (Some x) p h = refl

joined_second : (o : Option Term) (p : Option Terms) → is_some (joined o p) ≡ true → is_some p ≡ true
joined_second None p h = nothing h
joined_second (Some x) None h = h
joined_second (Some x) (Some xs) h = refl

from_free : (word : List ℕ) (parts : Option Terms) (simple : Option Term) (r : Bool) → (is_some parts ≡ true → r ≡ false) → (is_some simple ≡ true → r ≡ false)
    → is_some (term_from word parts simple) ≡ true → r ≡ false
from_free word parts simple r f g h =
    let at_any : Option Term = cond (bytes_eq word (codes "anyof")) (option_map AnyOf parts) simple in
    let at_all : Option Term = cond (bytes_eq word (codes "allof")) (option_map AllOf parts) at_any in
    either_some (bytes_eq word (codes "not")) (not_term parts) at_all r (λ n. f (not_some parts n))
    (either_some (bytes_eq word (codes "allof")) (option_map AllOf parts) at_any r (λ n. f (mapped AllOf parts n))
    (either_some (bytes_eq word (codes "anyof")) (option_map AnyOf parts) simple r (λ n. f (mapped AnyOf parts n)) g)) h

mutual
  term_free : (d : Data) → is_some (term_of d) ≡ true → has_float d ≡ false
  term_free null h = nothing h
  term_free (boolean b) h = nothing h
  term_free (number n) h = nothing h
  term_free (string s) h = refl
  term_free (array ds) h = list_free ds h
  term_free (object ms) h = nothing h

  list_free : (ds : Items) → is_some (list_term ds) ≡ true → items_have_float ds ≡ false
  list_free no_items h = nothing h
  list_free (item null ds) h = nothing h
  list_free (item (boolean b) ds) h = nothing h
  list_free (item (number n) ds) h = nothing h
  list_free (item (string word) ds) h = from_free word (terms_of ds) (simple_term word ds) (items_have_float ds) (terms_free ds) (simple_free word ds) h
  list_free (item (array es) ds) h = nothing h
  list_free (item (object ms) ds) h = nothing h

  terms_free : (ds : Items) → is_some (terms_of ds) ≡ true → items_have_float ds ≡ false
  terms_free no_items h = refl
  terms_free (item d ds) h = rw (term_free d (joined_first (term_of d) (terms_of ds) h), terms_free ds (joined_second (term_of d) (terms_of ds) h)) refl

expression_no_float : (d : Data) → is_expression d ≡ true → has_float d ≡ false
expression_no_float d h = term_free d (kept_some keeps_limits (term_of d) h)

-- what is kept of an expression is its text
pub kept_as : (d : Data) (x : Term) (text : List ℕ) → expression_of d ≡ Some x → (has_float d ≡ false → text ≡ compact_text d) → kept_text (Some d) ≡ Ok (Some text)
kept_as d x text is written =
    let yes : is_expression d ≡ true = ap is_some is in
    let so : kept_text (Some d) ≡ Ok (Some (compact_text d)) = rw yes refl in
    so ∙ ap (λ (t : List ℕ). Ok (Some t)) (sym (written (expression_no_float d yes)))

pub no_text : (d : Data) → expression_of d ≡ None → kept_text (Some d) ≡ Err BadExpression
no_text d is =
    let no : is_expression d ≡ false = ap is_some is in rw no refl

-- ---- what is shown of a text that is kept

shown_free : (o : Option Data) (text : List ℕ) → has_float (unwrap_or (kept is_expression o) (string text)) ≡ false
shown_free None text = refl
shown_free (Some d) text = go (is_expression d) refl
  where
    go : (b : Bool) → is_expression d ≡ b → has_float (unwrap_or (cond b (Some d) None) (string text)) ≡ false
    go true h = expression_no_float d h
    go false h = refl

pub shown_no_float : (text : List ℕ) → has_float (expression_shown text) ≡ false
shown_no_float text = shown_free (read text) text

-- ---- root by root

pub all_by_values : (roots : List (Path × Root)) → list_all (λ root. list_all has_expression root.1.triggers) roots ≡ list_all (λ root. list_all has_expression root.triggers) (values_of roots)
all_by_values [] = refl
all_by_values (root ∷ rest) = ap (λ (b : Bool). list_all has_expression root.1.triggers && b) (all_by_values rest)
