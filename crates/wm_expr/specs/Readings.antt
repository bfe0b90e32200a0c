-- Which JSON values are expressions.
use Rattle.std.specs.Prelude.{ℕ, Bool, cond, List, [], ◌∷◌, nat_le, Option, Some, None, codes, option_and_then, option_map}
use Rattle.std.specs.Str.{bytes_eq}
use Rattle.serde_json.specs.Data.{Data, string, array, Items, no_items, item}
use Rattle.serde_json.specs.Find.{as_number, as_str, as_u64}
use Rattle.wm_disk.specs.Counters.{max_counter}
use Rattle.wm_names.specs.Entries.{kind_of}
use Rattle.wm_expr.specs.declared.expr.Scope.{Scope}
use Rattle.wm_expr.specs.declared.expr.Scope.TheVariants.{Basename, Wholename}
use Rattle.wm_expr.specs.declared.expr.Comparison.{Comparison}
use Rattle.wm_expr.specs.declared.expr.Comparison.TheVariants.{Eq, Ne, Gt, Ge, Lt, Le}
use Rattle.wm_expr.specs.Limits.{keeps_limits}
use Rattle.wm_expr.specs.Patterns.{is_pattern}
use Rattle.wm_expr.specs.Terms.{Term, Always, Never, Not, AllOf, AnyOf, Name, Suffix, OfType, Exists, Empty, Size, Match, Terms, no_more, more}

-- the value, where it passes the test
abbrev pub kept : {X : Type 0} → (X → Bool) → Option X → Option X
kept test None = None
kept test (Some x) = cond (test x) (Some x) None

-- ---- words

-- what stands beside the word that the text is
abbrev pub named : {X : Type 0} → List (List ℕ × X) → List ℕ → Option X
named [] text = None
named (e ∷ es) text = cond (bytes_eq text e.0) (Some e.1) (named es text)

-- a term that is a word alone
abbrev pub plain_of : List ℕ → Option Term
plain_of = named ((codes "true", Always) ∷ (codes "false", Never) ∷ (codes "exists", Exists) ∷ (codes "empty", Empty) ∷ [])

abbrev pub comparison_of : List ℕ → Option Comparison
comparison_of = named ((codes "eq", Eq) ∷ (codes "ne", Ne) ∷ (codes "gt", Gt) ∷ (codes "ge", Ge) ∷ (codes "lt", Lt) ∷ (codes "le", Le) ∷ [])

abbrev pub scope_named : List ℕ → Option Scope
scope_named = named ((codes "basename", Basename) ∷ (codes "wholename", Wholename) ∷ [])

-- ---- parts

-- nothing more, or the word for a part of the path
abbrev pub scope_of : Items → Option Scope
scope_of no_items = Some Basename
scope_of (item d no_items) = option_and_then scope_named (as_str d)
scope_of (item d (item e ds)) = None

-- what each item is, where each is something
abbrev pub each : {X : Type 0} → (Data → Option X) → Items → Option (List X)
each f no_items = Some []
each f (item d ds) = option_and_then (λ x. option_map (λ xs. x ∷ xs) (each f ds)) (f d)

-- one text, or a list of texts
abbrev pub one_or_many : Data → Option (List (List ℕ))
one_or_many (string s) = Some (s ∷ [])
one_or_many (array ds) = each as_str ds
one_or_many _ = None

-- a whole number from 0 to the greatest counter
abbrev pub size_of : Data → Option ℕ
size_of d = kept (λ n. nat_le n max_counter) (option_and_then as_u64 (as_number d))

-- the same, where it is all that follows
abbrev pub size_alone : Items → Option ℕ
size_alone no_items = None
size_alone (item d no_items) = size_of d
size_alone (item d (item e ds)) = None

-- ---- terms that hold no other, by what follows their word

abbrev pub name_term : Data → Items → Option Term
name_term d ds = option_and_then (λ names. option_map (Name names) (scope_of ds)) (one_or_many d)

abbrev pub suffix_term : Data → Items → Option Term
suffix_term d no_items = option_map Suffix (one_or_many d)
suffix_term d (item e ds) = None

abbrev pub type_term : Data → Items → Option Term
type_term d no_items = option_map OfType (option_and_then kind_of (as_str d))
type_term d (item e ds) = None

abbrev pub size_term : Data → Items → Option Term
size_term d ds = option_and_then (λ op. option_map (Size op) (size_alone ds)) (option_and_then comparison_of (as_str d))

abbrev pub match_term : Data → Items → Option Term
match_term d ds = option_and_then (λ pattern. option_map (Match pattern) (scope_of ds)) (kept is_pattern (as_str d))

abbrev pub simple_term : List ℕ → Items → Option Term
simple_term word no_items = plain_of word
simple_term word (item d ds) =
    cond (bytes_eq word (codes "name")) (name_term d ds)
    (cond (bytes_eq word (codes "suffix")) (suffix_term d ds)
    (cond (bytes_eq word (codes "type")) (type_term d ds)
    (cond (bytes_eq word (codes "size")) (size_term d ds)
    (cond (bytes_eq word (codes "match")) (match_term d ds) None))))

-- ---- terms that hold others

abbrev pub joined : Option Term → Option Terms → Option Terms
joined None ys = None
joined (Some x) None = None
joined (Some x) (Some ys) = Some (more x ys)

-- `not` takes one part
abbrev pub not_term : Option Terms → Option Term
not_term (Some (more x no_more)) = Some (Not x)
not_term _ = None

-- a word, its parts as terms, and what the word makes of its parts where it holds no terms
abbrev pub term_from : List ℕ → Option Terms → Option Term → Option Term
term_from word parts simple =
    cond (bytes_eq word (codes "not")) (not_term parts)
    (cond (bytes_eq word (codes "allof")) (option_map AllOf parts)
    (cond (bytes_eq word (codes "anyof")) (option_map AnyOf parts) simple))

abbrev mutual
  pub term_of : Data → Option Term
  term_of (string s) = plain_of s
  term_of (array ds) = list_term ds
  term_of _ = None

  pub list_term : Items → Option Term
  list_term (item (string word) ds) = term_from word (terms_of ds) (simple_term word ds)
  list_term _ = None

  pub terms_of : Items → Option Terms
  terms_of no_items = Some no_more
  terms_of (item d ds) = joined (term_of d) (terms_of ds)

-- the expression that the value is
abbrev pub expression_of : Data → Option Term
expression_of d = kept keeps_limits (term_of d)
