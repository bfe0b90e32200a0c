-- What is read where terms stand at most so deep in one another, for private clauses.
use Rattle.std.specs.Prelude.{ℕ, ◌+◌, nat_le, List, Option, option_and_then}
use Rattle.serde_json.specs.Data.{Data, Items}
use Rattle.wm_expr.specs.Limits.{count, count_all, deepest, depth, taken_from}
use Rattle.wm_expr.specs.Readings.{kept, list_term, not_term, simple_term, term_from, term_of, terms_of}
use Rattle.wm_expr.specs.Terms.{Term, Terms}

abbrev pub within : ℕ → Option Term → Option Term
within levels o = kept (λ x. nat_le (depth x) levels) o

-- the term that the value is
abbrev pub read_within : ℕ → Data → Option Term
read_within levels d = within levels (term_of d)

-- the same of a list's items, of a word with its parts and of the parts of `not`, where parts stand at most so deep
abbrev pub list_within : ℕ → Items → Option Term
list_within levels ds = within (levels + 1) (list_term ds)

abbrev pub word_within : ℕ → List ℕ → Items → Option Term
word_within levels word ds = within (levels + 1) (term_from word (terms_of ds) (simple_term word ds))

abbrev pub not_within : ℕ → Items → Option Term
not_within levels ds = within (levels + 1) (not_term (terms_of ds))

abbrev pub all_within : ℕ → Option Terms → Option Terms
all_within levels o = kept (λ xs. nat_le (deepest xs) levels) o

-- the terms that the items are
abbrev pub terms_within : ℕ → Items → Option Terms
terms_within levels ds = all_within levels (terms_of ds)

-- what is left of so many terms behind those of a term, where there is one and it has no more
abbrev pub left_by : ℕ → Option Term → Option ℕ
left_by room o = option_and_then (λ x. taken_from room (count x)) o

abbrev pub left_by_all : ℕ → Option Terms → Option ℕ
left_by_all room o = option_and_then (λ xs. taken_from room (count_all xs)) o
