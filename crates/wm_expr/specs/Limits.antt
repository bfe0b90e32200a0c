-- The limits that an expression keeps.
use Rattle.std.specs.Prelude.{ℕ, ◌+◌, ◌-◌, max, Bool, ◌&&◌, nat_le, cond, Option, Some, None}
use Rattle.wm_expr.specs.Terms.{Term, Not, AllOf, AnyOf, Terms, no_more, more}

-- how deep the terms of an expression may stand in one another
abbrev pub max_depth : ℕ
max_depth = 32

-- how many terms an expression may have
abbrev pub max_terms : ℕ
max_terms = 1024

-- how deep terms stand in one another
abbrev mutual
  pub depth : Term → ℕ
  depth (Not x) = depth x + 1
  depth (AllOf xs) = deepest xs + 1
  depth (AnyOf xs) = deepest xs + 1
  depth _ = 1

  pub deepest : Terms → ℕ
  deepest no_more = 0
  deepest (more x xs) = max (depth x) (deepest xs)

-- how many terms there are, each one counted
abbrev mutual
  pub count : Term → ℕ
  count (Not x) = count x + 1
  count (AllOf xs) = count_all xs + 1
  count (AnyOf xs) = count_all xs + 1
  count _ = 1

  pub count_all : Terms → ℕ
  count_all no_more = 0
  count_all (more x xs) = count x + count_all xs

abbrev pub keeps_limits : Term → Bool
keeps_limits x = nat_le (depth x) max_depth && nat_le (count x) max_terms

-- what is left of so many where these are taken
abbrev pub taken_from : ℕ → ℕ → Option ℕ
taken_from room n = cond (nat_le n room) (Some (room - n)) None
