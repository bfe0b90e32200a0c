-- Expressions as contracts see them.
use Rattle.std.specs.Prelude.{ℕ, List}
use Rattle.wm_names.specs.declared.entry.Kind.{Kind}
use Rattle.wm_expr.specs.declared.expr.Scope.{Scope}
use Rattle.wm_expr.specs.declared.expr.Comparison.{Comparison}

mutual
  pub data Term : Type 0 where
    Always : Term
    Never : Term
    Not : Term → Term
    AllOf : Terms → Term
    AnyOf : Terms → Term
    Name : (names : List (List ℕ)) (scope : Scope) → Term
    Suffix : (suffixes : List (List ℕ)) → Term
    OfType : Kind → Term
    Exists : Term
    Empty : Term
    Size : Comparison → ℕ → Term
    Match : (pattern : List ℕ) (scope : Scope) → Term

  pub data Terms : Type 0 where
    no_more : Terms
    more : Term → Terms → Terms
