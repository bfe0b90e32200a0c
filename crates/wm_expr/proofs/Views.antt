-- What expressions of some variants stand for.
use Rattle.std.proofs.Common.{◌≡◌, map, Box, String, Vec, Global, string_bytes, rules}
use Rattle.wm_expr.specs.declared.expr.Expr.{Expr, the_lemmas}
use Rattle.wm_expr.specs.declared.expr.Expr as expr
use Rattle.wm_expr.specs.declared.expr.Scope.{Scope}
use Rattle.wm_expr.specs.Terms.{AllOf, AnyOf, Name, Not, Suffix}
use Rattle.wm_expr.specs.Views.{term, terms}

pub term_name : (names : Vec (String Global) Global) (scope : Scope) → term (expr.Name names scope) ≡ Name (map string_bytes names.items) scope
term_name names scope = search (rules, the_lemmas)

pub term_suffix : (suffixes : Vec (String Global) Global) → term (expr.Suffix suffixes) ≡ Suffix (map string_bytes suffixes.items)
term_suffix suffixes = search (rules, the_lemmas)

pub term_not : (part : Box Expr Global) → term (expr.Not part) ≡ Not (term part.value)
term_not part = search (rules, the_lemmas)

pub term_allof : (parts : Vec Expr Global) → term (expr.AllOf parts) ≡ AllOf (terms parts.items)
term_allof parts = search (rules, the_lemmas)

pub term_anyof : (parts : Vec Expr Global) → term (expr.AnyOf parts) ≡ AnyOf (terms parts.items)
term_anyof parts = search (rules, the_lemmas)
