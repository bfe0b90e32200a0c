-- The expression that an `Expr` stands for.
use Rattle.std.specs.Prelude.{List, [], ◌∷◌, map, string_bytes}
use Rattle.wm_expr.specs.declared.expr.Expr.{Expr, fold-Expr}
use Rattle.wm_expr.specs.declared.expr.Expr.TheOpen.{Expr-F}
use Rattle.wm_expr.specs.Terms.{Term, Always, Never, Not, AllOf, AnyOf, Name, Suffix, OfType, Exists, Empty, Size, Match, Terms, no_more, more}

abbrev pub as_terms : List Term → Terms
as_terms [] = no_more
as_terms (x ∷ xs) = more x (as_terms xs)

-- one level, with each expression inside already seen as its term
abbrev pub view_step : Expr-F Term → Term
view_step Expr-F.True = Always
view_step Expr-F.False = Never
view_step (Expr-F.Not x) = Not x.value
view_step (Expr-F.AllOf xs) = AllOf (as_terms xs.items)
view_step (Expr-F.AnyOf xs) = AnyOf (as_terms xs.items)
view_step (Expr-F.Name names scope) = Name (map string_bytes names.items) scope
view_step (Expr-F.Suffix suffixes) = Suffix (map string_bytes suffixes.items)
view_step (Expr-F.Type kind) = OfType kind
view_step Expr-F.Exists = Exists
view_step Expr-F.Empty = Empty
view_step (Expr-F.Size op n) = Size op n
view_step (Expr-F.Match pattern scope) = Match (string_bytes pattern) scope

abbrev pub term : Expr → Term
term = fold-Expr Term view_step

abbrev pub terms : List Expr → Terms
terms xs = as_terms (map term xs)
