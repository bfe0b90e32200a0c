-- Worked examples of the definitions.
use Rattle.std.specs.Prelude.{◌≡◌, ℕ, zero, suc, Bool, true, false, List, [], ◌∷◌, Some, is_none, is_some, map, codes}
use Rattle.std.specs.List.{list_all}
use Rattle.serde_json.specs.Data.{Data, null, boolean, number, string, array, object, Items, no_items, item, no_members, unsigned}
use Rattle.wm_names.specs.Paths.{Path}
use Rattle.wm_names.specs.declared.entry.Entry.{Entry}
use Rattle.wm_names.specs.declared.entry.Kind.{Kind}
use Rattle.wm_names.specs.declared.entry.Kind.TheVariants.{File, Folder, Link}
use Rattle.wm_expr.specs.declared.expr.Scope.{Scope}
use Rattle.wm_expr.specs.declared.expr.Scope.TheVariants.{Basename, Wholename}
use Rattle.wm_expr.specs.declared.expr.Comparison.TheVariants.{Gt, Ge}
use Rattle.wm_expr.specs.Meanings.{has_suffix, holds, is_path_only, scoped}
use Rattle.wm_expr.specs.Patterns.{fits}
use Rattle.wm_expr.specs.Readings.{expression_of}
use Rattle.wm_expr.specs.Terms.{Term, Always, Never, Not, AllOf, AnyOf, Name, Suffix, OfType, Exists, Empty, Size, Match, no_more, more}

-- ---- patterns and suffixes

abbrev pub matches : List ℕ → Scope → Path → Bool
matches pattern scope path = fits pattern (scoped scope path)

abbrev pub PatternRows : Type 0
PatternRows =
    matches (codes "*.c") Basename (codes "x/a.c") ∷ matches (codes "*.c") Wholename (codes "x/a.c")
    ∷ matches (codes "**/*.c") Wholename (codes "a.c") ∷ matches (codes "**/*.c") Wholename (codes "x/y/a.c")
    ∷ matches (codes "x/**") Wholename (codes "x") ∷ matches (codes "x/**") Wholename (codes "x/y/z") ∷ matches (codes "x/**") Wholename (codes "xy")
    ∷ matches (codes "a?c") Basename (codes "abc") ∷ matches (codes "a?c") Basename (codes "ac") ∷ matches (codes "*") Basename (codes ".hid") ∷ []
    ≡ true ∷ false ∷ true ∷ true ∷ false ∷ true ∷ false ∷ true ∷ false ∷ true ∷ []

abbrev pub SuffixRows : Type 0
SuffixRows = has_suffix (codes "foo.PHP") (codes "php") ∷ has_suffix (codes "foophp") (codes "php") ∷ has_suffix (codes "php") (codes "php") ∷ has_suffix (codes ".php") (codes "PHP") ∷ []
    ≡ true ∷ false ∷ false ∷ true ∷ []

-- ---- terms

abbrev pub entry : List ℕ → Bool → Kind → ℕ → Entry
entry path exists kind size = record { path = path; exists = exists; meta = record { kind = kind; size = size; mtime_ms = 0 } }

-- the term, and where it holds: of a file x/a.c of 10 bytes that is there, of an empty folder x, and of an empty file x/b that is gone
abbrev pub row : Term → List Bool
row x = holds x (entry (codes "x/a.c") true File 10) ∷ holds x (entry (codes "x") true Folder 0) ∷ holds x (entry (codes "x/b") false File 0) ∷ []

abbrev pub TermRows : Type 0
TermRows =
    map row (Always ∷ Never ∷ Not Exists ∷ AllOf no_more ∷ AnyOf no_more ∷ AllOf (more Exists (more Empty no_more)) ∷ AnyOf (more (OfType Folder) (more (Size Gt 9) no_more))
    ∷ Name [] Basename ∷ Name (codes "b" ∷ codes "a.c" ∷ []) Basename ∷ Name (codes "x/b" ∷ codes "a.c" ∷ []) Wholename ∷ Suffix [] ∷ Suffix (codes "h" ∷ codes "C" ∷ [])
    ∷ OfType File ∷ Exists ∷ Empty ∷ Size Gt 10 ∷ Size Ge 10 ∷ Size Ge 0 ∷ Match (codes "*") Wholename ∷ [])
    ≡ (true ∷ true ∷ true ∷ []) ∷ (false ∷ false ∷ false ∷ []) ∷ (false ∷ false ∷ true ∷ []) ∷ (true ∷ true ∷ true ∷ []) ∷ (false ∷ false ∷ false ∷ [])
    ∷ (false ∷ true ∷ false ∷ []) ∷ (true ∷ true ∷ false ∷ []) ∷ (false ∷ false ∷ false ∷ []) ∷ (true ∷ false ∷ true ∷ []) ∷ (false ∷ false ∷ true ∷ [])
    ∷ (false ∷ false ∷ false ∷ []) ∷ (true ∷ false ∷ false ∷ []) ∷ (true ∷ false ∷ true ∷ []) ∷ (true ∷ true ∷ false ∷ []) ∷ (false ∷ true ∷ false ∷ [])
    ∷ (false ∷ false ∷ false ∷ []) ∷ (true ∷ false ∷ false ∷ []) ∷ (true ∷ true ∷ false ∷ []) ∷ (false ∷ true ∷ false ∷ []) ∷ []

-- ---- readings

abbrev pub text_value : List ℕ → Data
text_value s = string s

abbrev pub word : List ℕ → Items → Data
word s ds = array (item (string s) ds)

abbrev pub one : Data → Items
one d = item d no_items

abbrev pub two : Data → Data → Items
two d e = item d (one e)

abbrev pub ExpressionsRead : Type 0
ExpressionsRead =
    map expression_of (text_value (codes "true") ∷ word (codes "exists") no_items ∷ word (codes "allof") no_items
    ∷ word (codes "not") (one (text_value (codes "empty"))) ∷ word (codes "anyof") (two (text_value (codes "false")) (text_value (codes "true")))
    ∷ word (codes "name") (one (text_value (codes "a"))) ∷ word (codes "name") (two (array (two (text_value (codes "a")) (text_value (codes "b")))) (text_value (codes "wholename")))
    ∷ word (codes "name") (two (array no_items) (text_value (codes "basename"))) ∷ word (codes "suffix") (one (text_value (codes "php"))) ∷ word (codes "suffix") (one (array no_items))
    ∷ word (codes "type") (one (text_value (codes "l"))) ∷ word (codes "size") (two (text_value (codes "gt")) (number (unsigned 9223372036854775807)))
    ∷ word (codes "match") (one (text_value (codes "*.c"))) ∷ word (codes "match") (two (text_value (codes "**/*.c")) (text_value (codes "wholename"))) ∷ [])
    ≡ map (λ x. Some x) (Always ∷ Exists ∷ AllOf no_more ∷ Not Empty ∷ AnyOf (more Never (more Always no_more)) ∷ Name (codes "a" ∷ []) Basename ∷ Name (codes "a" ∷ codes "b" ∷ []) Wholename
    ∷ Name [] Basename ∷ Suffix (codes "php" ∷ []) ∷ Suffix [] ∷ OfType Link ∷ Size Gt 9223372036854775807 ∷ Match (codes "*.c") Basename ∷ Match (codes "**/*.c") Wholename ∷ [])

-- each of these is no expression
abbrev pub OthersRefused : Type 0
OthersRefused =
    list_all (λ d. is_none (expression_of d)) (null ∷ boolean true ∷ number (unsigned 1) ∷ object no_members ∷ array no_items ∷ array (one null) ∷ text_value (codes "True") ∷ text_value (codes "not")
    ∷ word (codes "true") (one (text_value (codes "true"))) ∷ word (codes "not") no_items ∷ word (codes "not") (two (text_value (codes "true")) (text_value (codes "true"))) ∷ word (codes "allof") (one null)
    ∷ word (codes "name") no_items ∷ word (codes "name") (one null) ∷ word (codes "name") (two (text_value (codes "a")) (text_value (codes "dirname"))) ∷ word (codes "suffix") (two (text_value (codes "a")) (text_value (codes "basename")))
    ∷ word (codes "type") (one (text_value (codes "x"))) ∷ word (codes "size") (one (text_value (codes "gt"))) ∷ word (codes "size") (two (text_value (codes "gt")) (number (unsigned 9223372036854775808)))
    ∷ word (codes "match") (one (text_value (codes "a[b"))) ∷ word (codes "match") (one (text_value (codes "a\\b"))) ∷ [])
    ≡ true

abbrev pub nots : ℕ → Data
nots zero = string (codes "true")
nots (suc n) = word (codes "not") (one (nots n))

abbrev pub DeepestRead : Type 0
DeepestRead = is_some (expression_of (nots 31)) ∷ is_some (expression_of (nots 32)) ∷ [] ≡ true ∷ false ∷ []

abbrev pub PathOnlyRows : Type 0
PathOnlyRows =
    map is_path_only (Always ∷ Never ∷ Not Always ∷ Not Exists ∷ AllOf (more Always (more Empty no_more)) ∷ AnyOf (more (Suffix []) no_more) ∷ Name [] Basename ∷ Suffix [] ∷ OfType File ∷ Exists ∷ Empty
    ∷ Size Ge 0 ∷ Match (codes "*") Basename ∷ [])
    ≡ true ∷ true ∷ true ∷ false ∷ false ∷ true ∷ true ∷ true ∷ false ∷ false ∷ false ∷ false ∷ true ∷ []
