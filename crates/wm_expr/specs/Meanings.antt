-- Where expressions hold, and which of them read paths alone.
use Rattle.std.specs.Prelude.{◌≡◌, ℕ, Bool, true, false, not, ◌&&◌, ◌||◌, List, ◌∷◌, nat_lt, nat_le, ◌==◌}
use Rattle.std.specs.Char.{eq_ignore_ascii_case}
use Rattle.std.specs.List.{list_any, ends_with}
use Rattle.std.specs.Str.{bytes_eq}
use Rattle.wm_names.specs.Entries.{same_kind}
use Rattle.wm_names.specs.Paths.{Path, basename}
use Rattle.wm_names.specs.declared.entry.Entry.{Entry}
use Rattle.wm_names.specs.declared.entry.Kind.{Kind}
use Rattle.wm_names.specs.declared.entry.Kind.TheVariants.{File, Folder, Link, Other}
use Rattle.wm_expr.specs.declared.expr.Scope.{Scope}
use Rattle.wm_expr.specs.declared.expr.Scope.TheVariants.{Basename, Wholename}
use Rattle.wm_expr.specs.declared.expr.Comparison.{Comparison}
use Rattle.wm_expr.specs.declared.expr.Comparison.TheVariants.{Eq, Ne, Gt, Ge, Lt, Le}
use Rattle.wm_expr.specs.Patterns.{fits}
use Rattle.wm_expr.specs.Terms.{Term, Always, Never, Not, AllOf, AnyOf, Name, Suffix, OfType, Exists, Empty, Size, Match, Terms, no_more, more}

-- a stands so to b
abbrev pub compares : Comparison → ℕ → ℕ → Bool
compares Eq a b = a == b
compares Ne a b = not (a == b)
compares Gt a b = nat_lt b a
compares Ge a b = nat_le b a
compares Lt a b = nat_lt a b
compares Le a b = nat_le a b

-- the part of the path that a term looks at
abbrev pub scoped : Scope → Path → List ℕ
scoped Basename p = basename p
scoped Wholename p = p

abbrev pub is_one_of : List (List ℕ) → List ℕ → Bool
is_one_of names text = list_any (bytes_eq text) names

-- the name ends with a dot and the suffix, where letters of ASCII count alike in both cases
abbrev pub has_suffix : List ℕ → List ℕ → Bool
has_suffix name suffix = ends_with eq_ignore_ascii_case name (46 ∷ suffix)

abbrev pub is_file_or_folder : Kind → Bool
is_file_or_folder File = true
is_file_or_folder Folder = true
is_file_or_folder Link = false
is_file_or_folder Other = false

abbrev mutual
  pub holds : Term → Entry → Bool
  holds Always e = true
  holds Never e = false
  holds (Not x) e = not (holds x e)
  holds (AllOf xs) e = all_hold xs e
  holds (AnyOf xs) e = one_holds xs e
  holds (Name names scope) e = is_one_of names (scoped scope e.path)
  holds (Suffix suffixes) e = list_any (has_suffix (basename e.path)) suffixes
  holds (OfType kind) e = same_kind e.meta.kind kind
  holds Exists e = e.exists
  holds Empty e = e.exists && ((e.meta.size == 0) && is_file_or_folder e.meta.kind)
  holds (Size op n) e = e.exists && compares op e.meta.size n
  holds (Match pattern scope) e = fits pattern (scoped scope e.path)

  pub all_hold : Terms → Entry → Bool
  all_hold no_more e = true
  all_hold (more x xs) e = holds x e && all_hold xs e

  pub one_holds : Terms → Entry → Bool
  one_holds no_more e = false
  one_holds (more x xs) e = holds x e || one_holds xs e

-- no term on type, existence or size is inside
abbrev mutual
  pub is_path_only : Term → Bool
  is_path_only Always = true
  is_path_only Never = true
  is_path_only (Not x) = is_path_only x
  is_path_only (AllOf xs) = are_path_only xs
  is_path_only (AnyOf xs) = are_path_only xs
  is_path_only (Name names scope) = true
  is_path_only (Suffix suffixes) = true
  is_path_only (OfType kind) = false
  is_path_only Exists = false
  is_path_only Empty = false
  is_path_only (Size op n) = false
  is_path_only (Match pattern scope) = true

  pub are_path_only : Terms → Bool
  are_path_only no_more = true
  are_path_only (more x xs) = is_path_only x && are_path_only xs

-- it has one value for any two entries of one path
abbrev pub ReadsPathAlone : Term → Type 0
ReadsPathAlone x = (a b : Entry) → a.path ≡ b.path → holds x a ≡ holds x b
