-- The rules of paths, and how paths stand to each other.
use Rattle.std.specs.Prelude.{ℕ, List, [], ◌∷◌, Bool, false, not, ◌&&◌, ◌==◌, length, nat_le, nat_lt, take, slice_index}
use Rattle.std.specs.List.{after_last, list_all, slice_split}
use Rattle.std.specs.Ordering.{nat_cmp, eq_by_cmp}
use Rattle.std.specs.declared.cmp.Ordering.{Ordering}
use Rattle.std.specs.Cmp.Lexicographic.{slice_cmp}

-- the bytes of a path
abbrev pub Path : Type 0
Path = List ℕ

-- empty, `.` or `..`: fewer than three bytes, and each a dot
abbrev pub is_dots : List ℕ → Bool
is_dots part = nat_lt (length part) 3 && list_all (λ b. b == 46) part

-- what may stand between slashes: not empty, `.` or `..`, and with no zero byte
abbrev pub is_component : List ℕ → Bool
is_component part = not (is_dots part) && list_all (λ b. not (b == 0)) part

-- the parts between slashes
abbrev pub components : List ℕ → List (List ℕ)
components text = slice_split (λ b. b == 47) text

-- the most bytes of a root's path
abbrev pub max_root_path : ℕ
max_root_path = 1024

-- the most bytes of a path below a root
abbrev pub max_rel_path : ℕ
max_rel_path = 1024

-- not too long: a slash, and components with slashes between them
abbrev pub is_root_path : List ℕ → Bool
is_root_path [] = false
is_root_path (x ∷ rest) = (x == 47) && (nat_le (length (x ∷ rest)) max_root_path && list_all is_component (components rest))

-- not too long: components with slashes between them
abbrev pub is_rel_path : List ℕ → Bool
is_rel_path text = nat_le (length text) max_rel_path && list_all is_component (components text)

-- paths stand in the order of their bytes
abbrev pub path_cmp : Path → Path → Ordering
path_cmp = slice_cmp nat_cmp

abbrev pub same_path : Path → Path → Bool
same_path p q = eq_by_cmp path_cmp p q

-- p stands below the folder top, which is not below itself: it is top, a slash, and more
abbrev pub is_under : Path → Path → Bool
is_under top p = nat_lt (length top) (length p) && ((slice_index p (length top) == 47) && same_path (take (length top) p) top)

-- what follows the last slash, and all where there is none
abbrev pub basename : Path → List ℕ
basename p = after_last (λ b. b == 47) p
