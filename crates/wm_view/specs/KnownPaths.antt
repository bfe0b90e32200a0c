-- What is known of each path, with the order of change, and room for more. For private clauses.
use Rattle.std.specs.Prelude.{◌≡◌, ℕ, ◌+◌, ◌-◌, ◌≤◌, ◌<◌, Bool, true, false, Option, Some, None, nat_lt, nat_le, is_some, cond, not, ◌&&◌, ◌||◌, List, [], ◌∷◌, fold}
use Rattle.std.specs.List.{filter, AllByRecursion}
use Rattle.std.specs.Ordering.{nat_cmp, ordering_then, is_eq}
use Rattle.std.specs.declared.cmp.Ordering.{Ordering}
use Rattle.std.specs.FinMap.{find, put}
use Rattle.std.specs.BTreeMap as tree
use Rattle.std.specs.BTreeSet as sorted
use Rattle.wm_disk.specs.Counters.{max_counter}
use Rattle.wm_names.specs.Paths.{Path, path_cmp, same_path}
use Rattle.wm_view.specs.declared.known.Known.{Known}
use Rattle.wm_view.specs.declared.known_paths.KnownPaths.{KnownPaths}
use Rattle.wm_view.specs.Summaries.{Knowns}

-- a path that changed at a tick; another only has room
abbrev pub is_told : Path × Known → Bool
is_told e = nat_lt 0 e.1.last

-- what is known of each path
abbrev pub told : KnownPaths → Knowns
told k = filter is_told k.known.entries

-- the ticks from a path's last change to the limit, and the path
abbrev pub Place : Type 0
Place = ℕ × Path

-- the latest change first, and at one tick the order of the paths
abbrev pub place_cmp : Place → Place → Ordering
place_cmp a b = ordering_then (nat_cmp a.0 b.0) (path_cmp a.1 b.1)

abbrev pub IsPlaced : KnownPaths → ℕ → Path → Type 0
IsPlaced k last p = sorted.contains place_cmp k.order (max_counter - last, p) ≡ true

abbrev pub IsAmongGone : KnownPaths → Path → Type 0
IsAmongGone k p = sorted.contains path_cmp k.gone p ≡ true

-- each path has its place in the order of change, and is among the gone where it is gone
pub record IsSound (k : KnownPaths) : Type 0 where
  pub ordered : tree.IsOrdered path_cmp k.known
  pub in_order : sorted.IsOrdered place_cmp k.order
  pub gone_ordered : sorted.IsOrdered path_cmp k.gone
  pub placed : (p : Path) (x : Known) → find path_cmp p (told k) ≡ Some x → (x.last ≤ max_counter) × IsPlaced k x.last p
  pub gone : (p : Path) (x : Known) → find path_cmp p (told k) ≡ Some x → x.exists ≡ false → IsAmongGone k p

-- room for a change of the path at the tick
pub record HasChangeRoom (k : KnownPaths) (tick : ℕ) (p : Path) (exists : Bool) : Type 0 where
  pub entry : is_some (tree.get path_cmp k.known p) ≡ true
  pub place : IsPlaced k tick p
  pub gone : exists ≡ false → IsAmongGone k p

-- what has room in the one has it in the other
abbrev pub KeepsChangeRoom : KnownPaths → KnownPaths → Type 0
KeepsChangeRoom old new = (tick : ℕ) (p : Path) (exists : Bool) → HasChangeRoom old tick p exists → HasChangeRoom new tick p exists

-- the same of the other paths
abbrev pub KeepsOtherRoom : Path → KnownPaths → KnownPaths → Type 0
KeepsOtherRoom own old new = (tick : ℕ) (p : Path) (exists : Bool) → same_path own p ≡ false → HasChangeRoom old tick p exists → HasChangeRoom new tick p exists

-- room for each of the changes
abbrev pub HaveRoom : KnownPaths → ℕ → Knowns → Type 0
HaveRoom k tick changes = AllByRecursion (λ e. HasChangeRoom k tick e.0 e.1.exists) changes

-- each of the changes is one at the tick
abbrev pub AreAt : ℕ → Knowns → Type 0
AreAt tick changes = AllByRecursion (λ e. e.1.last ≡ tick) changes

-- each of the changes was made at the moment
abbrev pub AreMadeAt : ℕ → Knowns → Type 0
AreMadeAt moment changes = AllByRecursion (λ e. e.1.moment ≡ moment) changes

-- what is known after the changes
abbrev pub after_changes : Knowns → Knowns → Knowns
after_changes ks changes = fold (λ m e. put path_cmp e.0 e.1 m) ks changes

-- each last change is at a tick up to n
abbrev pub IsUpTo : ℕ → Knowns → Type 0
IsUpTo n ks = (p : Path) (x : Known) → find path_cmp p ks ≡ Some x → x.last ≤ n

-- ---- moments

-- each change moment is at most n
abbrev pub IsUpToMoment : ℕ → Knowns → Type 0
IsUpToMoment n ks = (p : Path) (x : Known) → find path_cmp p ks ≡ Some x → x.moment ≤ n

-- from one change to a later one the moment falls by no more
abbrev pub FallsBy : ℕ → Knowns → Type 0
FallsBy fall ks = (p q : Path) (x y : Known) → find path_cmp p ks ≡ Some x → find path_cmp q ks ≡ Some y → x.last ≤ y.last → x.moment ≤ y.moment + fall

-- a search for changes at the moment or later may end at a change before the bound: each behind it is before the moment
abbrev pub IsSearchBound : ℕ → ℕ → Knowns → Type 0
IsSearchBound bound moment ks = (p q : Path) (x y : Known) → find path_cmp p ks ≡ Some x → find path_cmp q ks ≡ Some y → x.last ≤ y.last → y.moment < bound → x.moment < moment

-- changed last at the moment or later
abbrev pub is_from : ℕ → Path × Known → Bool
is_from moment e = nat_le moment e.1.moment

-- ---- the order of change

-- what is known, where the last change has this place
abbrev pub known_there : Option Known → ℕ → Option Known
known_there None b = None
known_there (Some x) b = cond (is_eq (nat_cmp b (max_counter - x.last))) (Some x) None

abbrev pub add_known : Path → Option Known → Knowns → Knowns
add_known p None es = es
add_known p (Some x) es = (p, x) ∷ es

-- what is known at each of the places that count
abbrev pub known_at : Knowns → List Place → Knowns
known_at ks [] = []
known_at ks (q ∷ qs) = add_known q.1 (known_there (find path_cmp q.1 ks) q.0) (known_at ks qs)

-- changed after the tick, and exists where it is asked so
abbrev pub is_wanted : ℕ → Bool → Path × Known → Bool
is_wanted tick existing e = nat_lt tick e.1.last && (not existing || e.1.exists)
