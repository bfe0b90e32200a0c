-- The numbers of a registry along a replay: they never go back, they stay in range, and no two roots have one.
use Rattle.std.specs.Prelude.{◌≤◌, ◌<◌, ◌==◌}
use Rattle.std.specs.List.{AllByRecursion, IsDistinct}
use Rattle.wm_disk.specs.Counters.{max_counter}
use Rattle.wm_registry.specs.Roots.{State}
use Rattle.wm_registry.specs.Spelling.{numbers_of}

-- neither counter goes back
pub record Rises (s t : State) : Type 0 where
  pub incarnation : s.incarnation ≤ t.incarnation
  pub next : s.next ≤ t.next

-- the counters are in range, each root's number is below the next, and no two roots have one
pub record InOrder (s : State) : Type 0 where
  pub incarnation : s.incarnation ≤ max_counter
  pub some : 0 < s.next
  pub next : s.next ≤ max_counter
  pub roots : AllByRecursion (λ r. (0 < r.1.number) × (r.1.number < s.next)) s.roots
  pub apart : IsDistinct ◌==◌ (numbers_of s.roots)
