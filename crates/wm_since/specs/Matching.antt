-- Which files of a history pass, at a tick and at a client's clock.
use Rattle.std.specs.Prelude.{ℕ, Bool, true, [], Option, Some, None}
use Rattle.std.specs.List.{filter}
use Rattle.wm_names.specs.Paths.{Path}
use Rattle.wm_names.specs.declared.entry.Entry.{Entry}
use Rattle.wm_names.specs.declared.entry.Meta.{Meta}
use Rattle.wm_clock.specs.declared.clock_id.ClockId.{ClockId}
use Rattle.wm_view.specs.Files.{Paths, add_paths}
use Rattle.wm_view.specs.Histories.{History, map_at}

-- a path of a map, as an entry
abbrev pub there : Path × Meta → Entry
there e = record { path = e.0; exists = true; meta = e.1 }

-- the set of the paths of the map at tick t that pass
abbrev pub matching_at : History → (Entry → Bool) → ℕ → Paths
matching_at h passes t = add_paths (filter (λ e. passes (there e)) (map_at h t)) []

-- the same at a clock, and nothing before the first
abbrev pub files_at : History → (Entry → Bool) → Option ClockId → Paths
files_at h passes None = []
files_at h passes (Some c) = matching_at h passes c.tick
