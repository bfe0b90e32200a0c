-- What was found twice, with some time between.
use Rattle.std.specs.Prelude.{ℕ, ◌-◌, Bool, ◌&&◌, List, [], length, nat_lt, if◌then◌else◌}
use Rattle.std.specs.List.{filter}
use Rattle.wm_names.specs.Paths.{Path}
use Rattle.wm_feed.specs.Laws.{is_asked_path}

-- what was found last, and when
pub record FoundLast : Type 0 where
  pub paths : List Path
  pub since : ℕ

abbrev pub nothing_found : FoundLast
nothing_found = record { paths = []; since = 0 }

-- something was found and is found now, and the time between isn't over
abbrev pub is_early : ℕ → ℕ → List Path → FoundLast → Bool
is_early now wait found last = nat_lt 0 (length last.paths) && (nat_lt 0 (length found) && nat_lt (now - last.since) wait)

-- what is found both times, once the time is over
abbrev pub lasting : ℕ → ℕ → List Path → FoundLast → List Path
lasting now wait found last = if is_early now wait found last then [] else filter (λ p. is_asked_path p last.paths) found

-- what counts as found last then
abbrev pub found_last : ℕ → ℕ → List Path → FoundLast → FoundLast
found_last now wait found last = if is_early now wait found last then last else record { paths = found; since = now }
