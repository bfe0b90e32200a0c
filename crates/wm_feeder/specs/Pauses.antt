-- How long a root rests whose crawl was refused, in milliseconds.
use Rattle.std.specs.Prelude.{ℕ, ◌*◌, max, min}

-- twice as long as before, but a second at least and a minute at most
abbrev pub next_pause : (before : ℕ) → ℕ
next_pause before = max 1000 (min 60000 (2 * before))
