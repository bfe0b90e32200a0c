-- The greatest value of every counter.
use Rattle.std.specs.Prelude.{ℕ, ◌-◌, ◌^◌}

abbrev pub max_counter : ℕ
max_counter = 2 ^ 63 - 1
