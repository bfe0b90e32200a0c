-- How many bytes of a journal commands take.
use Rattle.std.specs.Prelude.{ℕ, ◌-◌}
use Rattle.wm_checkpoint.specs.Layout.{journal_len}

-- what an empty journal has for commands: all of it but the gate behind the last one
abbrev pub journal_room : ℕ
journal_room = journal_len - 1

-- what a `Begin` takes, with its gate
abbrev pub begin_len : ℕ
begin_len = 2

-- more than any group of commands takes, so that no sum of their sizes wraps
abbrev pub group_bound : ℕ
group_bound = 1000000
