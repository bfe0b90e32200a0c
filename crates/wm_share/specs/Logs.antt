-- The log of a process: the operations of all its shares, in the order in which they were handed in.
use Rattle.std.specs.Prelude.{ℕ, ◌-◌, ◌^◌, ◌==◌, List, map, filter}
use Rattle.wm_view.specs.declared.op.Op.{Op}
use Rattle.wm_share.specs.declared.entry.Entry.{Entry}

-- as many shares as a process may have had
abbrev pub max_shares : ℕ
max_shares = 2 ^ 63 - 1

-- those of the share with this number
abbrev pub operations_of : ℕ → List Entry → List Op
operations_of number log = map (λ e. e.op) (filter (λ e. e.share == number) log)
