use Rattle.std.proofs.Common.{◌≡◌, ◌++◌, List, ℕ, take, drop}
use Rattle.std.specs.Io.BufRead.{take_through, drop_through}
use Rattle.wm_session.proofs.session.input.through_newline.Given as goal

abbrev pub invariant-loop-i : goal.invariant-loop-i
invariant-loop-i l = (more : List ℕ) → (take_through 10 (l.bytes ++ more) ≡ take l.i l.bytes ++ take_through 10 (drop l.i l.bytes ++ more)) × (drop_through 10 (l.bytes ++ more) ≡ drop_through 10 (drop l.i l.bytes ++ more))
