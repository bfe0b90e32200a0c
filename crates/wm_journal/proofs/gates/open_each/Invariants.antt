use Rattle.std.proofs.Common.{◌≡◌, ◌≤◌, ◌+◌, ℕ, List, length}
use Rattle.wm_disk.specs.Calls.{EachLeft, LeavesAtAnyMoment}
use Rattle.wm_journal.specs.Areas.{SameOutside}
use Rattle.wm_journal.specs.Gates.{AreGatesOf, IsUnderGates, IsOpenTo}
use Rattle.wm_journal.proofs.gates.open_each.Given as goal

abbrev pub invariant-loop-place : goal.invariant-loop-place
invariant-loop-place g l =
    let D = g.D.Disk in
    let W = g.W.Wire in
    record {
      honest : D.honest l.disk → D.honest l.fn.disk;
      whole : D.failures l.disk ≡ D.failures l.fn.disk;
      lies : D.honest l.disk → l.offset + l.len ≤ length (D.seen l.disk);
      outside : D.honest l.disk → SameOutside l.offset l.len (D.seen l.fn.disk) (D.seen l.disk);
      opened : (held added : List _) (before : List ℕ) → D.honest l.disk → AreGatesOf W held added l.gates → IsUnderGates W l.offset l.len before held added (D.seen l.fn.disk) → IsOpenTo W l.offset l.len before held added l.place-index (D.seen l.disk);
      crash : (held added : List _) (before : List ℕ) → D.honest l.disk → AreGatesOf W held added l.gates → EachLeft D l.fn.disk (IsUnderGates W l.offset l.len before held added) → EachLeft D l.disk (IsUnderGates W l.offset l.len before held added);
      any_moment : (held added : List _) (before : List ℕ) → AreGatesOf W held added l.gates → EachLeft D l.fn.disk (IsUnderGates W l.offset l.len before held added) → LeavesAtAnyMoment D l.fn.disk l.disk (IsUnderGates W l.offset l.len before held added);
    }
