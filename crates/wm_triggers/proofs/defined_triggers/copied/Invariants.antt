use Rattle.std.proofs.Common.{◌≡◌, ◌≤◌, take, vec_capacity}
use Rattle.wm_registry.specs.Limits.{max_triggers}
use Rattle.wm_triggers.proofs.defined_triggers.copied.Given as goal

abbrev pub invariant-loop-defined : goal.invariant-loop-defined
invariant-loop-defined l = record {
  items : l.copies.items ≡ take l.defined-index l.all;
  room : max_triggers ≤ vec_capacity l.copies;
}
