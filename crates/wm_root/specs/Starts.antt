-- Where a question starts, and which start of a trigger is permitted.
use Rattle.std.specs.Prelude.{ℕ, Option, None, Some}
use Rattle.wm_clock.specs.declared.clock_spec.ClockSpec.{ClockSpec}
use Rattle.wm_clock.specs.declared.clock_spec.ClockSpec.TheVariants.{Clock, Another, Cursor, Seconds}
use Rattle.wm_since.specs.declared.query.Since.{Since}
use Rattle.wm_since.specs.declared.query.Since.TheVariants as since
use Rattle.wm_triggers.specs.declared.defined_trigger.DefinedTrigger.{DefinedTrigger}

-- At the clock or the moment that is named, and nowhere by a clock of another instance. The clock of a cursor is with its root.
abbrev pub start_named : Option ClockSpec → Option Since
start_named None = None
start_named (Some (Clock clock)) = Some (since.Clock clock)
start_named (Some (Seconds moment)) = Some (since.Moment moment)
start_named (Some Another) = None
start_named (Some (Cursor name)) = None

-- the number of the root, and the definition whose start is permitted
pub record PermittedStart : Type 0 where
  pub root : ℕ
  pub one : DefinedTrigger
