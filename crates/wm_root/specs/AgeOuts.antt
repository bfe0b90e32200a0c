-- The age-out that is due before an operation on a root.
use Rattle.std.specs.Prelude.{ℕ, ◌+◌, ◌-◌, ◌^◌, min, nat_le, cond, List, [], ◌∷◌, Option, Some, None}
use Rattle.wm_clock.specs.declared.clock_id.ClockId.{ClockId}
use Rattle.wm_view.specs.declared.op.Op.{Op}
use Rattle.wm_view.specs.declared.op.Op.TheVariants.{Observe, Recrawl, AgeOut}
use Rattle.wm_root.specs.declared.retention.Retention.{Retention}

-- the second of an operation
abbrev pub moment_of : Op → ℕ
moment_of (Observe moment pairs) = moment
moment_of (Recrawl moment begun_at listing) = moment
moment_of (AgeOut moment age) = moment

-- the age-out that is due at a second, if one is: the interval has passed since the last, or since the view became ready
abbrev pub due_age_out : Option ℕ → Retention → ℕ → List Op
due_age_out None retention moment = []
due_age_out (Some last) retention moment = cond (nat_le (min (last + retention.interval_seconds) (2 ^ 64 - 1)) moment) (AgeOut moment retention.age_seconds ∷ []) []

-- since when the interval is counted after an operation that left the clock so: as before, or since the view became ready
abbrev pub first_aged : Option ℕ → ℕ → Option ClockId → Option ℕ
first_aged (Some last) moment clock = Some last
first_aged None moment None = None
first_aged None moment (Some clock) = Some moment
