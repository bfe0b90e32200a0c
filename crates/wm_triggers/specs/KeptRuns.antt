-- The runs of a root's triggers from round to round.
use Rattle.std.specs.Prelude.{ℕ, zero, suc, Bool, ◌&&◌, ◌==◌, List, [], ◌∷◌, Option, Some, None, unwrap_or}
use Rattle.std.specs.List.{find}
use Rattle.wm_clock.specs.declared.clock_id.ClockId.{ClockId}
use Rattle.wm_registry.specs.Triggers.{Definition, is_named}
use Rattle.wm_triggers.specs.declared.defined_trigger.DefinedTrigger.{DefinedTrigger}

-- the runs of one definition: its command's number, the trigger, and the clock of the last run that was started
pub record KeptRuns : Type 0 where
  pub number : ℕ
  pub trigger : Definition
  pub last : Option ClockId

-- they are those of this definition: of its name and number; its text doesn't matter
abbrev pub are_of : DefinedTrigger → KeptRuns → Bool
are_of d k = is_named d.trigger.name k.trigger && (k.number == d.number)

-- the runs of a definition of which none was started
abbrev pub new_runs : DefinedTrigger → KeptRuns
new_runs d = record { number = d.number; trigger = d.trigger; last = None }

-- the runs of a definition in the next round: those that were kept of it, or else new ones
abbrev pub kept_for : List KeptRuns → DefinedTrigger → KeptRuns
kept_for kept d = unwrap_or (find (are_of d) kept) (new_runs d)

-- a run of those at the place was started, whose clock is this; all others stay
abbrev pub started_at : ℕ → ClockId → List KeptRuns → List KeptRuns
started_at place clock [] = []
started_at zero clock (k ∷ ks) = record k { last = Some clock } ∷ ks
started_at (suc place) clock (k ∷ ks) = k ∷ started_at place clock ks
