-- When the command of `wm run` is started, and for what.
use Rattle.std.specs.Prelude.{◌-◌, ◌||◌, ◌==◌, ℕ, nat_le, not, Bool, false, List, Option, None, Some, length, map, string_bytes, if◌then◌else◌}
use Rattle.wm_names.specs.Paths.{Path}
use Rattle.wm_commands.specs.declared.answers.Answer.{Answer}

-- ---- a settled change

-- A change has settled if so many milliseconds have passed since it without another.
abbrev pub has_settled : (settle : ℕ) → (last : Option ℕ) → (now : ℕ) → Bool
has_settled settle None now = false
has_settled settle (Some last) now = nat_le settle (now - last)

-- ---- one run after the other

-- between two events: the clock since which is asked next, and whether the command runs
pub record RunState : Type 0 where
  pub asks_since : Option (List ℕ)
  pub is_running : Bool

abbrev pub answer_names : Answer → List Path
answer_names answer = map string_bytes answer.names.items

-- an answer asks for a run if it is fresh, or lists a name
abbrev pub asks_for_run : Answer → Bool
asks_for_run answer = answer.is_fresh || not (length answer.names.items == 0)

-- What an answer leads to. While the command runs, nothing moves: what the answer lists is asked for again, since the clock of the answer
-- that the run is for. Otherwise the next question is since the clock of this one, and the command is started if the answer asks for it.
abbrev pub after_answer : RunState → Answer → RunState
after_answer state answer = if state.is_running then state else record { asks_since = Some (string_bytes answer.clock); is_running = asks_for_run answer }

-- the names for which the command is started then, if it is
abbrev pub started_for : RunState → Answer → Option (List Path)
started_for state answer = if state.is_running then None else (if asks_for_run answer then Some (answer_names answer) else None)

-- the command has ended: the next question is still since the clock of the answer that the run was for
abbrev pub after_end : RunState → RunState
after_end state = record state { is_running = false }
