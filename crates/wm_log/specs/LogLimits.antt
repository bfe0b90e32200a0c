-- Which texts of a log are let through: equal ones once a second.
use Rattle.std.specs.Prelude.{◌++◌, ◌∷◌, ◌==◌, ℕ, Bool, not, List, [], if◌then◌else◌}
use Rattle.std.specs.List.{list_any}
use Rattle.std.specs.Str.{bytes_eq}

-- the texts that were let through in one second
pub record LimitState : Type 0 where
  pub second : ℕ
  pub texts : List (List ℕ)

-- in another second nothing was let through yet
abbrev pub at_second : ℕ → LimitState → LimitState
at_second second state = if state.second == second then state else record { second = second; texts = [] }

abbrev pub has_text : List ℕ → List (List ℕ) → Bool
has_text text texts = list_any (bytes_eq text) texts

-- the text isn't among those that were let through in this second
abbrev pub passes_limit : (second : ℕ) → (text : List ℕ) → LimitState → Bool
passes_limit second text state = not (has_text text (at_second second state).texts)

abbrev pub with_logged : List ℕ → LimitState → LimitState
with_logged text state = if has_text text state.texts then state else record state { texts = state.texts ++ text ∷ [] }

-- and then it is among them
abbrev pub after_logging : (second : ℕ) → (text : List ℕ) → LimitState → LimitState
after_logging second text state = with_logged text (at_second second state)
