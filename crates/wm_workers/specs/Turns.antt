-- Whose turn it is to change the watched roots: each accepted command in its turn, by its number.
use Rattle.std.specs.Prelude.{◌≡◌, ◌+◌, ◌||◌, ℕ, Bool, true, false, nat_lt, max}

-- how often the server had begun, how many commands the roots have followed since its state file was made, and whether somebody's turn isn't over yet
pub record TurnState : Type 0 where
  pub incarnation : ℕ
  pub count : ℕ
  pub is_taken : Bool

-- a turn isn't over yet, or an earlier command is still to be followed before the one of the number
abbrev pub must_wait : ℕ → TurnState → Bool
must_wait number turn = turn.is_taken || nat_lt (turn.count + 1) number

-- fewer commands than these were followed
abbrev pub is_short_of : ℕ → TurnState → Bool
is_short_of count turn = nat_lt turn.count count

-- the turn of the command of the number has begun
abbrev pub taken_turn : TurnState → TurnState
taken_turn turn = record turn { is_taken = true }

-- it is over
abbrev pub finished_turn : ℕ → TurnState → TurnState
finished_turn number turn = record turn { count = max turn.count number; is_taken = false }

-- the roots had followed so many commands at some moment
abbrev pub HasReached : ℕ → Type 0
HasReached count = (turn : TurnState) × (is_short_of count turn ≡ false)
