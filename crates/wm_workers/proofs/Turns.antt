-- How far the roots had come at some moment.
use Rattle.std.proofs.Common.{◌≡◌, ℕ, false}
use Rattle.wm_workers.specs.Turns.{HasReached, TurnState, is_short_of}

pub reached : (count : ℕ) (turn : TurnState) → is_short_of count turn ≡ false → HasReached count
reached count turn enough = (turn, enough)
