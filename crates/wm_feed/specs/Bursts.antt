-- How long a batch is held back, in milliseconds: of many that are sent in a row each is gathered for a while.
use Rattle.std.specs.Prelude.{ℕ, Bool, not, ◌+◌, ◌-◌, ◌&&◌, ◌||◌, nat_le, nat_lt, if◌then◌else◌}
use Rattle.wm_feed.specs.Batches.{Gathered, asks_nothing}

-- how many batches were sent in a row, each right behind the other, up to 4, and when the last of them was answered
pub record SentInRow : Type 0 where
  pub count : ℕ
  pub at : ℕ

abbrev pub none_in_row : SentInRow
none_in_row = record { count = 0; at = 0 }

-- 3 ms behind the last one, from the fifth in a row on, and not while a client waits
abbrev pub held_back : ℕ → Bool → Gathered → SentInRow → ℕ
held_back now is_awaited gathered s =
    if asks_nothing gathered || (is_awaited || nat_lt s.count 4)
    then 0
    else 3 - (now - s.at)

-- one more in the row: the last one was answered at most 4 ms before
abbrev pub in_row : ℕ → Bool → SentInRow → ℕ
in_row now is_awaited s =
    if is_awaited || not (nat_le (now - s.at) 4) then 0
    else if nat_lt s.count 4 then s.count + 1
    else s.count

abbrev pub counted_batch : ℕ → Bool → SentInRow → SentInRow
counted_batch now is_awaited s = record { count = in_row now is_awaited s; at = s.at }

abbrev pub answered_at : ℕ → SentInRow → SentInRow
answered_at now s = record { count = s.count; at = now }
