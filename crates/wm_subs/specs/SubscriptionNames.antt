-- The names of subscriptions.
use Rattle.std.specs.Prelude.{ℕ, List, Bool, ◌&&◌, length, nat_lt, nat_le}

-- the most bytes of a subscription's name
abbrev pub max_subscription_name : ℕ
max_subscription_name = 64

-- neither empty nor too long
abbrev pub is_subscription_name : List ℕ → Bool
is_subscription_name name = nat_lt 0 (length name) && nat_le (length name) max_subscription_name
