-- The subscriptions of one session, in the order of subscribing.
use Rattle.std.specs.Prelude.{◌≡◌, ◌≤◌, ℕ, zero, suc, Bool, true, not, ◌&&◌, ◌||◌, List, [], ◌∷◌, ◌++◌, length, nat_lt, nat_eq, Option, Some, None}
use Rattle.std.specs.List.{filter, list_any}
use Rattle.std.specs.Str.{bytes_eq}
use Rattle.wm_names.specs.Paths.{Path}
use Rattle.wm_clock.specs.declared.clock_id.ClockId.{ClockId}
use Rattle.wm_subs.specs.Subscribers.{told_up_to}
use Rattle.wm_subs.specs.declared.subscribed.Subscribed.{Subscribed}

-- the most subscriptions of a session
abbrev pub max_subscriptions : ℕ
max_subscriptions = 32

module _ {T : Type 0} where
  -- it is on that root and has that name
  abbrev pub is_subscription : Path → List ℕ → Subscribed T → Bool
  is_subscription root name s = bytes_eq root s.root && bytes_eq name s.subscription.name

  abbrev pub is_subscribed : Path → List ℕ → List (Subscribed T) → Bool
  is_subscribed root name ss = list_any (is_subscription root name) ss

  -- without the one of that root and name
  abbrev pub without_subscription : Path → List ℕ → List (Subscribed T) → List (Subscribed T)
  without_subscription root name ss = filter (λ s. not (is_subscription root name s)) ss

  -- without all of that root
  abbrev pub without_subscribed : Path → List (Subscribed T) → List (Subscribed T)
  without_subscribed root ss = filter (λ s. not (bytes_eq root s.root)) ss

  -- it is on another root of that path than the one of that number
  abbrev pub is_on_earlier : Path → ℕ → Subscribed T → Bool
  is_on_earlier root number s = bytes_eq root s.root && not (nat_eq s.number number)

  -- without those on another root of that path
  abbrev pub without_earlier : Path → ℕ → List (Subscribed T) → List (Subscribed T)
  without_earlier root number ss = filter (λ s. not (is_on_earlier root number s)) ss

  -- with this one last, in place of one of the same root and name
  abbrev pub with_subscription : Subscribed T → List (Subscribed T) → List (Subscribed T)
  with_subscription s ss = without_subscription s.root s.subscription.name ss ++ s ∷ []

  -- one of that root and name is there, or there are fewer than the most
  abbrev pub may_subscribe : Path → List ℕ → List (Subscribed T) → Bool
  may_subscribe root name ss = is_subscribed root name ss || nat_lt (length ss) max_subscriptions

  -- the one at the place was told up to the clock
  abbrev pub told_at : ℕ → ClockId → List (Subscribed T) → List (Subscribed T)
  told_at i clock [] = []
  told_at zero clock (s ∷ ss) = record s { subscription = told_up_to s.subscription clock } ∷ ss
  told_at (suc i) clock (s ∷ ss) = s ∷ told_at i clock ss

  -- no root and name stands there twice
  abbrev pub are_apart : List (Subscribed T) → Bool
  are_apart [] = true
  are_apart (s ∷ ss) = not (is_subscribed s.root s.subscription.name ss) && are_apart ss

  -- ---- for private clauses

  -- it is on that root and, where one is given, has that name
  abbrev pub is_meant : Path → Option (List ℕ) → Subscribed T → Bool
  is_meant root None s = bytes_eq root s.root
  is_meant root (Some name) s = is_subscription root name s

  -- not too many, and each apart from the others
  abbrev pub IsSession : List (Subscribed T) → Type 0
  IsSession ss = (length ss ≤ max_subscriptions) × (are_apart ss ≡ true)
