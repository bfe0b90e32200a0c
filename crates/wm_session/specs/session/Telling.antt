-- Telling what is due, one subscription after the other. For private clauses.
use Rattle.std.specs.Prelude.{◌≡◌, ℕ, List, ◌++◌, length, Bool, Option, Some, None, slice_get}
use Rattle.wm_expr.specs.Terms.{Term}
use Rattle.wm_since.specs.declared.query.Answer.{Answer}
use Rattle.wm_subs.specs.SessionLists.{told_at}
use Rattle.wm_subs.specs.declared.subscribed.Subscribed.{Subscribed}
use Rattle.wm_session.specs.session.Dues.{after_told, are_all_found, due_in, due_line, told_lines}
use Rattle.wm_session.specs.session.Sessions.{SessionState, SubscriptionList}

-- the one at the place was told the answer, if there is one
abbrev pub told_in : ℕ → Option Answer → SubscriptionList → SubscriptionList
told_in place None xs = xs
told_in place (Some a) xs = told_at place a.clock xs

-- the one at the place was told what is due to it
abbrev pub TellsAt : SessionState → ℕ → SubscriptionList → List ℕ → SubscriptionList → List ℕ → Type 0
TellsAt s place xs bytes xs' bytes' =
    (x : Subscribed Term) → slice_get xs place ≡ Some x → (bytes' ≡ bytes ++ due_line x (due_in s x)) × (xs' ≡ told_in place (due_in s x) xs)

-- each was told what is due to it, where memory was found
pub record TellsAll (s : SessionState) (xs : SubscriptionList) (bytes : List ℕ) (is_whole : Bool) (xs' : SubscriptionList) (bytes' : List ℕ) : Type 0 where
  pub finds : List Bool
  pub marks : length finds ≡ length xs
  pub whole : is_whole ≡ are_all_found finds
  pub bytes_are : bytes' ≡ bytes ++ told_lines s finds xs
  pub subscriptions_are : xs' ≡ after_told s finds xs
