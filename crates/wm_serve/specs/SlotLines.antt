-- What the session of a connection slot does with a line, and with what is due to it.
use Rattle.std.specs.Prelude.{◌≡◌, ℕ, Bool, false, List, Option}
use Rattle.wm_front.specs.Ended.{HaveEnded}
use Rattle.wm_front.specs.declared.shared_front.SharedFront.{SharedFront}
use Rattle.wm_session.specs.session.Faults.{Way}
use Rattle.wm_session.specs.session.Fronts.{Part}
use Rattle.wm_session.specs.session.Sessions.{SessionState, SubscriptionList}
use Rattle.wm_workers.specs.WatchedRoots.{MayHaveHad, MayHaveLacked}
use Rattle.wm_serve.specs.SentLines.{SendsDue, SendsReply}

-- the session has dropped subscriptions and viewers of roots that have ended, and nothing else
abbrev pub HasDropped : {T H J K : Type 0} → SharedFront T H J K → SubscriptionList → SharedFront T H J K → SubscriptionList → Type 0
HasDropped old subscriptions new left = HaveEnded MayHaveHad MayHaveLacked subscriptions left × (new ≡ record old { viewers = new.viewers; ended_count = new.ended_count })

module _ {T H J K : Type 0} (met : SharedFront T H J K → Part → Way → Bool → SessionState → SessionState → SharedFront T H J K → Type 0) where
  -- First it has dropped what has ended, then it answered the line at some moment, and then it was logged if the device had failed.
  abbrev pub AnswersInSlot : SharedFront T H J K → SubscriptionList → List ℕ → Option (List ℕ) → Option (List ℕ) → SharedFront T H J K → SubscriptionList → Type 0
  AnswersInSlot old subscriptions line before after new subscriptions' =
      (front answered : SharedFront T H J K) × (left : SubscriptionList) × (moment : ℕ) × HasDropped old subscriptions front left
      × SendsReply met front left moment line before after answered subscriptions' × (new ≡ record answered { has_store_failed = false })

  -- First it has dropped what has ended, and then what was due was sent.
  abbrev pub SendsDueInSlot : SharedFront T H J K → SubscriptionList → Option (List ℕ) → Option (List ℕ) → SharedFront T H J K → SubscriptionList → Type 0
  SendsDueInSlot old subscriptions before after new subscriptions' =
      (front : SharedFront T H J K) × (left : SubscriptionList) × HasDropped old subscriptions front left × SendsDue met front left before after new subscriptions'
