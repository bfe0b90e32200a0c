-- What a server sends to a session: the reply to each line, with what is due behind it.
use Rattle.std.specs.Prelude.{◌≡◌, ◌⊎◌, ℕ, List, [], Bool, length, Option, Result, Ok, Err}
use Rattle.std.specs.Io.KnownBytes.{Appends}
use Rattle.serde_json.specs.Data.{Data}
use Rattle.wm_disk.specs.declared.refusal.Refusal.{Refusal}
use Rattle.wm_disk.specs.declared.refusal.Refusal.TheVariants.{NoMemory}
use Rattle.wm_lines.specs.Replies.{clock_reply, reply_bytes}
use Rattle.wm_lines.specs.declared.progress.Progress.{Progress}
use Rattle.wm_session.specs.session.Faults.{Way}
use Rattle.wm_session.specs.session.Fronts.{Part}
use Rattle.wm_session.specs.session.Sessions.{SessionState, SubscriptionList}
use Rattle.wm_session.specs.session.Tellings.{AnswersLine, TellsUpTo}

-- the reply to a request for a crawl: the clock behind it, or why there was none
abbrev pub crawl_reply : Result Progress Refusal → Result Data Refusal
crawl_reply (Ok progress) = Ok (clock_reply progress.clock)
crawl_reply (Err e) = Err e

-- the line that says that memory ran out
abbrev pub no_memory_bytes : List ℕ
no_memory_bytes = reply_bytes (Err NoMemory)

-- a reply that is sent alone, or the line that says that memory ran out for it
abbrev pub sent_alone : {V E : Type 0} → (V → List ℕ) → Result V E → List ℕ
sent_alone items (Ok reply) = items reply
sent_alone items (Err e) = no_memory_bytes

module _ {F : Type 0} (met : F → Part → Way → Bool → SessionState → SessionState → F → Type 0) where
  -- The session answered the line, and its reply was written, with what is due behind it; or memory ran out for that, and the session is as it was.
  abbrev pub SendsReply : F → SubscriptionList → ℕ → List ℕ → Option (List ℕ) → Option (List ℕ) → F → SubscriptionList → Type 0
  SendsReply old subscriptions moment line before after new subscriptions' =
      ((bytes : List ℕ) × (n : ℕ) × AnswersLine met old subscriptions moment line n [] bytes new subscriptions' × Appends before after bytes)
      ⊎ ((new ≡ old) × (subscriptions' ≡ subscriptions) × Appends before after no_memory_bytes)

  -- what is due to each subscription was written, but for those for which memory ran out
  abbrev pub SendsDue : F → SubscriptionList → Option (List ℕ) → Option (List ℕ) → F → SubscriptionList → Type 0
  SendsDue old subscriptions before after new subscriptions' =
      (bytes : List ℕ) × (whole : Bool) × TellsUpTo met old subscriptions [] (length subscriptions) whole new subscriptions' bytes × Appends before after bytes
