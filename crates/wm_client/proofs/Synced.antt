-- What is sent and printed with a sync.
use Rattle.std.proofs.Common.{◌≡◌, ◌*◌, ◌++◌, ℕ, List, Option, Result, Ok, Err, IfOk, MatchResult, Some, None, codes, inl, inr, refl, sym, subst}
use Rattle.std.specs.Io.BufRead.{drop_through, take_through}
use Rattle.wm_client.specs.Asks.{AsksWhole}
use Rattle.wm_client.specs.ClientWords.{AsksFor, SyncWanted, talk_to}
use Rattle.wm_client.specs.Statuses.{EndsAsWanted, MayBeSent, TalksAsAsked, status_of_sync}
use Rattle.wm_client.specs.Syncs.{IsAfterWaits, IsClockOf, PrintsAsAsked, SendsInOrder, SendsStarts, WaitsAsAsked, clock_request, sync_folder}
use Rattle.wm_client.specs.Talks.{Prints}
use Rattle.wm_client.specs.Waits.{HasPassed}
use Rattle.wm_client.specs.declared.syncing.Asked.TheVariants.{Ended}
use Rattle.wm_client.specs.declared.syncing.SyncEnd.{SyncEnd}
use Rattle.wm_client.specs.declared.syncing.SyncEnd.TheVariants.{Talked, Unsynced, Unreadable, NoFeed}
use Rattle.wm_client.specs.declared.talking.TalkEnd.{TalkEnd}
use Rattle.wm_client.specs.declared.talking.TalkEnd.TheVariants.{Told, Refused, NoReply, ReadFailed, Unsent, Unprinted}

module _ (gone_in : List ℕ → Type 0) (socket : List ℕ) (wanted : Option SyncWanted) where
  pub only_clocks : (sync : SyncWanted) (held holds : Option (List ℕ)) → wanted ≡ Some sync → SendsStarts (clock_request sync.root ++ codes "\n") held holds
      → SendsInOrder gone_in socket wanted held holds
  only_clocks sync held holds is starts = subst (λ (o : Option SyncWanted). SendsInOrder gone_in socket o held holds) (sym is) (inr starts)

  pub may_be_sent : (sync : SyncWanted) (root : ℕ) → wanted ≡ Some sync → gone_in (sync_folder socket root) → MayBeSent gone_in socket wanted
  may_be_sent sync root is gone = subst (MayBeSent gone_in socket) (sym is) (root, gone)

  pub may_be_sent_plain : wanted ≡ None → MayBeSent gone_in socket wanted
  may_be_sent_plain is = subst (MayBeSent gone_in socket) (sym is) tt

  pub prints_synced : (sync : SyncWanted) (follow k root : ℕ) (input rest : List ℕ) (held mid holds : Option (List ℕ)) (end : TalkEnd) → wanted ≡ Some sync
      → IsAfterWaits k input rest → IsClockOf (take_through 10 rest) root → gone_in (sync_folder socket root) → mid ≡ held → Prints follow (drop_through 10 rest) mid holds end
      → PrintsAsAsked gone_in socket wanted follow input held holds (Talked end)
  prints_synced sync follow k root input rest held mid holds end is after clock gone same prints =
      subst (λ (o : Option SyncWanted). PrintsAsAsked gone_in socket o follow input held holds (Talked end)) (sym is)
      (k, root, rest, after, clock, gone, subst (λ (o : Option (List ℕ)). Prints follow (drop_through 10 rest) o holds end) same prints)

  pub prints_plain : (follow : ℕ) (input : List ℕ) (held holds : Option (List ℕ)) (end : TalkEnd) → wanted ≡ None → Prints follow input held holds end
      → PrintsAsAsked gone_in socket wanted follow input held holds (Talked end)
  prints_plain follow input held holds end is prints = subst (λ (o : Option SyncWanted). PrintsAsAsked gone_in socket o follow input held holds (Talked end)) (sym is) prints

module _ (passed : ℕ → Type 0) (gave_up : List ℕ → Type 0) (socket : List ℕ) (wanted : Option SyncWanted) (sync : SyncWanted) (held holds : Option (List ℕ)) where
  ended : (end : TalkEnd) → AsksWhole (HasPassed passed (sync.timeout * 1000)) held holds (Ended end) → WaitsAsAsked passed gave_up socket (Some sync) held holds (Unsynced end)
  ended Told whole = tt
  ended Refused whole = whole
  ended NoReply whole = tt
  ended ReadFailed whole = tt
  ended Unsent whole = tt
  ended Unprinted whole = tt

  pub ended_waits : (end : TalkEnd) → wanted ≡ Some sync → AsksWhole (HasPassed passed (sync.timeout * 1000)) held holds (Ended end) → WaitsAsAsked passed gave_up socket wanted held holds (Unsynced end)
  ended_waits end is whole = subst (λ (o : Option SyncWanted). WaitsAsAsked passed gave_up socket o held holds (Unsynced end)) (sym is) (ended end whole)

  pub no_feed_waits : (root : ℕ) → wanted ≡ Some sync → gave_up (sync_folder socket root) → HasPassed passed (sync.timeout * 1000) → WaitsAsAsked passed gave_up socket wanted held holds NoFeed
  no_feed_waits root is left over = subst (λ (o : Option SyncWanted). WaitsAsAsked passed gave_up socket o held holds NoFeed) (sym is) ((root, left), over)

-- with which status a talk ends
module _ (gone_in : List ℕ → Type 0) (words : List (List ℕ)) (socket json : List ℕ) (follow : ℕ) (sync : Option SyncWanted) (status : ℕ) (held holds : Option (List ℕ)) where
  pub ends_of : {E : Type 0} (talked : Result SyncEnd E) → AsksFor words (talk_to socket json follow sync) → IfOk talked (TalksAsAsked gone_in (talk_to socket json follow sync) held holds)
      → MatchResult talked (λ e. status ≡ status_of_sync e) (λ _. status ≡ 1) → EndsAsWanted gone_in words status held holds
  ends_of (Err e) asks talks is = inl is
  ends_of (Ok (Talked Told)) asks talks is = inr (talk_to socket json follow sync, asks, inl (is, talks.0 refl, talks.1))
  ends_of (Ok (Talked Refused)) asks talks is = inl is
  ends_of (Ok (Talked NoReply)) asks talks is = inr (talk_to socket json follow sync, asks, inr is)
  ends_of (Ok (Talked ReadFailed)) asks talks is = inr (talk_to socket json follow sync, asks, inr is)
  ends_of (Ok (Talked Unsent)) asks talks is = inr (talk_to socket json follow sync, asks, inr is)
  ends_of (Ok (Talked Unprinted)) asks talks is = inl is
  ends_of (Ok (Unsynced Told)) asks talks is = absurd (talks refl)
  ends_of (Ok (Unsynced Refused)) asks talks is = inl is
  ends_of (Ok (Unsynced NoReply)) asks talks is = inr (talk_to socket json follow sync, asks, inr is)
  ends_of (Ok (Unsynced ReadFailed)) asks talks is = inr (talk_to socket json follow sync, asks, inr is)
  ends_of (Ok (Unsynced Unsent)) asks talks is = inr (talk_to socket json follow sync, asks, inr is)
  ends_of (Ok (Unsynced Unprinted)) asks talks is = inl is
  ends_of (Ok Unreadable) asks talks is = inr (talk_to socket json follow sync, asks, inr is)
  ends_of (Ok NoFeed) asks talks is = inr (talk_to socket json follow sync, asks, inr is)
