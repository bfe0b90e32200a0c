-- With which status `wmctl` ends, by its words.
use Rattle.std.specs.Prelude.{◌≡◌, ◌≢◌, ◌⊎◌, ⊤, ℕ, List, Option, Some, None}
use Rattle.wm_client.specs.ClientWords.{AsksFor, SyncWanted, Wanted, shown_status, talk_to}
use Rattle.wm_client.specs.Syncs.{IsSynced}
use Rattle.wm_client.specs.Talks.{PrintsReply}
use Rattle.wm_client.specs.declared.syncing.SyncEnd.{SyncEnd}
use Rattle.wm_client.specs.declared.syncing.SyncEnd.TheVariants.{Talked, Unsynced, Unreadable, NoFeed}
use Rattle.wm_client.specs.declared.talking.TalkEnd.{TalkEnd}
use Rattle.wm_client.specs.declared.talking.TalkEnd.TheVariants.{Told, NoReply, ReadFailed, Unsent}

-- the status of a talk that ended so
abbrev pub status_of_talk : TalkEnd → ℕ
status_of_talk Told = 0
status_of_talk NoReply = 3
status_of_talk ReadFailed = 3
status_of_talk Unsent = 3
status_of_talk other = 1

-- the same of a request that may have waited for a sync
abbrev pub status_of_sync : SyncEnd → ℕ
status_of_sync (Talked end) = status_of_talk end
status_of_sync (Unsynced end) = status_of_talk end
status_of_sync Unreadable = 3
status_of_sync NoFeed = 3

-- what was seen before a request was answered: with a sync, that a file was gone from a folder of the server's roots
abbrev pub MayBeSent : (List ℕ → Type 0) → List ℕ → Option SyncWanted → Type 0
MayBeSent gone_in socket None = ⊤
MayBeSent gone_in socket (Some sync) = IsSynced gone_in socket

-- a talk that is wanted ended so: an answer comes behind the sync that was wanted
abbrev pub TalksAsAsked : (List ℕ → Type 0) → Wanted → Option (List ℕ) → Option (List ℕ) → SyncEnd → Type 0
TalksAsAsked gone_in (shown_status told) held holds end = ⊤
TalksAsAsked gone_in (talk_to socket json follow sync) held holds (Talked end) = (end ≡ Told → MayBeSent gone_in socket sync) × PrintsReply follow held holds end
TalksAsAsked gone_in (talk_to socket json follow sync) held holds (Unsynced end) = end ≢ Told
TalksAsAsked gone_in (talk_to socket json follow sync) held holds other = ⊤

-- What is wanted may end so, beside 1: a text with its own status; a talk with 0 if a reply and so many lines after it were printed, behind
-- the sync that was wanted, or with 3.
abbrev pub MayEndBy : (List ℕ → Type 0) → Wanted → ℕ → Option (List ℕ) → Option (List ℕ) → Type 0
MayEndBy gone_in (shown_status told) status held holds = status ≡ told
MayEndBy gone_in (talk_to socket json follow sync) status held holds = ((status ≡ 0) × MayBeSent gone_in socket sync × PrintsReply follow held holds Told) ⊎ (status ≡ 3)

-- Memory ran out, a reply is a refusal or something can't be printed; or these words ask for something that may end so.
abbrev pub EndsAsWanted : (List ℕ → Type 0) → List (List ℕ) → ℕ → Option (List ℕ) → Option (List ℕ) → Type 0
EndsAsWanted gone_in words status held holds = (status ≡ 1) ⊎ ((wanted : Wanted) × AsksFor words wanted × MayEndBy gone_in wanted status held holds)
