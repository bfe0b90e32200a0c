-- With which status a feed ends.
use Rattle.std.specs.Prelude.{◌≡◌, ◌⊎◌, ℕ, Bool, true, false, List, Option, Some, None}
use Rattle.wm_names.specs.Paths.{is_root_path}
use Rattle.wm_client.specs.FeedWords.{FeedAsksFor, FeedWanted, feed_shown, feed_to}
use Rattle.wm_client.specs.declared.stop.Stop.{Stop}
use Rattle.wm_client.specs.declared.stop.Stop.TheVariants as stop

-- the status of a feed that stops for this cause
abbrev pub status_of_stop : Stop → ℕ
status_of_stop stop.WatchGone = 0
status_of_stop stop.Unreached = 3
status_of_stop stop.ServerGone = 3
status_of_stop other = 1

-- a feed to a socket, of one root or of each watched root, with the flag for every event, may stop for this cause
abbrev pub Stops : Type 1
Stops = (socket : List ℕ) → (root : Option (List ℕ)) → (is_every_event : Bool) → Stop → Type 0

-- no root is named, or one whose path may be a root's
abbrev pub may_be_fed : Option (List ℕ) → Bool
may_be_fed None = true
may_be_fed (Some root) = is_root_path root

-- What is wanted may end so, beside 1: a text with its own status; a feed with 2 if its root's path is none, and else with the status of a cause for which it may stop.
abbrev pub MayEnd : Stops → FeedWanted → ℕ → Type 0
MayEnd may_stop (feed_shown told) status = status ≡ told
MayEnd may_stop (feed_to socket root is_every_event) status = ((may_be_fed root ≡ false) × (status ≡ 2))
    ⊎ ((may_be_fed root ≡ true) × (cause : Stop) × may_stop socket root is_every_event cause × (status ≡ status_of_stop cause))

-- Memory ran out, or help or the version can't be told; or these words ask for something that may end so.
abbrev pub EndsAsAsked : Stops → List (List ℕ) → ℕ → Type 0
EndsAsAsked may_stop words status = (status ≡ 1) ⊎ ((wanted : FeedWanted) × FeedAsksFor words wanted × MayEnd may_stop wanted status)
