-- What a request about one root reads of a state: that root's view and cursors alone.
use Rattle.std.specs.Prelude.{◌≡◌, ℕ, Option, Some, None}
use Rattle.wm_names.specs.Paths.{Path}
use Rattle.wm_lines.specs.declared.request.Request.{Request}
use Rattle.wm_lines.specs.declared.request.Request.TheVariants.{Observe, Listing, AgeOut, Clock, Query}
use Rattle.wm_session.specs.session.Sessions.{SessionState, SubscriptionList, handled, view_of}

-- the root whose view is all that a request reads of a state
abbrev pub read_root : Request → Option Path
read_root (Observe root pairs) = Some root
read_root (Listing root begun_at found) = Some root
read_root (AgeOut root age) = Some root
read_root (Clock root) = Some root
read_root (Query root q) = Some root
read_root _ = None

-- both states have one view of that root
abbrev pub AgreeAt : Option Path → SessionState → SessionState → Type 0
AgreeAt None s t = ⊥
AgreeAt (Some root) s t = view_of s root ≡ view_of t root

-- where two states have one view of the root that a request reads, it is answered the same on both, and they have one view of that root after it
abbrev pub MeetsOnPart : Type 0
MeetsOnPart = (s t : SessionState) (one other : SubscriptionList) (moment : ℕ) (request : Request) → AgreeAt (read_root request) s t
    → ((handled s one moment request).reply ≡ (handled t other moment request).reply)
    × AgreeAt (read_root request) (handled s one moment request).state (handled t other moment request).state
