-- What a session that shares a desk and roots with others knows of a call: at which state it was met.
use Rattle.std.specs.Prelude.{◌≡◌, ◌≤◌, ◌⊎◌, ℕ, [], ◌∷◌, Bool, true, false, Option, None}
use Rattle.wm_names.specs.Paths.{Path}
use Rattle.wm_registry.specs.Roots.{root_at}
use Rattle.wm_registry.specs.declared.version.Version.TheVariants.{Two}
use Rattle.wm_since.specs.Cursors.{CursorList}
use Rattle.wm_share.specs.PublishedLists.{PublishedList, Begins, history}
use Rattle.wm_groupcommit.specs.declared.seat.Seat.{Seat}
use Rattle.wm_session.specs.declared.local.root_views.RootView.{RootView}
use Rattle.wm_session.specs.session.Faults.{Way, Defined, Device, Memory, Spent}
use Rattle.wm_session.specs.session.Fronts.{Part, Nowhere, Commands, Lists, Changes, Asks, Looks}
use Rattle.wm_session.specs.session.Sessions.{SessionState}
use Rattle.wm_session.specs.session.Watched.{of_history}
use Rattle.wm_front.specs.Commands.{IsSubmittedBy, KeepsSeat}
use Rattle.wm_front.specs.Looks.{IsShownTo}
use Rattle.wm_front.specs.RootsSeen.{IsSeenMore, ViewerList}

-- what a session knows by: its seat at the desk, once it has one, and its viewers
pub record SharedKnown : Type 0 where
  pub seat : Option Seat
  pub viewers : ViewerList

-- ---- parts of a server's state

-- One watched root with its view and its cursors. Its number and its triggers are of another part: a request about a root reads neither.
abbrev pub one_root : Path → RootView → SessionState
one_root path view = record {
  registry = record { version = Two; incarnation = 0; next = 0; roots = (path, record { number = 0; triggers = [] }) ∷ [] };
  has_failed = false;
  views = view ∷ [];
}

abbrev pub no_root : SessionState
no_root = record { registry = record { version = Two; incarnation = 0; next = 0; roots = [] }; has_failed = false; views = [] }

-- ---- where a call about a root is met

-- memory ran out, or as many operations as a counter counts were handed in
abbrev pub IsForWant : Way → Type 0
IsForWant Defined = ⊥
IsForWant Device = ⊥
IsForWant Memory = Unit {0}
IsForWant Spent = Unit {0}

-- no view is asked of the device
abbrev pub IsWithoutDevice : Way → Type 0
IsWithoutDevice Device = ⊥
IsWithoutDevice _ = Unit {0}

-- one of the viewers has seen more, or none
abbrev pub AreSeenMore : ViewerList → ViewerList → Type 0
AreSeenMore old now = (now ≡ old) ⊎ ((number : ℕ) × IsSeenMore number old now)

-- The root's view found is that of a published list, and the one left is that of this list or of a longer one, which the session's viewer of the root has
-- then seen. A question is answered on just the list that the viewer has then seen last, which begins with all that it had seen.
pub record IsOnPublished (has : Path → ℕ → Type 0) (path : Path) (asks : Bool) (old : ViewerList) (s t : SessionState) (new : ViewerList) : Type 0 where
  pub number : ℕ
  pub root : has path number
  pub more : IsSeenMore number old new
  pub before : PublishedList
  pub after : PublishedList
  pub cursors : CursorList
  pub moved : CursorList
  pub grows : Begins before after
  pub seen : Begins after more.new.list
  pub asked : asks ≡ true → (before ≡ more.new.list) × (after ≡ more.new.list)
  pub found : s ≡ one_root path (of_history (history before) cursors)
  pub left : t ≡ one_root path (of_history (history after) moved)

-- No root of the path is watched, in the registry after all that the session's seat had seen.
abbrev pub IsUnwatched : Path → SharedKnown → SessionState → SessionState → SharedKnown → Type 0
IsUnwatched path old s t new = IsShownTo old.seat s.registry new.seat × (root_at path s.registry ≡ None) × (s.views ≡ []) × (t ≡ s) × (new.viewers ≡ old.viewers)

abbrev pub IsMetOnRoot : (Path → ℕ → Type 0) → Path → Bool → Way → SharedKnown → SessionState → SessionState → SharedKnown → Type 0
IsMetOnRoot has path asks way old s t new =
    IsWithoutDevice way × KeepsSeat old.seat new.seat
    × ((IsForWant way × AreSeenMore old.viewers new.viewers) ⊎ IsUnwatched path old s t new ⊎ IsOnPublished has path asks old.viewers s t new.viewers)

-- ---- where any call is met

-- The registry is shown as the session's seat knows it, and the roots have followed its commands; or memory ran out.
abbrev pub IsListedBy : (ℕ → Type 0) → Way → Option Seat → SessionState → Option Seat → Type 0
IsListedBy followed Defined old s now = (is : IsShownTo old s.registry now) × followed is.2.at
IsListedBy followed Device old s now = ⊥
IsListedBy followed Memory old s now = Unit {0}
IsListedBy followed Spent old s now = ⊥

-- If a viewer of the session has seen more by a change of a root, those who wait for changes of the root were woken.
abbrev pub AreWoken : (Path → ℕ → Type 0) → (ℕ → Type 0) → Path → SharedKnown → SharedKnown → Type 0
AreWoken has woken path old new = (new.viewers ≡ old.viewers) ⊎ ((number : ℕ) × has path number × woken number)

-- `has path number` says that the watched root of a path had the number, `woken number` that those who wait for its changes were woken, and `followed n` that
-- the roots had followed at least so many of the accepted commands
module _ (has : Path → ℕ → Type 0) (woken followed : ℕ → Type 0) where
  -- What is known of a call on a part. An operation is met at a moment no earlier than it was given.
  abbrev pub MetShared : SharedKnown → Part → Way → Bool → SessionState → SessionState → SharedKnown → Type 0
  MetShared old Nowhere way accepts s t new = IsWithoutDevice way × (t ≡ s) × (new ≡ old)
  MetShared old Commands way accepts s t new = (new.viewers ≡ old.viewers) × IsSubmittedBy followed way accepts old.seat s new.seat
  MetShared old Lists way accepts s t new = (t ≡ s) × (new.viewers ≡ old.viewers) × KeepsSeat old.seat new.seat × IsListedBy followed way old.seat s new.seat
  MetShared old (Changes path given moment) way accepts s t new = (given ≤ moment) × AreWoken has woken path old new × IsMetOnRoot has path false way old s t new
  MetShared old (Asks path) way accepts s t new = IsMetOnRoot has path true way old s t new
  MetShared old (Looks path) way accepts s t new = IsMetOnRoot has path true way old s t new
