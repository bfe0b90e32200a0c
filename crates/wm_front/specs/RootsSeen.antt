-- What the viewers of a session have seen of the watched roots.
use Rattle.std.specs.Prelude.{◌≡◌, ◌⊎◌, ◌==◌, ◌<◌, ◌++◌, ◌∷◌, ℕ, Bool, true, false, nat_eq, List, [], length, Option, None, Result, Ok, Err, if◌then◌else◌}
use Rattle.std.specs.List.{list_any}
use Rattle.wm_disk.specs.declared.refusal.Refusal.{Refusal}
use Rattle.wm_disk.specs.declared.refusal.Refusal.TheVariants.{NoMemory, NoPlace, NotReady, NotWatched, TooMany}
use Rattle.wm_clock.specs.declared.clock_id.ClockId.{ClockId}
use Rattle.wm_expr.specs.Meanings.{holds}
use Rattle.wm_expr.specs.Terms.{Term}
use Rattle.wm_view.specs.Histories.{is_ready}
use Rattle.wm_since.specs.Answers.{clock_of}
use Rattle.wm_since.specs.Cursors.{CursorList}
use Rattle.wm_since.specs.declared.query.Answer.{Answer}
use Rattle.wm_subs.specs.Subscribers.{due_answer}
use Rattle.wm_subs.specs.declared.subscribed.Subscribed.{Subscribed}
use Rattle.wm_share.specs.PublishedLists.{ViewerState, Begins, history}
use Rattle.wm_lines.specs.declared.query.Inquiry.{Inquiry}
use Rattle.wm_root.specs.Inquired.{answer_bytes, has_room_among}

-- the viewers of a session, one of each root that it asked about
abbrev pub ViewerList : Type 0
ViewerList = List ViewerState

-- it is of the root with this number
abbrev pub is_viewer_of : ℕ → ViewerState → Bool
is_viewer_of number viewer = viewer.list.share.root == number

-- The first viewer of the root stands at the place; it stood there before, or was taken behind the others.
pub record IsViewerPlaced (number place : ℕ) (old now : ViewerList) : Type 0 where
  pub before : ViewerList
  pub after : ViewerList
  pub viewer : ViewerState
  pub had : (old ≡ before ++ viewer ∷ after) ⊎ ((old ≡ before) × (after ≡ []))
  pub place_is : place ≡ length before
  pub within : place < length now
  pub now_is : now ≡ before ++ viewer ∷ after
  pub first : list_any (is_viewer_of number) before ≡ false
  pub own : viewer.list.share.root ≡ number

-- The first viewer of the root has seen more, and no other has changed.
pub record IsSeenMore (number : ℕ) (old now : ViewerList) : Type 0 where
  pub before : ViewerList
  pub after : ViewerList
  pub viewer : ViewerState
  pub new : ViewerState
  pub had : (old ≡ before ++ viewer ∷ after) ⊎ ((old ≡ before) × (after ≡ []))
  pub now_is : now ≡ before ++ new ∷ after
  pub first : list_any (is_viewer_of number) before ≡ false
  pub own : viewer.list.share.root ≡ number
  pub sees : Begins viewer.list new.list

-- The viewer of the root, from what it had seen to what it has then seen, shows this; or no viewer could be had.
abbrev pub IsShownBy : {A : Type 0} → ℕ → ViewerList → Result A Refusal → ViewerList → (ViewerState → ViewerState → Type 0) → Type 0
IsShownBy number old result now Shows = ((result ≡ Err NoMemory) × (now ≡ old)) ⊎ ((more : IsSeenMore number old now) × Shows more.viewer more.new)

-- ---- what a viewer shows

-- the keeper is gone, which no run reaches while the root is had
abbrev pub unless_gone : {A : Type 0} → Result A Refusal → Result A Refusal
unless_gone (Err NoPlace) = Err NoMemory
unless_gone answered = answered

-- what is due on a root that wasn't found: nothing if it isn't watched
abbrev pub unless_unwatched : Refusal → Result (Option Answer) Refusal
unless_unwatched NotWatched = Ok None
unless_unwatched _ = Err NoMemory

-- the answer to a question on just the list that it has then seen, as cursors stand; or why there is none
abbrev pub IsAnswerSeen : Inquiry → ViewerState → List ℕ → Result (Unit {0}) Refusal → List ℕ → Type 0
IsAnswerSeen inquiry viewer before (Ok done) after =
    (cursors : CursorList) × (is_ready (history viewer.list) ≡ true) × (has_room_among inquiry.since cursors ≡ true) × (after ≡ before ++ answer_bytes inquiry cursors viewer)
IsAnswerSeen inquiry viewer before (Err e) after =
    (after ≡ before) × ((e ≡ NoMemory) ⊎ ((e ≡ NotReady) × (is_ready (history viewer.list) ≡ false))
    ⊎ ((cursors : CursorList) × (e ≡ TooMany) × (is_ready (history viewer.list) ≡ true) × (has_room_among inquiry.since cursors ≡ false)))

-- the clock of just the list that it has then seen
abbrev pub IsClockSeen : ViewerState → Result ClockId Refusal → Type 0
IsClockSeen viewer (Ok clock) = (is_ready (history viewer.list) ≡ true) × (clock ≡ clock_of (history viewer.list))
IsClockSeen viewer (Err e) = (e ≡ NoMemory) ⊎ ((e ≡ NotReady) × (is_ready (history viewer.list) ≡ false))

-- what is due on just the list that it has then seen: nothing if it is of another root than the one of the subscription
abbrev pub due_shown : ViewerState → Subscribed Term → Option Answer
due_shown viewer x = if nat_eq viewer.list.share.root x.number then due_answer (holds x.subscription.query.test) (history viewer.list) x.subscription else None

abbrev pub IsDueSeen : ViewerState → Subscribed Term → Result (Option Answer) Refusal → Type 0
IsDueSeen viewer x (Ok due) = due ≡ due_shown viewer x
IsDueSeen viewer x (Err e) = e ≡ NoMemory
