-- The rule of a reply queue.
use Rattle.std.specs.Prelude.{◌≡◌, ◌≤◌, ℕ, length, Bool, true, false, Option, Some, None, List, [], ◌∷◌, ◌++◌, map}
use mathlib.Core.Option.{some}
use lib.ListN.{get_elem?}
use Rattle.wm_registry.specs.Roots.{State}
use Rattle.wm_groupcommit.specs.declared.queued.Call.{Call}
use Rattle.wm_groupcommit.specs.declared.queued.Answer.{Answer}
use Rattle.wm_groupcommit.specs.declared.locked.deliveries.Delivery.{Delivery}
use Rattle.wm_groupcommit.specs.declared.locked.deliveries.ReplyView.{ReplyView}
use Rattle.wm_groupcommit.specs.Books.{AllRight, state_at}

abbrev pub reply_view : Bool → Option ℕ → Option State → List Call → List Answer → List Delivery → ReplyView
reply_view writes seat base list got given = record { writes = writes; seat = seat; base = base; list = list; got = got; given = given }

-- the end of a queue that is of no seat yet
abbrev pub unnamed : ReplyView
unnamed = reply_view true None None [] [] []

-- the flusher's end to a new seat, and the seat's own
abbrev pub end_to : ℕ → ReplyView
end_to seat = reply_view true (Some seat) None [] [] []

abbrev pub newcomer : ℕ → ReplyView
newcomer seat = reply_view false (Some seat) None [] [] []

abbrev pub StartsWith : List Call → List Call → Type 0
StartsWith list seen = (rest : List Call) × (list ≡ seen ++ rest)

-- what was known of the set that the desk found stays so
abbrev pub KeepsBase : Option State → Option State → Type 0
KeepsBase None b = Unit {0}
KeepsBase (Some x) b = b ≡ Some x

-- the answers are right for this list
abbrev pub RightFor : Option State → List Call → List Answer → Type 0
RightFor None list got = got ≡ []
RightFor (Some base) list got = AllRight base list got

-- what an end knows is kept by the book
abbrev pub IsLater : ReplyView → Option State → List Call → Type 0
IsLater v base list = KeepsBase v.base base × StartsWith list v.list

abbrev pub answers_in : List Delivery → List Answer
answers_in items = map (λ x. x.answer) items

abbrev pub base_of : Delivery → Option State
base_of x = Some x.seen.value.base

abbrev pub list_of : Delivery → List Call
list_of x = x.seen.value.list

-- a registry that is shown is that after so many commands of this list
abbrev pub IsShownFor : Option State → List Call → Delivery → Type 0
IsShownFor base list x = (r : State) → x.registry ≡ Some r → (b : State) × (base ≡ Some b) × (x.answer.at ≤ length list) × (r ≡ state_at b list x.answer.at)

abbrev pub AreShownFor : Option State → List Call → List Delivery → Type 0
AreShownFor base list [] = Unit {0}
AreShownFor base list (x ∷ xs) = IsShownFor base list x × AreShownFor base list xs

-- the answers are to calls of this seat
abbrev pub AreTo : Option ℕ → List Answer → Type 0
AreTo seat [] = Unit {0}
AreTo seat (a ∷ as') = (seat ≡ Some a.call.seat) × AreTo seat as'

-- an end is of the queue's seat; the flusher's is the only one while there is none
abbrev pub FitsSeat : Option ℕ → ℕ → ℕ → ReplyView → Type 0
FitsSeat seat writer port v = (v.seat ≡ seat) × (seat ≡ None → port ≡ writer)

abbrev pub FitsEnd : Option ℕ → ℕ → Option State → List Call → ℕ → ReplyView → Type 0
FitsEnd seat writer base list port v =
    FitsSeat seat writer port v × (v.writes ≡ true → (port ≡ writer) × (v.base ≡ base) × (v.list ≡ list)) × IsLater v base list × RightFor v.base v.list v.got

-- Both ends are of one seat, and what is queued answers its calls. There is one list, which the flusher's end knows: the book when it last handed an answer over. What is queued is right for it, and so is a registry that is shown. What the seat has seen is a prefix of it, and what the seat has got is right for that
abbrev pub Replying : List Delivery → List ReplyView → Type 0
Replying items views =
    (seat : Option ℕ) × (writer : ℕ) × (base : Option State) × (list : List Call)
    × ((port : ℕ) (v : ReplyView) → get_elem? views port ≡ some v → FitsEnd seat writer base list port v)
    × RightFor base list (answers_in items) × AreTo seat (answers_in items) × AreShownFor base list items

-- the flusher's end once it has handed this over
abbrev pub with_given : ReplyView → Delivery → ReplyView
with_given v x = reply_view v.writes v.seat (base_of x) (list_of x) v.got (v.given ++ x ∷ [])

abbrev pub Gave : ReplyView → Delivery → ReplyView → Type 0
Gave v x w = w ≡ with_given v x

-- the flusher's end has dropped an answer that the seat hasn't taken
abbrev pub Dropped : ReplyView → Delivery → ReplyView → Type 0
Dropped v x w = w ≡ v

-- the seat has one answer more, which is to a call of its own, and right with all others for a list that begins with what it had seen; so is what is shown with it
abbrev pub Took : ReplyView → Delivery → ReplyView → Type 0
Took v x w =
    (w.writes ≡ v.writes) × (w.seat ≡ v.seat) × (v.seat ≡ Some x.answer.call.seat)
    × IsLater v w.base w.list × (w.got ≡ v.got ++ x.answer ∷ []) × RightFor w.base w.list w.got × IsShownFor w.base w.list x

-- these answers may be queued while an end knows so much
abbrev pub MayBeHanded : ReplyView → List Delivery → Type 0
MayBeHanded v items = (views : List ReplyView) × (port : ℕ) × Replying items views × (get_elem? views port ≡ some v)

-- at one moment no answer was queued
abbrev pub HadNone : ReplyView → Type 0
HadNone v = (items : List Delivery) × (length items ≡ 0) × MayBeHanded v items
