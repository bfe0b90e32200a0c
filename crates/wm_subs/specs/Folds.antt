-- The fold of a subscription's answers: the list of files that a client keeps by them.
use Rattle.std.specs.Prelude.{◌≡◌, Bool, true, false, List, [], ◌∷◌, Option, Some, None}
use Rattle.std.specs.List.{fold}
use Rattle.wm_names.specs.declared.entry.Entry.{Entry}
use Rattle.wm_clock.specs.declared.clock_id.ClockId.{ClockId}
use Rattle.wm_view.specs.declared.op.Op.{Op}
use Rattle.wm_view.specs.Files.{Paths}
use Rattle.wm_view.specs.Histories.{History, after_operation, is_ready, tick_of}
use Rattle.wm_since.specs.declared.query.Answer.{Answer}
use Rattle.wm_since.specs.declared.query.Since.{Since}
use Rattle.wm_since.specs.declared.query.Since.TheVariants.{Clock, Moment}
use Rattle.wm_since.specs.Answers.{is_fresh}
use Rattle.wm_since.specs.Clients.{files_after}
use Rattle.wm_since.specs.Matching.{matching_at}
use Rattle.wm_since.specs.Tests.{PathOnly}
use Rattle.wm_subs.specs.Subscribers.{Subscriber, after_due, due_answer}

-- the client's list after what it was told
abbrev pub files_told : Paths → Option Answer → Paths
files_told files None = files
files_told files (Some a) = files_after files a

-- The list has just the matching files at the clock, and is empty if there is no start. No list counts as held at a moment: of an answer
-- since a moment that isn't fresh nothing is claimed.
abbrev pub HoldsAt : (Entry → Bool) → History → Option Since → Paths → Type 0
HoldsAt passes h None files = files ≡ []
HoldsAt passes h (Some (Clock c)) files = files ≡ matching_at h passes c.tick
HoldsAt passes h (Some (Moment m)) files = ⊥

-- The same if what changed since the start can be told: else the list may be any, for then the answer is fresh and begins it anew.
abbrev pub HoldsSince : (Entry → Bool) → History → Option Since → Paths → Type 0
HoldsSince passes h since files = is_fresh h since ≡ false → HoldsAt passes h since files

-- the history later on, after these operations
abbrev pub history_after : History → List Op → History
history_after h ops = fold after_operation h ops

-- The list after what was told: it has just the matching files now, and at the clock since which is asked next, in each later history.
pub record KeepsList (passes : Entry → Bool) (h : History) (next : Option Since) (files : Paths) : Type 0 where
  pub now : files ≡ matching_at h passes (tick_of h)
  pub later : (ops : List Op) → HoldsSince passes (history_after h ops) next files

-- A call on a ready view, by a test of paths alone and with the files of fresh answers, keeps each client's list.
abbrev pub FoldsOn : {T : Type 0} → (Entry → Bool) → History → Subscriber T → Option Answer → Subscriber T → Type 0
FoldsOn passes h old told new =
    PathOnly passes → old.query.empty_on_fresh ≡ false → is_ready h ≡ true
    → (files : Paths) → HoldsSince passes h old.query.since files → KeepsList passes h new.query.since (files_told files told)

-- what was due, once it was told up to its clock, keeps each client's list
abbrev pub FoldsTold : {T : Type 0} → Subscriber T → ClockId → Subscriber T → Type 0
FoldsTold old clock new = (passes : Entry → Bool) (h : History) (a : Answer) → due_answer passes h old ≡ Some a → a.clock ≡ clock → FoldsOn passes h old (Some a) new

-- each call keeps it, whether an answer is due or not
abbrev pub CallsFold : Type 0 → Type 0
CallsFold T = (passes : Entry → Bool) (h : History) (s : Subscriber T) → FoldsOn passes h s (due_answer passes h s) (after_due s (due_answer passes h s))

-- ---- over a whole run

module _ {T : Type 0} (passes : Entry → Bool) where
  -- the client's list after a call on the history, and one more after each of these lists of operations
  abbrev pub list_over : History → Subscriber T → Paths → List (List Op) → Paths
  list_over h s files [] = files_told files (due_answer passes h s)
  list_over h s files (ops ∷ more) = list_over (history_after h ops) (after_due s (due_answer passes h s)) (files_told files (due_answer passes h s)) more

-- the history of the last of these calls
abbrev pub last_history : History → List (List Op) → History
last_history h [] = h
last_history h (ops ∷ more) = last_history (history_after h ops) more

-- The list begins as it holds since the subscription's start, with nothing if there is none. Once the view is ready it has just the
-- matching files after each call.
abbrev pub RunsFold : Type 0 → Type 0
RunsFold T = (passes : Entry → Bool) (h : History) (s : Subscriber T) (files : Paths) (more : List (List Op))
    → PathOnly passes → s.query.empty_on_fresh ≡ false → is_ready h ≡ true → HoldsSince passes h s.query.since files
    → list_over passes h s files more ≡ matching_at (last_history h more) passes (tick_of (last_history h more))
