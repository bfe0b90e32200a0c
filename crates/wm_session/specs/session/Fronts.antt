-- What a front says of a call, and what a session makes of it.
use Rattle.std.specs.Prelude.{◌≡◌, ◌≤◌, ℕ, List, ◌++◌, Bool, true, false, Option, Result, Ok, Err, OnOk, is_ok}
use Rattle.serde_json.specs.Data.{Data}
use Rattle.wm_disk.specs.declared.refusal.Refusal.{Refusal}
use Rattle.wm_names.specs.Paths.{Path}
use Rattle.wm_clock.specs.declared.clock_id.ClockId.{ClockId}
use Rattle.wm_clock.specs.declared.clock_spec.ClockSpec.{ClockSpec}
use Rattle.wm_since.specs.declared.query.Since.{Since}
use Rattle.wm_lines.specs.declared.progress.Progress.{Progress}
use Rattle.wm_lines.specs.declared.request.Request.{Request}
use Rattle.wm_lines.specs.declared.request.Request.TheVariants as requests
use Rattle.wm_lines.specs.Replies.{reply_bytes}
use Rattle.wm_view.specs.declared.op.Op.{Op}
use Rattle.wm_view.specs.declared.op.Op.TheVariants.{Observe, Recrawl, AgeOut}
use Rattle.wm_registry.specs.declared.command.Command.{Command}
use Rattle.wm_registry.specs.declared.reply.Reply.{Reply}
use Rattle.wm_registry.specs.Registry.{is_change}
use Rattle.wm_registry.specs.Roots.{State}
use Rattle.wm_session.specs.declared.local.root_views.RootView.{RootView}
use Rattle.wm_session.specs.session.Faults.{FrontState, Way, Defined, HasCause, faults_of, refusal_or, reply_or, state_or}
use Rattle.wm_session.specs.session.Inquiries.{since_point}
use Rattle.wm_session.specs.session.Sessions.{SessionState, SubscriptionList, Outcome, cursors_of, met_or_refused, operation_outcome, reply_to_command, state_after_command, subscriptions_after, view_of}
use Rattle.wm_session.specs.session.Watched.{clock_answer, progress_after, view_after}

-- The part of a front that a call is about: none; the registry, which a command may change or which is only looked at; or a root's view, which
-- an operation may change, of which is asked, and whose cursor may move by that, or which is only looked at. An operation was given a moment, and was met at
-- this one or a later one.
pub data Part : Type 0 where
  Nowhere : Part
  Commands : Part
  Lists : Part
  Changes : Path → (given moment : ℕ) → Part
  Asks : Path → Part
  Looks : Path → Part

abbrev pub is_look : Part → Bool
is_look Nowhere = true
is_look Lists = true
is_look (Looks path) = true
is_look _ = false

-- if the call is an operation, it was met at the moment that it was given
abbrev pub IsMetWhenGiven : Part → Type 0
IsMetWhenGiven (Changes path given moment) = moment ≡ given
IsMetWhenGiven _ = Unit {0}

-- the part that a request is about, by the moment that it was given and that at which it was met
abbrev pub part_of : (given moment : ℕ) → Request → Part
part_of given moment requests.Version = Nowhere
part_of given moment (requests.Watch path) = Commands
part_of given moment (requests.WatchDel path) = Commands
part_of given moment requests.WatchList = Lists
part_of given moment (requests.Observe root pairs) = Changes root given moment
part_of given moment (requests.Listing root begun_at found) = Changes root given moment
part_of given moment (requests.AgeOut root age) = Changes root given moment
part_of given moment (requests.Clock root) = Looks root
part_of given moment (requests.Trigger path trigger) = Commands
part_of given moment (requests.TriggerList path) = Lists
part_of given moment (requests.TriggerDel path name) = Commands
part_of given moment (requests.Query root q) = Asks root
part_of given moment (requests.Subscribe root name q) = Looks root
part_of given moment (requests.Unsubscribe root name) = Lists

-- a line that is no request is about none
abbrev pub part_read : (given moment : ℕ) → Result Request Refusal → Part
part_read given moment (Ok r) = part_of given moment r
part_read given moment (Err r) = Nowhere

-- the moment that an operation was given
abbrev pub moment_given : Op → ℕ
moment_given (Observe given pairs) = given
moment_given (Recrawl given begun_at found) = given
moment_given (AgeOut given age) = given

-- the same operation at another moment
abbrev pub at_moment : ℕ → Op → Op
at_moment moment (Observe given pairs) = Observe moment pairs
at_moment moment (Recrawl given begun_at found) = Recrawl moment begun_at found
at_moment moment (AgeOut given age) = AgeOut moment age

-- the reply to an operation is the floor, and not the clock
abbrev pub reports_floor : Op → Bool
reports_floor (Observe moment pairs) = false
reports_floor (Recrawl moment begun_at found) = false
reports_floor (AgeOut time age) = true

-- the clock, and since when is asked there
abbrev pub start_with : Result ClockId Refusal → Option Since → Result (ClockId × Option Since) Refusal
start_with (Ok clock) since = Ok (clock, since)
start_with (Err r) since = Err r

-- a root's clock, and since when is asked of it there
abbrev pub start_answer : Option RootView → Option ClockSpec → Result (ClockId × Option Since) Refusal
start_answer view since = start_with (clock_answer view) (since_point since (cursors_of view))

-- what was written of a call in place of what is defined: its reply, or nothing if it is refused
abbrev pub Writes : Way → Result Data Refusal → List ℕ → Result (Unit {0}) Refusal → List ℕ → Type 0
Writes way defined before (Ok granted) after = (way ≡ Defined) × (is_ok defined ≡ true) × (after ≡ before ++ reply_bytes defined)
Writes way defined before (Err r) after = (refusal_or way defined ≡ Err r) × (after ≡ before)

-- The relation `met` of a front holds of an earlier moment of it, the part that a call is about, how it was met, whether it is a command that is accepted, the
-- state that it found of that part, the state that it left, and the later moment.
module _ {F : Type 0} (met : F → Part → Way → Bool → SessionState → SessionState → F → Type 0) where
  -- a command was met at a state
  pub record SubmittedAt (old : F) (command : Command) (result : Reply) (new : F) : Type 0 where
    pub way : Way
    pub found : SessionState
    pub at : met old Commands way (is_change (reply_to_command found command)) found (state_or way (state_after_command found command) found) new
    pub reply_is : result ≡ reply_or way (reply_to_command found command)

  -- an operation on a root's view was met at a state, and at the moment that it was given or a later one
  pub record OperatedAt (old : F) (root : Path) (o : Op) (result : Result Progress Refusal) (new : F) : Type 0 where
    pub way : Way
    pub found : SessionState
    pub moment : ℕ
    pub later : moment_given o ≤ moment
    pub at : met old (Changes root (moment_given o) moment) way false found (state_or way (operation_outcome found root (at_moment moment o)).state found) new
    pub reply_is : result ≡ refusal_or way (progress_after (view_after (view_of found root) (at_moment moment o)))

  -- a part was looked at, and nothing was changed
  pub record Looked {A : Type 0} (old : F) (part : Part) (defined : SessionState → Result A Refusal) (result : Result A Refusal) (new : F) : Type 0 where
    pub way : Way
    pub found : SessionState
    pub at : met old part way false found (state_or way found found) new
    pub is : result ≡ refusal_or way (defined found)

  -- the registry was looked at, and is shown from then on
  pub record Listed (shown : F → State) (old : F) (result : Result (Unit {0}) Refusal) (new : F) : Type 0 where
    pub way : Way
    pub found : SessionState
    pub at : met old Lists way false found (state_or way found found) new
    pub is : result ≡ refusal_or way (Ok tt)
    pub shows : way ≡ Defined → shown new ≡ found.registry

  -- what is defined on a state of a part was done and its reply written, or it was refused and nothing was written
  pub record Met (old : F) (part : Part) (defined : SessionState → Outcome) (before : List ℕ) (result : Result (Unit {0}) Refusal) (new : F) (after : List ℕ) : Type 0 where
    pub way : Way
    pub found : SessionState
    pub at : met old part way (defined found).accepts found (state_or way (defined found).state found) new
    pub written : Writes way (defined found).reply before result after

  -- and if it was done, it left the session these subscriptions
  abbrev pub MetLeaving : F → Part → (SessionState → Outcome) → (SessionState → SubscriptionList) → List ℕ → Result (Unit {0}) Refusal → F → List ℕ → SubscriptionList → Type 0
  MetLeaving old part defined left before result new after subscriptions' = (m : Met old part defined before result new after) × OnOk result (subscriptions' ≡ left m.found)

  -- A request that was read was answered at a state, by a reply or by a refusal, with so many faults. It was met at the moment that it was given or a later one.
  pub record Answers (old : F) (subscriptions : SubscriptionList) (given : ℕ) (request : Result Request Refusal) (n : ℕ) (before after : List ℕ) (new : F) (subscriptions' : SubscriptionList) : Type 0 where
    pub way : Way
    pub found : SessionState
    pub moment : ℕ
    pub later : given ≤ moment
    pub at : met old (part_read given moment request) way (met_or_refused found subscriptions moment request).accepts found (state_or way (met_or_refused found subscriptions moment request).state found) new
    pub faults : n ≡ faults_of way
    pub bytes_are : after ≡ before ++ reply_bytes (refusal_or way (met_or_refused found subscriptions moment request).reply)
    pub subscriptions_are : subscriptions' ≡ subscriptions_after (refusal_or way (met_or_refused found subscriptions moment request).reply) (record { front = found; subscriptions = subscriptions }) request

  -- Nobody else changes the front: what is found is what it shows before the call, what is left is what it shows after it, each way has its cause, a look
  -- changes nothing, and an operation is met at the moment that it was given.
  abbrev pub IsOwn : (F → FrontState) → Type 0
  IsOwn state = (a b : F) (part : Part) (way : Way) (accepts : Bool) (s t : SessionState) → met a part way accepts s t b
      → ((state a).state ≡ s) × ((state b).state ≡ t) × HasCause way accepts (state a) (state b) × (is_look part ≡ true → state b ≡ state a) × IsMetWhenGiven part

-- What is met on a front that nobody shares: what is found is what the front shows, what is left is what it shows then, and the way has its cause; a look changes nothing, and
-- an operation is met at the moment that it was given.
abbrev pub MetAt : Part → FrontState → Way → Bool → SessionState → SessionState → FrontState → Type 0
MetAt part old way accepts s t new = (old.state ≡ s) × (new.state ≡ t) × HasCause way accepts old new × (is_look part ≡ true → new ≡ old) × IsMetWhenGiven part
