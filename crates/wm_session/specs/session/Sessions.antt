-- What a line is answered, and the state and the subscriptions after it.
use Rattle.std.specs.Prelude.{ℕ, List, [], ◌∷◌, ◌++◌, Bool, true, false, Option, Some, None, Result, Ok, Err, if◌then◌else◌}
use Rattle.serde_json.specs.Data.{Data}
use Rattle.wm_disk.specs.declared.refusal.Refusal.{Refusal}
use Rattle.wm_disk.specs.declared.refusal.Refusal.TheVariants.{BadArguments, NotWatched, StoreFailed, TooMany}
use Rattle.wm_names.specs.Paths.{Path}
use Rattle.wm_clock.specs.declared.clock_id.ClockId.{ClockId}
use Rattle.wm_clock.specs.declared.clock_spec.ClockSpec.{ClockSpec}
use Rattle.wm_clock.specs.declared.clock_spec.ClockSpec.TheVariants.{Cursor}
use Rattle.wm_expr.specs.Terms.{Term}
use Rattle.wm_view.specs.declared.op.Op.{Op}
use Rattle.wm_view.specs.declared.op.Op.TheVariants as op
use Rattle.wm_since.specs.Cursors.{CursorList}
use Rattle.wm_since.specs.declared.query.Answer.{Answer}
use Rattle.wm_subs.specs.SessionLists.{is_subscribed, may_subscribe, with_subscription, without_subscribed, without_subscription}
use Rattle.wm_subs.specs.Subscribers.{new_subscriber}
use Rattle.wm_subs.specs.declared.subscribed.Subscribed.{Subscribed}
use Rattle.wm_lines.specs.declared.query.Inquiry.{Inquiry}
use Rattle.wm_session.specs.declared.local.root_views.RootView.{RootView}
use Rattle.wm_session.specs.session.Inquiries.{inquired, since_point}
use Rattle.wm_registry.specs.declared.command.Command.{Command}
use Rattle.wm_registry.specs.declared.command.Command.TheVariants as command
use Rattle.wm_registry.specs.declared.reply.Reply.{Reply}
use Rattle.wm_registry.specs.declared.reply.Reply.TheVariants as reply
use Rattle.wm_registry.specs.declared.root.Root.{Root}
use Rattle.wm_registry.specs.Registry as registry
use Rattle.wm_registry.specs.Roots as roots
use Rattle.wm_lines.specs.declared.request.Request.{Request}
use Rattle.wm_lines.specs.declared.request.Request.TheVariants.{Version, Watch, WatchDel, WatchList, Trigger, TriggerList, TriggerDel, Observe, Listing, AgeOut, Clock, Query, Subscribe, Unsubscribe}
use Rattle.wm_lines.specs.Lines.{request_of_line}
use Rattle.wm_store.specs.Batches.{is_begin}
use Rattle.wm_lines.specs.Replies.{version_reply, command_reply, operation_reply, roots_reply, triggers_reply, clock_reply, query_reply, subscribe_reply, unsubscribe_reply}
use Rattle.wm_session.specs.session.Watched.{clock_answer, new_view, progress_in, view_after, root_view_at, with_cursor, with_view, without_view}

-- what lines read and change
pub record SessionState : Type 0 where
  pub registry : roots.State
  -- the store has failed: each command is refused from then on
  pub has_failed : Bool
  -- a view with its cursors a root, in order of watching
  pub views : List RootView

-- a reply or a refusal, the state after it, and whether a command was accepted
pub record Outcome : Type 0 where
  pub reply : Result Data Refusal
  pub state : SessionState
  pub accepts : Bool

abbrev pub refused : Refusal → SessionState → Outcome
refused r s = record { reply = Err r; state = s; accepts = false }

abbrev pub replied : Data → SessionState → Outcome
replied d s = record { reply = Ok d; state = s; accepts = false }

-- ---- commands of the registry

-- how a command is met: a `Begin` is made by a start alone, and a store that has failed takes nothing
abbrev pub reply_to_command : SessionState → Command → Reply
reply_to_command s command = if is_begin command then reply.Refused BadArguments else (if s.has_failed then reply.Refused StoreFailed else registry.reply_to s.registry command)

-- a root that begins to be watched has a new view, and one that isn't watched any longer has none
abbrev pub views_after : SessionState → Command → List RootView
views_after s command.Begin = s.views
views_after s (command.Watch path) = s.views ++ new_view s.registry.incarnation s.registry.next ∷ []
views_after s (command.WatchDel path) = without_view path s.registry.roots s.views
views_after s (command.Trigger path trigger) = s.views
views_after s (command.TriggerDel path name) = s.views

-- the state after a command that is accepted
abbrev pub accepted : SessionState → Command → SessionState
accepted s command = record s { registry = registry.changed s.registry command; views = views_after s command }

abbrev pub state_after_command : SessionState → Command → SessionState
state_after_command s command = if registry.is_change (reply_to_command s command) then accepted s command else s

abbrev pub by_reply : Reply → (Reply → Data) → SessionState → Outcome
by_reply reply.Changed to_reply s = record { reply = Ok (to_reply reply.Changed); state = s; accepts = true }
by_reply reply.Replaced to_reply s = record { reply = Ok (to_reply reply.Replaced); state = s; accepts = true }
by_reply reply.Unchanged to_reply s = replied (to_reply reply.Unchanged) s
by_reply (reply.Refused r) to_reply s = refused r s

-- a command of the registry
abbrev pub commanded : SessionState → Command → Outcome
commanded s command = by_reply (reply_to_command s command) (command_reply command) (state_after_command s command)

-- ---- operations on views, and questions

-- the view of a watched root
abbrev pub view_of : SessionState → Path → Option RootView
view_of s root = root_view_at root s.registry.roots s.views

-- the root has another view
abbrev pub with_root : SessionState → Path → RootView → SessionState
with_root s root view = record s { views = with_view root view s.registry.roots s.views }

-- an operation's outcome: where the view stands after it, or a refusal that changes nothing
abbrev pub operation_met : SessionState → Path → Op → Result RootView Refusal → Outcome
operation_met s root o (Ok view) = replied (operation_reply o (progress_in view)) (with_root s root view)
operation_met s root o (Err r) = refused r s

-- an operation on the view of a root
abbrev pub operation_outcome : SessionState → Path → Op → Outcome
operation_outcome s root o = operation_met s root o (view_after (view_of s root) o)

-- a question's outcome
abbrev pub question_met : {A : Type 0} → SessionState → Result A Refusal → (A → Data) → Outcome
question_met s (Ok a) to_reply = replied (to_reply a) s
question_met s (Err r) to_reply = refused r s

-- the triggers of a root
abbrev pub triggers_met : SessionState → Option Root → Outcome
triggers_met s None = refused NotWatched s
triggers_met s (Some root) = replied (triggers_reply root.triggers) s

-- a root's cursor stands at the clock
abbrev pub cursor_moved : SessionState → Path → Option RootView → List ℕ → ClockId → SessionState
cursor_moved s root None name clock = s
cursor_moved s root (Some view) name clock = with_root s root (with_cursor name clock view)

-- after an answer the cursor by which was asked stands at the answer's clock
abbrev pub answered : SessionState → Path → Option ClockSpec → ClockId → SessionState
answered s root (Some (Cursor name)) clock = cursor_moved s root (view_of s root) name clock
answered s root _ clock = s

-- what is asked of the files of a root; a refused question moves no cursor
abbrev pub inquiry_met : SessionState → Path → Inquiry → Result Answer Refusal → Outcome
inquiry_met s root q (Ok a) = replied (query_reply q.fields a) (answered s root q.since a.clock)
inquiry_met s root q (Err r) = refused r s

-- ---- subscriptions

-- those of a session, in the order of subscribing
abbrev pub SubscriptionList : Type 0
SubscriptionList = List (Subscribed Term)

-- a root that isn't watched has no cursors
abbrev pub cursors_of : Option RootView → CursorList
cursors_of None = []
cursors_of (Some root) = root.cursors

-- the number of a root; a root that isn't watched has none
abbrev pub number_found : Option RootView → ℕ
number_found None = 0
number_found (Some root) = root.view.root

-- what asks so of the files of a root that was found so, under a name: a cursor stands for its clock here and now
abbrev pub subscribed_by : Path → Option RootView → List ℕ → Inquiry → Subscribed Term
subscribed_by root found name q = record {
  root = root;
  number = number_found found;
  fields = q.fields;
  subscription = new_subscriber name (record { since = since_point q.since (cursors_of found); test = q.expression; empty_on_fresh = q.empty_on_fresh });
}

-- the root's clock is told, where there is room
abbrev pub subscribe_met : SessionState → SubscriptionList → Path → List ℕ → Result ClockId Refusal → Outcome
subscribe_met s subscriptions root name (Ok clock) = if may_subscribe root name subscriptions then replied (subscribe_reply clock name) s else refused TooMany s
subscribe_met s subscriptions root name (Err r) = refused r s

abbrev pub unsubscribe_met : SessionState → SubscriptionList → Path → List ℕ → Option Root → Outcome
unsubscribe_met s subscriptions root name None = refused NotWatched s
unsubscribe_met s subscriptions root name (Some watched) = replied (unsubscribe_reply (is_subscribed root name subscriptions) name) s

-- what a request that isn't refused makes of the session's subscriptions
abbrev pub subscriptions_by : SessionState → SubscriptionList → Request → SubscriptionList
subscriptions_by s subscriptions (WatchDel path) = without_subscribed path subscriptions
subscriptions_by s subscriptions (Subscribe root name q) = with_subscription (subscribed_by root (view_of s root) name q) subscriptions
subscriptions_by s subscriptions (Unsubscribe root name) = without_subscription root name subscriptions
subscriptions_by s subscriptions _ = subscriptions

-- ---- lines

-- a request at a moment
abbrev pub handled : SessionState → SubscriptionList → ℕ → Request → Outcome
handled s subscriptions moment Version = replied version_reply s
handled s subscriptions moment (Watch path) = commanded s (command.Watch path)
handled s subscriptions moment (WatchDel path) = commanded s (command.WatchDel path)
handled s subscriptions moment WatchList = replied (roots_reply s.registry.roots) s
handled s subscriptions moment (Observe root pairs) = operation_outcome s root (op.Observe moment pairs)
handled s subscriptions moment (Listing root begun_at found) = operation_outcome s root (op.Recrawl moment begun_at found)
handled s subscriptions moment (AgeOut root age) = operation_outcome s root (op.AgeOut moment age)
handled s subscriptions moment (Clock root) = question_met s (clock_answer (view_of s root)) clock_reply
handled s subscriptions moment (Trigger path trigger) = commanded s (command.Trigger path trigger)
handled s subscriptions moment (TriggerList path) = triggers_met s (roots.root_at path s.registry)
handled s subscriptions moment (TriggerDel path name) = commanded s (command.TriggerDel path name)
handled s subscriptions moment (Query root q) = inquiry_met s root q (inquired (view_of s root) q)
handled s subscriptions moment (Subscribe root name q) = subscribe_met s subscriptions root name (clock_answer (view_of s root))
handled s subscriptions moment (Unsubscribe root name) = unsubscribe_met s subscriptions root name (roots.root_at root s.registry)

abbrev pub met_or_refused : SessionState → SubscriptionList → ℕ → Result Request Refusal → Outcome
met_or_refused s subscriptions moment (Ok request) = handled s subscriptions moment request
met_or_refused s subscriptions moment (Err r) = refused r s

-- where a session stands: its front, of which this is said, and its subscriptions
pub record WithSubscriptions (A : Type 0) : Type 0 where
  pub front : A
  pub subscriptions : SubscriptionList

-- a line at a moment: what it is answered, and what the front holds after it
abbrev pub line_met : WithSubscriptions SessionState → ℕ → List ℕ → Outcome
line_met s moment line = met_or_refused s.front s.subscriptions moment (request_of_line line)

abbrev pub by_request : SessionState → SubscriptionList → Result Request Refusal → SubscriptionList
by_request s subscriptions (Ok request) = subscriptions_by s subscriptions request
by_request s subscriptions (Err r) = subscriptions

-- the subscriptions after a request that was answered so; a refusal changes none
abbrev pub subscriptions_after : Result Data Refusal → WithSubscriptions SessionState → Result Request Refusal → SubscriptionList
subscriptions_after (Ok reply) s request = by_request s.front s.subscriptions request
subscriptions_after (Err r) s request = s.subscriptions
