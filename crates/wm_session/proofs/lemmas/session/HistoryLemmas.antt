-- After a line, each view is of a history that operations made.
use Rattle.std.proofs.Common.{◌≡◌, ℕ, true, false, cond, List, [], ◌∷◌, ◌++◌, map, Option, Some, None, Result, Ok, Err, refl, sym, ap, subst, ◌∙◌}
use Rattle.std.specs.Str.{bytes_eq}
use Rattle.serde_json.specs.Data.{Data}
use Rattle.wm_disk.specs.declared.refusal.Refusal.{Refusal}
use Rattle.wm_names.specs.Paths.{Path}
use Rattle.wm_view.specs.declared.op.Op.{Op}
use Rattle.wm_view.specs.declared.op.Op.TheVariants as op
use Rattle.wm_view.specs.Histories.{History, IsMade, after_operation, new_history, refusal}
use Rattle.wm_since.specs.Cursors.{CursorList}
use Rattle.wm_since.specs.declared.query.Answer.{Answer}
use Rattle.wm_clock.specs.declared.clock_id.ClockId.{ClockId}
use Rattle.wm_clock.specs.declared.clock_spec.ClockSpec.{ClockSpec}
use Rattle.wm_clock.specs.declared.clock_spec.ClockSpec.TheVariants.{Clock as Moment, Another, Cursor, Seconds}
use Rattle.wm_lines.specs.declared.query.Inquiry.{Inquiry}
use Rattle.wm_session.specs.session.Inquiries.{inquired}
use Rattle.wm_session.specs.declared.local.root_views.RootView.{RootView}
use Rattle.wm_registry.specs.declared.command.Command.{Command}
use Rattle.wm_registry.specs.declared.command.Command.TheVariants as command
use Rattle.wm_registry.specs.declared.root.Root.{Root}
use Rattle.wm_registry.specs.Registry.{is_change}
use Rattle.wm_registry.specs.Roots as roots
use Rattle.wm_lines.specs.declared.request.Request.{Request}
use Rattle.wm_lines.specs.declared.request.Request.TheVariants.{Version, Watch, WatchDel, WatchList, Trigger, TriggerList, TriggerDel, Observe, Listing, AgeOut, Clock, Query, Subscribe, Unsubscribe}
use Rattle.wm_lines.specs.Lines.{request_of_line}
use Rattle.wm_lines.specs.Replies.{clock_reply, command_reply, subscribe_reply}
use Rattle.wm_disk.specs.declared.refusal.Refusal.TheVariants.{TooMany}
use Rattle.wm_subs.specs.SessionLists.{may_subscribe}
use Rattle.wm_session.specs.session.Sessions.{SessionState, WithSubscriptions, SubscriptionList, subscribe_met, unsubscribe_met, replied, refused, accepted, answered, commanded, cursor_moved, inquiry_met, question_met, line_met, met_or_refused, operation_outcome, operation_met, reply_to_command, state_after_command, triggers_met, view_of, views_after}
use Rattle.wm_session.specs.session.Watched.{AreOfHistories, IsOfHistory, of_history, clock_answer, first_views, new_view, unless, view_after, root_view_at, with_cursor, with_view, without_view}
use Rattle.wm_session.proofs.lemmas.session.SessionLemmas.{left_so}

new_is : (incarnation number : ℕ) → IsOfHistory (new_view incarnation number)
new_is incarnation number = (new_history incarnation number, (incarnation, number, [], refl), refl)

first_are : (incarnation : ℕ) (watched : List (Path × Root)) → AreOfHistories (map (λ root. new_view incarnation root.1.number) watched)
first_are incarnation [] = tt
first_are incarnation (root ∷ rest) = (new_is incarnation root.1.number, first_are incarnation rest)

pub begun_are : (r : roots.State) → AreOfHistories (first_views r)
begun_are r = first_are r.incarnation r.roots

one_more : (views : List RootView) (view : RootView) → AreOfHistories views → IsOfHistory view → AreOfHistories (views ++ view ∷ [])
one_more [] view are is = (is, tt)
one_more (v ∷ vs) view are is = (are.0, one_more vs view are.1 is)

found_is : (path : Path) (watched : List (Path × Root)) (views : List RootView) (view : RootView) → AreOfHistories views → root_view_at path watched views ≡ Some view → IsOfHistory view
found_is path [] views view are e = absurd cc
found_is path (root ∷ rest) [] view are e = absurd cc
found_is path (root ∷ rest) (v ∷ vs) view are e =
    elim (bytes_eq path root.0) as (λ b. cond b (Some v) (root_view_at path rest vs) ≡ Some view → IsOfHistory view) [
      | true ↦ λ f. subst (λ x. IsOfHistory x) (some_is v view f) are.0
      | false ↦ λ f. found_is path rest vs view are.1 f
    ] e
  where
    some_is : (a b : RootView) → Some a ≡ Some b → a ≡ b
    some_is a b f = ap (λ o. or_else o) f
      where
        or_else : Option RootView → RootView
        or_else None = a
        or_else (Some x) = x

with_are : (path : Path) (new : RootView) (watched : List (Path × Root)) (views : List RootView) → AreOfHistories views → IsOfHistory new → AreOfHistories (with_view path new watched views)
with_are path new [] views are is = are
with_are path new (root ∷ rest) [] are is = tt
with_are path new (root ∷ rest) (v ∷ vs) are is =
    elim (bytes_eq path root.0) as (λ b. AreOfHistories (cond b (new ∷ vs) (v ∷ with_view path new rest vs))) [
      | true ↦ (is, are.1)
      | false ↦ (are.0, with_are path new rest vs are.1 is)
    ]

without_are : (path : Path) (watched : List (Path × Root)) (views : List RootView) → AreOfHistories views → AreOfHistories (without_view path watched views)
without_are path [] views are = are
without_are path (root ∷ rest) [] are = tt
without_are path (root ∷ rest) (v ∷ vs) are =
    elim (bytes_eq path root.0) as (λ b. AreOfHistories (cond b vs (v ∷ without_view path rest vs))) [
      | true ↦ are.1
      | false ↦ (are.0, without_are path rest vs are.1)
    ]

-- the views after a command that is accepted
after_are : (s : SessionState) (c : Command) → AreOfHistories s.views → AreOfHistories (views_after s c)
after_are s command.Begin are = are
after_are s (command.Watch path) are = one_more s.views (new_view s.registry.incarnation s.registry.next) are (new_is s.registry.incarnation s.registry.next)
after_are s (command.WatchDel path) are = without_are path s.registry.roots s.views are
after_are s (command.Trigger path trigger) are = are
after_are s (command.TriggerDel path name) are = are

submitted_are : (s : SessionState) (c : Command) → AreOfHistories s.views → AreOfHistories (state_after_command s c).views
submitted_are s c are =
    elim (is_change (reply_to_command s c)) as (λ b. AreOfHistories (cond b (accepted s c) s).views) [
      | true ↦ after_are s c are
      | false ↦ are
    ]

commanded_are : (s : SessionState) (c : Command) → AreOfHistories s.views → AreOfHistories (commanded s c).state.views
commanded_are s c are =
    subst (λ t. AreOfHistories t.views) (left_so (reply_to_command s c) (command_reply c) (state_after_command s c)) (submitted_are s c are)

triggers_are : (s : SessionState) (root : Option Root) → AreOfHistories s.views → AreOfHistories (triggers_met s root).state.views
triggers_are s None are = are
triggers_are s (Some root) are = are

asked_are : {A : Type 0} (s : SessionState) (r : Result A Refusal) (to_reply : A → Data) → AreOfHistories s.views → AreOfHistories (question_met s r to_reply).state.views
asked_are s (Ok a) to_reply are = are
asked_are s (Err e) to_reply are = are

-- a root's cursor moved
moved_are : (s : SessionState) (root : Path) (view : Option RootView) (name : List ℕ) (clock : ClockId) → AreOfHistories s.views → ((v : RootView) → view ≡ Some v → IsOfHistory v) → AreOfHistories (cursor_moved s root view name clock).views
moved_are s root None name clock are is = are
moved_are s root (Some view) name clock are is = with_are root (with_cursor name clock view) s.registry.roots s.views are (is view refl)

told_are : (s : SessionState) (root : Path) (since : Option ClockSpec) (clock : ClockId) → AreOfHistories s.views → AreOfHistories (answered s root since clock).views
told_are s root None clock are = are
told_are s root (Some (Moment c)) clock are = are
told_are s root (Some Another) clock are = are
told_are s root (Some (Seconds n)) clock are = are
told_are s root (Some (Cursor name)) clock are = moved_are s root (view_of s root) name clock are (λ v e. found_is root s.registry.roots s.views v are e)

inquired_are : (s : SessionState) (root : Path) (q : Inquiry) (r : Result Answer Refusal) → AreOfHistories s.views → AreOfHistories (inquiry_met s root q r).state.views
inquired_are s root q (Ok a) are = told_are s root q.since a.clock are
inquired_are s root q (Err e) are = are

module _ (operated_so : (h : History) (cursors : CursorList) (o : Op) → IsMade h → view_after (Some (of_history h cursors)) o ≡ unless (refusal h o) (of_history (after_operation h o) cursors)) (made_so : (h : History) (o : Op) → IsMade h → IsMade (after_operation h o)) where
  done_is : (h : History) (cursors : CursorList) (o : Op) (new : RootView) → IsMade h → (r : Option Refusal) → unless r (of_history (after_operation h o) cursors) ≡ Ok new → IsOfHistory new
  done_is h cursors o new made None e = (after_operation h o, made_so h o made, sym (ap (λ r. (or_else r).view) e))
    where
      or_else : Result RootView Refusal → RootView
      or_else (Ok x) = x
      or_else (Err x) = new
  done_is h cursors o new made (Some r) e = absurd cc

  after_is : (view new : RootView) (o : Op) → IsOfHistory view → view_after (Some view) o ≡ Ok new → IsOfHistory new
  after_is view new o (h, made, is) e = done_is h view.cursors o new made (refusal h o) (sym (operated_so h view.cursors o made) ∙ ap (λ v. view_after (Some (record { view = v; cursors = view.cursors })) o) (sym is) ∙ e)

  seen_is : (view : Option RootView) (new : RootView) (o : Op) → ((v : RootView) → view ≡ Some v → IsOfHistory v) → view_after view o ≡ Ok new → IsOfHistory new
  seen_is None new o is e = absurd cc
  seen_is (Some view) new o is e = after_is view new o (is view refl) e

  operated_are : (s : SessionState) (root : Path) (o : Op) (r : Result RootView Refusal) → AreOfHistories s.views → ((new : RootView) → r ≡ Ok new → IsOfHistory new) → AreOfHistories (operation_met s root o r).state.views
  operated_are s root o (Ok new) are is = with_are root new s.registry.roots s.views are (is new refl)
  operated_are s root o (Err e) are is = are

  viewed_are : (s : SessionState) (root : Path) (o : Op) → AreOfHistories s.views → AreOfHistories (operation_outcome s root o).state.views
  viewed_are s root o are =
      operated_are s root o (view_after (view_of s root) o) are (λ new e. seen_is (view_of s root) new o (λ v f. found_is root s.registry.roots s.views v are f) e)

  subscribed_are : (s : SessionState) (subs : SubscriptionList) (root name : List ℕ) (r : Result ClockId Refusal) → AreOfHistories s.views → AreOfHistories (subscribe_met s subs root name r).state.views
  subscribed_are s subs root name (Ok clock) are =
      elim (may_subscribe root name subs) as (λ b. AreOfHistories (cond b (replied (subscribe_reply clock name) s) (refused TooMany s)).state.views) [
        | true ↦ are
        | false ↦ are
      ]
  subscribed_are s subs root name (Err e) are = are

  unsubscribed_are : (s : SessionState) (subs : SubscriptionList) (root name : List ℕ) (r : Option Root) → AreOfHistories s.views → AreOfHistories (unsubscribe_met s subs root name r).state.views
  unsubscribed_are s subs root name None are = are
  unsubscribed_are s subs root name (Some watched) are = are

  met_are : (s : SessionState) (subs : SubscriptionList) (moment : ℕ) (r : Result Request Refusal) → AreOfHistories s.views → AreOfHistories (met_or_refused s subs moment r).state.views
  met_are s subs moment (Ok Version) are = are
  met_are s subs moment (Ok (Watch path)) are = commanded_are s (command.Watch path) are
  met_are s subs moment (Ok (WatchDel path)) are = commanded_are s (command.WatchDel path) are
  met_are s subs moment (Ok (Trigger path trigger)) are = commanded_are s (command.Trigger path trigger) are
  met_are s subs moment (Ok (TriggerList path)) are = triggers_are s (roots.root_at path s.registry) are
  met_are s subs moment (Ok (TriggerDel path name)) are = commanded_are s (command.TriggerDel path name) are
  met_are s subs moment (Ok WatchList) are = are
  met_are s subs moment (Ok (Observe root pairs)) are = viewed_are s root (op.Observe moment pairs) are
  met_are s subs moment (Ok (Listing root begun_at found)) are = viewed_are s root (op.Recrawl moment begun_at found) are
  met_are s subs moment (Ok (AgeOut root age)) are = viewed_are s root (op.AgeOut moment age) are
  met_are s subs moment (Ok (Clock root)) are = asked_are s (clock_answer (view_of s root)) clock_reply are
  met_are s subs moment (Ok (Query root q)) are = inquired_are s root q (inquired (view_of s root) q) are
  met_are s subs moment (Ok (Subscribe root name q)) are = subscribed_are s subs root name (clock_answer (view_of s root)) are
  met_are s subs moment (Ok (Unsubscribe root name)) are = unsubscribed_are s subs root name (roots.root_at root s.registry) are
  met_are s subs moment (Err e) are = are

  pub line_are : (s : WithSubscriptions SessionState) (moment : ℕ) (line : List ℕ) → AreOfHistories s.front.views → AreOfHistories (line_met s moment line).state.views
  line_are s moment line are = met_are s.front s.subscriptions moment (request_of_line line) are
