-- A request about one root reads that root's view and cursors alone.
use Rattle.std.proofs.Common.{◌≡◌, ◌∙◌, ℕ, Bool, true, false, cond, List, [], ◌∷◌, Option, Some, None, Result, Ok, Err, option_map, refl, sym, ap}
use Rattle.std.specs.Str.{bytes_eq}
use Rattle.wm_disk.specs.declared.refusal.Refusal.{Refusal}
use Rattle.wm_names.specs.Paths.{Path}
use Rattle.wm_view.specs.declared.op.Op.{Op}
use Rattle.wm_view.specs.declared.op.Op.TheVariants as op
use Rattle.wm_since.specs.declared.query.Answer.{Answer}
use Rattle.wm_clock.specs.declared.clock_id.ClockId.{ClockId}
use Rattle.wm_clock.specs.declared.clock_spec.ClockSpec.{ClockSpec}
use Rattle.wm_clock.specs.declared.clock_spec.ClockSpec.TheVariants.{Clock as Moment, Another, Cursor, Seconds}
use Rattle.wm_lines.specs.declared.query.Inquiry.{Inquiry}
use Rattle.wm_lines.specs.declared.request.Request.{Request}
use Rattle.wm_lines.specs.declared.request.Request.TheVariants.{Version, Watch, WatchDel, WatchList, Trigger, TriggerList, TriggerDel, Observe, Listing, AgeOut, Clock, Query, Subscribe, Unsubscribe}
use Rattle.wm_lines.specs.Replies.{clock_reply}
use Rattle.wm_registry.specs.declared.root.Root.{Root}
use Rattle.wm_session.specs.declared.local.root_views.RootView.{RootView}
use Rattle.wm_session.specs.session.Inquiries.{inquired}
use Rattle.wm_session.specs.session.PartLaws.{AgreeAt, read_root}
use Rattle.wm_session.specs.session.Sessions.{SessionState, SubscriptionList, answered, cursor_moved, handled, inquiry_met, operation_met, operation_outcome, question_met, view_of}
use Rattle.wm_session.specs.session.Watched.{clock_answer, root_view_at, view_after, with_cursor, with_view}

-- ---- the view of a root that was put there

reread_step : (path : Path) (new view : RootView) (root : Path × Root) (roots : List (Path × Root)) (views left : List RootView) (b : Bool) → bytes_eq path root.0 ≡ b
    → root_view_at path roots left ≡ option_map (λ (_ : RootView). new) (root_view_at path roots views)
    → root_view_at path (root ∷ roots) (cond b (new ∷ views) (view ∷ left)) ≡ option_map (λ (_ : RootView). new) (cond b (Some view) (root_view_at path roots views))
reread_step path new view root roots views left true e rest = ap (λ b. cond b (Some new) (root_view_at path roots views)) e
reread_step path new view root roots views left false e rest = ap (λ b. cond b (Some view) (root_view_at path roots left)) e ∙ rest

reread : (path : Path) (new : RootView) (roots : List (Path × Root)) (views : List RootView)
    → root_view_at path roots (with_view path new roots views) ≡ option_map (λ (_ : RootView). new) (root_view_at path roots views)
reread path new [] views = refl
reread path new (root ∷ roots) [] = refl
reread path new (root ∷ roots) (view ∷ views) = reread_step path new view root roots views (with_view path new roots views) (bytes_eq path root.0) refl (reread path new roots views)

-- ---- operations

abbrev then_view : Result RootView Refusal → Option RootView → Option RootView
then_view (Ok new) view = option_map (λ (_ : RootView). new) view
then_view (Err e) view = view

operation_reply : (s t : SessionState) (root : Path) (o : Op) (r : Result RootView Refusal) → (operation_met s root o r).reply ≡ (operation_met t root o r).reply
operation_reply s t root o (Ok new) = refl
operation_reply s t root o (Err e) = refl

operation_view : (s : SessionState) (root : Path) (o : Op) (r : Result RootView Refusal) → view_of (operation_met s root o r).state root ≡ then_view r (view_of s root)
operation_view s root o (Ok new) = reread root new s.registry.roots s.views
operation_view s root o (Err e) = refl

operation_same : (s t : SessionState) (root : Path) (o : Op) → view_of s root ≡ view_of t root
    → ((operation_outcome s root o).reply ≡ (operation_outcome t root o).reply) × (view_of (operation_outcome s root o).state root ≡ view_of (operation_outcome t root o).state root)
operation_same s t root o same = (
  operation_reply s t root o (view_after (view_of s root) o) ∙ ap (λ (v : Option RootView). (operation_met t root o (view_after v o)).reply) same,
  operation_view s root o (view_after (view_of s root) o) ∙ ap (λ (v : Option RootView). then_view (view_after v o) v) same ∙ sym (operation_view t root o (view_after (view_of t root) o)),
)

-- ---- questions

clock_told : (s t : SessionState) (r : Result ClockId Refusal) → (question_met s r clock_reply).reply ≡ (question_met t r clock_reply).reply
clock_told s t (Ok a) = refl
clock_told s t (Err e) = refl

clock_view : (s : SessionState) (root : Path) (r : Result ClockId Refusal) → view_of (question_met s r clock_reply).state root ≡ view_of s root
clock_view s root (Ok a) = refl
clock_view s root (Err e) = refl

clock_same : (s t : SessionState) (root : Path) → view_of s root ≡ view_of t root
    → ((question_met s (clock_answer (view_of s root)) clock_reply).reply ≡ (question_met t (clock_answer (view_of t root)) clock_reply).reply)
    × (view_of (question_met s (clock_answer (view_of s root)) clock_reply).state root ≡ view_of (question_met t (clock_answer (view_of t root)) clock_reply).state root)
clock_same s t root same = (
  clock_told s t (clock_answer (view_of s root)) ∙ ap (λ (v : Option RootView). (question_met t (clock_answer v) clock_reply).reply) same,
  clock_view s root (clock_answer (view_of s root)) ∙ same ∙ sym (clock_view t root (clock_answer (view_of t root))),
)

moved_view : (s : SessionState) (root : Path) (view : Option RootView) (name : List ℕ) (clock : ClockId) → view ≡ view_of s root
    → view_of (cursor_moved s root view name clock) root ≡ option_map (with_cursor name clock) view
moved_view s root None name clock e = sym e
moved_view s root (Some v) name clock e =
    reread root (with_cursor name clock v) s.registry.roots s.views ∙ ap (λ (o : Option RootView). option_map (λ (_ : RootView). with_cursor name clock v) o) (sym e)

abbrev pointed : Option ClockSpec → ClockId → Option RootView → Option RootView
pointed (Some (Cursor name)) clock view = option_map (with_cursor name clock) view
pointed (Some (Moment c)) clock view = view
pointed (Some Another) clock view = view
pointed (Some (Seconds n)) clock view = view
pointed None clock view = view

answered_view : (s : SessionState) (root : Path) (since : Option ClockSpec) (clock : ClockId) → view_of (answered s root since clock) root ≡ pointed since clock (view_of s root)
answered_view s root None clock = refl
answered_view s root (Some (Moment c)) clock = refl
answered_view s root (Some (Cursor name)) clock = moved_view s root (view_of s root) name clock refl
answered_view s root (Some Another) clock = refl
answered_view s root (Some (Seconds n)) clock = refl

abbrev after_inquiry : Option ClockSpec → Result Answer Refusal → Option RootView → Option RootView
after_inquiry since (Ok a) view = pointed since a.clock view
after_inquiry since (Err e) view = view

inquiry_view : (s : SessionState) (root : Path) (q : Inquiry) (r : Result Answer Refusal) → view_of (inquiry_met s root q r).state root ≡ after_inquiry q.since r (view_of s root)
inquiry_view s root q (Ok a) = answered_view s root q.since a.clock
inquiry_view s root q (Err e) = refl

inquiry_told : (s t : SessionState) (root : Path) (q : Inquiry) (r : Result Answer Refusal) → (inquiry_met s root q r).reply ≡ (inquiry_met t root q r).reply
inquiry_told s t root q (Ok a) = refl
inquiry_told s t root q (Err e) = refl

inquiry_same : (s t : SessionState) (root : Path) (q : Inquiry) → view_of s root ≡ view_of t root
    → ((inquiry_met s root q (inquired (view_of s root) q)).reply ≡ (inquiry_met t root q (inquired (view_of t root) q)).reply)
    × (view_of (inquiry_met s root q (inquired (view_of s root) q)).state root ≡ view_of (inquiry_met t root q (inquired (view_of t root) q)).state root)
inquiry_same s t root q same = (
  inquiry_told s t root q (inquired (view_of s root) q) ∙ ap (λ (v : Option RootView). (inquiry_met t root q (inquired v q)).reply) same,
  inquiry_view s root q (inquired (view_of s root) q) ∙ ap (λ (v : Option RootView). after_inquiry q.since (inquired v q) v) same ∙ sym (inquiry_view t root q (inquired (view_of t root) q)),
)

-- ---- requests

pub met_on_part : (s t : SessionState) (one other : SubscriptionList) (moment : ℕ) (request : Request) → AgreeAt (read_root request) s t
    → ((handled s one moment request).reply ≡ (handled t other moment request).reply)
    × AgreeAt (read_root request) (handled s one moment request).state (handled t other moment request).state
met_on_part s t one other moment (Observe root pairs) same = operation_same s t root (op.Observe moment pairs) same
met_on_part s t one other moment (Listing root begun_at found) same = operation_same s t root (op.Recrawl moment begun_at found) same
met_on_part s t one other moment (AgeOut root age) same = operation_same s t root (op.AgeOut moment age) same
met_on_part s t one other moment (Clock root) same = clock_same s t root same
met_on_part s t one other moment (Query root q) same = inquiry_same s t root q same
met_on_part s t one other moment Version same = absurd same
met_on_part s t one other moment (Watch path) same = absurd same
met_on_part s t one other moment (WatchDel path) same = absurd same
met_on_part s t one other moment WatchList same = absurd same
met_on_part s t one other moment (Trigger path trigger) same = absurd same
met_on_part s t one other moment (TriggerList path) same = absurd same
met_on_part s t one other moment (TriggerDel path name) same = absurd same
met_on_part s t one other moment (Subscribe root name q) same = absurd same
met_on_part s t one other moment (Unsubscribe root name) same = absurd same
