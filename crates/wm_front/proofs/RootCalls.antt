-- From what a session's viewers tell of a root to the state at which a call was met.
use Rattle.std.proofs.Common.{◌≡◌, ◌∙◌, ◌⊎◌, inl, inr, ℕ, Bool, true, false, cond, [], refl, sym, ap, subst}
use Rattle.std.specs.Prelude.{nat_eq, Option, Some, None, Result, Ok, Err}
use Rattle.std.proofs.lemmas.List.{append-nil}
use Rattle.wm_disk.specs.declared.refusal.Refusal.{Refusal}
use Rattle.wm_disk.specs.declared.refusal.Refusal.TheVariants.{NoMemory, NotReady, NotWatched}
use Rattle.wm_names.specs.Paths.{Path}
use Rattle.wm_clock.specs.declared.clock_id.ClockId.{ClockId}
use Rattle.wm_clock.specs.declared.clock_spec.ClockSpec.{ClockSpec}
use Rattle.wm_expr.specs.Meanings.{holds}
use Rattle.wm_expr.specs.Terms.{Term}
use Rattle.wm_view.specs.Histories.{History, IsMade, is_ready}
use Rattle.wm_since.specs.Answers.{clock_of}
use Rattle.wm_since.specs.Cursors.{CursorList}
use Rattle.wm_since.specs.declared.query.Answer.{Answer}
use Rattle.wm_since.specs.declared.query.Since.{Since}
use Rattle.wm_subs.specs.Subscribers.{Subscriber, due_answer}
use Rattle.wm_subs.specs.declared.subscribed.Subscribed.{Subscribed}
use Rattle.wm_share.specs.PublishedLists.{PublishedList, Begins, history}
use Rattle.wm_session.specs.declared.local.root_views.RootView.{RootView}
use Rattle.wm_session.specs.session.Dues.{due_by, due_of}
use Rattle.wm_session.specs.session.Faults.{Way, Defined, Memory, refusal_or, state_or}
use Rattle.wm_session.specs.session.Fronts.{start_answer, start_with}
use Rattle.wm_session.specs.session.Inquiries.{since_point}
use Rattle.wm_session.specs.session.Sessions.{SessionState, view_of}
use Rattle.wm_session.specs.session.Watched.{clock_answer, of_history}
use Rattle.wm_front.specs.Commands.{KeepsSeat}
use Rattle.wm_front.specs.Looks.{IsUnwatchedAfter}
use Rattle.wm_front.specs.MetShared.{AreSeenMore, IsMetOnRoot, IsOnPublished, SharedKnown, no_root, one_root}
use Rattle.wm_front.specs.RootsSeen.{IsClockSeen, IsDueSeen, IsSeenMore, IsShownBy, ViewerList, unless_unwatched}
use Rattle.wm_front.proofs.RootNumbers.{numbered}
use Rattle.wm_front.proofs.OneRoot.{view_none, view_one, with_registry}

pub begins_self : (list : PublishedList) → Begins list list
begins_self list = (refl, ([], append-nil list.operations))

pub made : (list : PublishedList) → IsMade (history list)
made list = (list.share.incarnation, list.share.root, list.operations, refl)

-- a root was looked at
pub record IsLookedAtRoot {A : Type 0} (has : Path → ℕ → Type 0) (a : SharedKnown) (path : Path) (defined : SessionState → Result A Refusal) (result : Result A Refusal) (b : SharedKnown) : Type 0 where
  pub way : Way
  pub found : SessionState
  pub by : IsMetOnRoot has path true way a found (state_or way found found) b
  pub is : result ≡ refusal_or way (defined found)

module _ (has : Path → ℕ → Type 0) (path : Path) where
  -- memory ran out
  pub looked_in_vain : {A : Type 0} (a b : SharedKnown) (defined : SessionState → Result A Refusal) (result : Result A Refusal) → KeepsSeat a.seat b.seat → AreSeenMore a.viewers b.viewers → result ≡ Err NoMemory
      → IsLookedAtRoot has a path defined result b
  looked_in_vain a b defined result keeps more is = record { way = Memory; found = no_root; by = (tt, keeps, inl (tt, more)); is = is }

  -- no such root is watched
  pub met_nowhere : (asks : Bool) (a b : SharedKnown) (gone : IsUnwatchedAfter path a.seat b.seat) → KeepsSeat a.seat b.seat → b.viewers ≡ a.viewers
      → IsMetOnRoot has path asks Defined a (with_registry gone.0 false) (with_registry gone.0 false) b
  met_nowhere asks a b gone keeps same = (tt, keeps, inr (inl (gone.1, gone.2, refl, refl, same)))

  pub looked_nowhere : {A : Type 0} (a b : SharedKnown) (answer : Option RootView → Result A Refusal) (result : Result A Refusal) → IsUnwatchedAfter path a.seat b.seat → KeepsSeat a.seat b.seat → b.viewers ≡ a.viewers → result ≡ answer None
      → IsLookedAtRoot has a path (λ s. answer (view_of s path)) result b
  looked_nowhere a b answer result gone keeps same is = record {
    way = Defined;
    found = with_registry gone.0 false;
    by = met_nowhere true a b gone keeps same;
    is = is ∙ ap answer (sym (view_none path gone.0 false));
  }

  pub looked_refused : {A : Type 0} (a b : SharedKnown) (answer : Option RootView → Result A Refusal) (e : Refusal) → KeepsSeat a.seat b.seat → b.viewers ≡ a.viewers → Err NotWatched ≡ answer None
      → (e ≡ NoMemory) ⊎ ((e ≡ NotWatched) × IsUnwatchedAfter path a.seat b.seat) → IsLookedAtRoot has a path (λ s. answer (view_of s path)) (Err e) b
  looked_refused a b answer e keeps same none (inl is) = looked_in_vain a b (λ s. answer (view_of s path)) (Err e) keeps (inl same) (ap (λ x. Err x) is)
  looked_refused a b answer e keeps same none (inr (is, gone)) = looked_nowhere a b answer (Err e) gone keeps same (ap (λ x. Err x) is ∙ none)

  -- just the list that the viewer has seen last
  pub on_last : (number : ℕ) (old new : ViewerList) (more : IsSeenMore number old new) (cursors moved : CursorList) (t : SessionState) → has path number → t ≡ one_root path (of_history (history more.new.list) moved)
      → IsOnPublished has path true old (one_root path (of_history (history more.new.list) cursors)) t new
  on_last number old new more cursors moved t root left = record {
    number = number;
    root = root;
    more = more;
    before = more.new.list;
    after = more.new.list;
    cursors = cursors;
    moved = moved;
    grows = begins_self more.new.list;
    seen = begins_self more.new.list;
    asked = λ asks. (refl, refl);
    found = refl;
    left = left;
  }

  pub looked_on : {A : Type 0} (number : ℕ) (a b : SharedKnown) (answer : Option RootView → Result A Refusal) (result : Result A Refusal) (more : IsSeenMore number a.viewers b.viewers) (cursors : CursorList) → has path number → KeepsSeat a.seat b.seat
      → result ≡ answer (Some (of_history (history more.new.list) cursors)) → IsLookedAtRoot has a path (λ s. answer (view_of s path)) result b
  looked_on number a b answer result more cursors root keeps is =
      let v = of_history (history more.new.list) cursors in
      record {
        way = Defined;
        found = one_root path v;
        by = (tt, keeps, inr (inr (on_last number a.viewers b.viewers more cursors cursors (one_root path v) root refl)));
        is = is ∙ ap answer (sym (view_one path v));
      }

  -- ---- the clock, and where a subscription starts

  ready_clock : (h : History) (cursors : CursorList) → is_ready h ≡ true → clock_answer (Some (of_history h cursors)) ≡ Ok (clock_of h)
  ready_clock h cursors ready = ap (λ (b : Bool). cond {A = Result ClockId Refusal} b (Ok (clock_of h)) (Err NotReady)) ready

  unready_clock : (h : History) (cursors : CursorList) → is_ready h ≡ false → clock_answer (Some (of_history h cursors)) ≡ Err NotReady
  unready_clock h cursors unready = ap (λ (b : Bool). cond {A = Result ClockId Refusal} b (Ok (clock_of h)) (Err NotReady)) unready

  clock_seen : (number : ℕ) (a b : SharedKnown) (result : Result ClockId Refusal) (more : IsSeenMore number a.viewers b.viewers) → has path number → KeepsSeat a.seat b.seat → IsClockSeen more.new result
      → IsLookedAtRoot has a path (λ s. clock_answer (view_of s path)) result b
  clock_seen number a b (Ok clock) more root keeps (ready, is) = looked_on number a b clock_answer (Ok clock) more [] root keeps (ap (λ x. Ok x) is ∙ sym (ready_clock (history more.new.list) [] ready))
  clock_seen number a b (Err e) more root keeps (inl is) = looked_in_vain a b (λ s. clock_answer (view_of s path)) (Err e) keeps (inr (number, more)) (ap (λ x. Err x) is)
  clock_seen number a b (Err e) more root keeps (inr (is, unready)) = looked_on number a b clock_answer (Err e) more [] root keeps (ap (λ x. Err x) is ∙ sym (unready_clock (history more.new.list) [] unready))

  pub clock_found : (number : ℕ) (a b : SharedKnown) (result : Result ClockId Refusal) → has path number → KeepsSeat a.seat b.seat → IsShownBy number a.viewers result b.viewers (λ old new. IsClockSeen new result)
      → IsLookedAtRoot has a path (λ s. clock_answer (view_of s path)) result b
  clock_found number a b result root keeps (inl (is, same)) = looked_in_vain a b (λ s. clock_answer (view_of s path)) result keeps (inl same) is
  clock_found number a b result root keeps (inr (more, seen)) = clock_seen number a b result more root keeps seen

  start_seen : (number : ℕ) (a b : SharedKnown) (spec : Option ClockSpec) (since : Option Since) (cursors : CursorList) (result : Result ClockId Refusal) (more : IsSeenMore number a.viewers b.viewers) → has path number → KeepsSeat a.seat b.seat
      → since ≡ since_point spec cursors → IsClockSeen more.new result → IsLookedAtRoot has a path (λ s. start_answer (view_of s path) spec) (start_with result since) b
  start_seen number a b spec since cursors (Ok clock) more root keeps since_is (ready, is) =
      looked_on number a b (λ v. start_answer v spec) (Ok (clock, since)) more cursors root keeps
      ((λ i. Ok (is i, since_is i)) ∙ ap (λ x. start_with x (since_point spec cursors)) (sym (ready_clock (history more.new.list) cursors ready)))
  start_seen number a b spec since cursors (Err e) more root keeps since_is (inl is) = looked_in_vain a b (λ s. start_answer (view_of s path) spec) (Err e) keeps (inr (number, more)) (ap (λ x. Err x) is)
  start_seen number a b spec since cursors (Err e) more root keeps since_is (inr (is, unready)) =
      looked_on number a b (λ v. start_answer v spec) (Err e) more cursors root keeps
      (ap (λ x. Err x) is ∙ ap (λ x. start_with x (since_point spec cursors)) (sym (unready_clock (history more.new.list) cursors unready)))

  pub start_found : (number : ℕ) (a b : SharedKnown) (spec : Option ClockSpec) (since : Option Since) (cursors : CursorList) (result : Result ClockId Refusal) → has path number → KeepsSeat a.seat b.seat
      → since ≡ since_point spec cursors → IsShownBy number a.viewers result b.viewers (λ old new. IsClockSeen new result) → IsLookedAtRoot has a path (λ s. start_answer (view_of s path) spec) (start_with result since) b
  start_found number a b spec since cursors result root keeps since_is (inl (is, same)) =
      looked_in_vain a b (λ s. start_answer (view_of s path) spec) (start_with result since) keeps (inl same) (ap (λ x. start_with x since) is)
  start_found number a b spec since cursors result root keeps since_is (inr (more, seen)) = start_seen number a b spec since cursors result more root keeps since_is seen

  -- ---- what is due

  pub due_refused : (a b : SharedKnown) (x : Subscribed Term) (e : Refusal) → KeepsSeat a.seat b.seat → b.viewers ≡ a.viewers → (e ≡ NoMemory) ⊎ ((e ≡ NotWatched) × IsUnwatchedAfter path a.seat b.seat)
      → IsLookedAtRoot has a path (λ t. Ok (due_of (view_of t path) x)) (unless_unwatched e) b
  due_refused a b x e keeps same (inl is) =
      subst (λ r. IsLookedAtRoot has a path (λ t. Ok (due_of (view_of t path) x)) (unless_unwatched r) b) (sym is) (looked_in_vain a b (λ t. Ok (due_of (view_of t path) x)) (Err NoMemory) keeps (inl same) refl)
  due_refused a b x e keeps same (inr (is, gone)) =
      subst (λ r. IsLookedAtRoot has a path (λ t. Ok (due_of (view_of t path) x)) (unless_unwatched r) b) (sym is) (looked_nowhere a b (λ v. Ok (due_of v x)) (Ok None) gone keeps same refl)

  -- what `every_line` says of it
  abbrev pub DueLaw : Type 0
  DueLaw = (h : History) (cursors : CursorList) (s : Subscriber Term) → IsMade h → due_by (of_history h cursors) s ≡ due_answer (holds s.query.test) h s

  due_on : (list : PublishedList) (x : Subscribed Term) → DueLaw
      → cond (nat_eq list.share.root x.number) (due_answer (holds x.subscription.query.test) (history list) x.subscription) None ≡ due_of (Some (of_history (history list) [])) x
  due_on list x law = λ i. cond (nat_eq (sym (numbered list) i) x.number) (sym (law (history list) [] x.subscription (made list)) i) None

  due_seen : (number : ℕ) (a b : SharedKnown) (x : Subscribed Term) (result : Result (Option Answer) Refusal) (more : IsSeenMore number a.viewers b.viewers) → DueLaw → has path number → KeepsSeat a.seat b.seat → IsDueSeen more.new x result
      → IsLookedAtRoot has a path (λ t. Ok (due_of (view_of t path) x)) result b
  due_seen number a b x (Ok o) more law root keeps is =
      looked_on number a b (λ v. Ok (due_of v x)) (Ok o) more [] root keeps (ap (λ o. Ok o) (is ∙ due_on more.new.list x law))
  due_seen number a b x (Err e) more law root keeps is = looked_in_vain a b (λ t. Ok (due_of (view_of t path) x)) (Err e) keeps (inr (number, more)) (ap (λ r. Err r) is)

  pub due_found : (number : ℕ) (a b : SharedKnown) (x : Subscribed Term) (result : Result (Option Answer) Refusal) → DueLaw → has path number → KeepsSeat a.seat b.seat
      → IsShownBy number a.viewers result b.viewers (λ old new. IsDueSeen new x result) → IsLookedAtRoot has a path (λ t. Ok (due_of (view_of t path) x)) result b
  due_found number a b x result law root keeps (inl (is, same)) = looked_in_vain a b (λ t. Ok (due_of (view_of t path) x)) result keeps (inl same) is
  due_found number a b x result law root keeps (inr (more, seen)) = due_seen number a b x result more law root keeps seen
