-- From what a question of a root tells to the state at which it was met.
use Rattle.std.proofs.Common.{◌≡◌, ◌∙◌, ◌⊎◌, inl, inr, true, false, ℕ, List, [], ◌++◌, refl, sym, ap, subst}
use Rattle.std.specs.Prelude.{Option, Some, None, Result, Ok, Err, OnErr, is_ok}
use Rattle.wm_disk.specs.declared.refusal.Refusal.{Refusal}
use Rattle.wm_disk.specs.declared.refusal.Refusal.TheVariants.{NoMemory, NotReady, NotWatched, TooMany}
use Rattle.wm_names.specs.Paths.{Path}
use Rattle.wm_clock.specs.declared.clock_spec.ClockSpec.{ClockSpec}
use Rattle.wm_clock.specs.declared.clock_spec.ClockSpec.TheVariants.{Clock, Another, Cursor, Seconds}
use Rattle.wm_expr.specs.Meanings.{holds}
use Rattle.wm_view.specs.Histories.{History, IsMade, is_ready}
use Rattle.wm_since.specs.Answers.{answer_to}
use Rattle.wm_since.specs.Cursors.{CursorList}
use Rattle.wm_share.specs.PublishedLists.{history}
use Rattle.wm_lines.specs.Replies.{line_text, query_reply, reply_bytes}
use Rattle.wm_lines.specs.declared.query.Inquiry.{Inquiry}
use Rattle.wm_root.specs.Inquired.{has_room_among, question_among}
use Rattle.wm_session.specs.session.Faults.{Way, Defined, Memory, state_or}
use Rattle.wm_session.specs.session.Fronts.{Writes}
use Rattle.wm_session.specs.session.Inquiries.{has_place, inquired, question_in}
use Rattle.wm_session.specs.session.Sessions.{SessionState, Outcome, inquiry_met, view_of}
use Rattle.wm_session.specs.session.Watched.{of_history}
use Rattle.wm_front.specs.Commands.{KeepsSeat}
use Rattle.wm_front.specs.Looks.{IsUnwatchedAfter}
use Rattle.wm_front.specs.MetShared.{AreSeenMore, IsMetOnRoot, SharedKnown, no_root, one_root}
use Rattle.wm_front.specs.RootsSeen.{IsAnswerSeen, IsSeenMore, IsShownBy}
use Rattle.wm_front.proofs.OneRoot.{answered_one, view_none, view_one, with_registry}
use Rattle.wm_front.proofs.Starting.{same_start}
use Rattle.wm_front.proofs.RootCalls.{made, met_nowhere, on_last}

-- what `every_line` says of questions
abbrev pub AnsweredLaw : Type 0
AnsweredLaw = (h : History) (cursors : CursorList) (q : Inquiry) → IsMade h → is_ready h ≡ true → has_place q.since cursors ≡ true → inquired (Some (of_history h cursors)) q ≡ Ok (answer_to (holds q.expression) h (question_in q cursors))

abbrev pub UnreadyLaw : Type 0
UnreadyLaw = (h : History) (cursors : CursorList) (q : Inquiry) → IsMade h → is_ready h ≡ false → inquired (Some (of_history h cursors)) q ≡ Err NotReady

abbrev pub CrowdedLaw : Type 0
CrowdedLaw = (h : History) (cursors : CursorList) (q : Inquiry) → IsMade h → is_ready h ≡ true → has_place q.since cursors ≡ false → inquired (Some (of_history h cursors)) q ≡ Err TooMany

-- the same room, and the same question
same_room : (since : Option ClockSpec) (cursors : CursorList) → has_place since cursors ≡ has_room_among since cursors
same_room None cursors = refl
same_room (Some (Clock c)) cursors = refl
same_room (Some Another) cursors = refl
same_room (Some (Cursor name)) cursors = refl
same_room (Some (Seconds s)) cursors = refl

same_question : (q : Inquiry) (cursors : CursorList) → question_in q cursors ≡ question_among q cursors
same_question q cursors = λ i. record { since = sym (same_start q.since cursors) i; empty_on_fresh = q.empty_on_fresh }

abbrev pub asked : Path → Inquiry → SessionState → Outcome
asked path q s = inquiry_met s path q (inquired (view_of s path) q)

-- a question was met
pub record IsAsked (has : Path → ℕ → Type 0) (a : SharedKnown) (path : Path) (q : Inquiry) (before : List ℕ) (result : Result (Unit {0}) Refusal) (b : SharedKnown) (after : List ℕ) : Type 0 where
  pub way : Way
  pub found : SessionState
  pub by : IsMetOnRoot has path true way a found (state_or way (asked path q found).state found) b
  pub written : Writes way (asked path q found).reply before result after

module _ (has : Path → ℕ → Type 0) (path : Path) (q : Inquiry) where
  -- memory ran out
  pub asked_in_vain : (a b : SharedKnown) (before after : List ℕ) (e : Refusal) → KeepsSeat a.seat b.seat → AreSeenMore a.viewers b.viewers → after ≡ before → e ≡ NoMemory → IsAsked has a path q before (Err e) b after
  asked_in_vain a b before after e keeps more same is = record { way = Memory; found = no_root; by = (tt, keeps, inl (tt, more)); written = (ap (λ x. Err x) (sym is), same) }

  pub asked_nowhere : (a b : SharedKnown) (before after : List ℕ) → IsUnwatchedAfter path a.seat b.seat → KeepsSeat a.seat b.seat → b.viewers ≡ a.viewers → after ≡ before → IsAsked has a path q before (Err NotWatched) b after
  asked_nowhere a b before after gone keeps same stays =
      let s = with_registry gone.0 false in
      let is : asked path q s ≡ inquiry_met s path q (Err NotWatched) = ap (λ v. inquiry_met s path q (inquired v q)) (view_none path gone.0 false) in
      record {
        way = Defined;
        found = s;
        by = subst (λ t. IsMetOnRoot has path true Defined a s t b) (sym (ap (λ (o : Outcome). o.state) is)) (met_nowhere has path true a b gone keeps same);
        written = (ap (λ (o : Outcome). o.reply) is, stays);
      }

  pub asked_refused : (a b : SharedKnown) (before after : List ℕ) (e : Refusal) → KeepsSeat a.seat b.seat → b.viewers ≡ a.viewers → after ≡ before
      → (e ≡ NoMemory) ⊎ ((e ≡ NotWatched) × IsUnwatchedAfter path a.seat b.seat) → IsAsked has a path q before (Err e) b after
  asked_refused a b before after e keeps same stays (inl is) = asked_in_vain a b before after e keeps (inl same) stays is
  asked_refused a b before after e keeps same stays (inr (is, gone)) = subst (λ x. IsAsked has a path q before (Err x) b after) (sym is) (asked_nowhere a b before after gone keeps same stays)

  -- it was answered
  granted : (number : ℕ) (a b : SharedKnown) (before after : List ℕ) (unit : Unit {0}) (more : IsSeenMore number a.viewers b.viewers) → AnsweredLaw → has path number → KeepsSeat a.seat b.seat → IsAnswerSeen q more.new before (Ok unit) after
      → IsAsked has a path q before (Ok unit) b after
  granted number a b before after unit more law root keeps (cursors, ready, room, bytes) =
      let h = history more.new.list in
      let v = of_history h cursors in
      let s = one_root path v in
      let answer = answer_to (holds q.expression) h (question_in q cursors) in
      let met : inquired (view_of s path) q ≡ Ok answer = ap (λ x. inquired x q) (view_one path v) ∙ law h cursors q (made more.new.list) ready (same_room q.since cursors ∙ room) in
      let is : asked path q s ≡ inquiry_met s path q (Ok answer) = ap (inquiry_met s path q) met in
      let left = answered_one path h cursors q.since answer.clock in
      record {
        way = Defined;
        found = s;
        by = (tt, keeps, inr (inr (on_last has path number a.viewers b.viewers more cursors left.0 (asked path q s).state root (ap (λ (o : Outcome). o.state) is ∙ left.1))));
        written = (
          refl,
          ap (λ (o : Outcome). is_ok o.reply) is,
          bytes ∙ ap (λ x. before ++ line_text (query_reply q.fields (answer_to (holds q.expression) h x))) (sym (same_question q cursors)) ∙ ap (λ (o : Outcome). before ++ reply_bytes o.reply) (sym is),
        );
      }

  -- a refusal by what is defined
  plainly : (number : ℕ) (a b : SharedKnown) (before after : List ℕ) (e : Refusal) (more : IsSeenMore number a.viewers b.viewers) (cursors : CursorList) → has path number → KeepsSeat a.seat b.seat → after ≡ before
      → inquired (Some (of_history (history more.new.list) cursors)) q ≡ Err e → IsAsked has a path q before (Err e) b after
  plainly number a b before after e more cursors root keeps same law =
      let v = of_history (history more.new.list) cursors in
      let s = one_root path v in
      let met : inquired (view_of s path) q ≡ Err e = ap (λ x. inquired x q) (view_one path v) ∙ law in
      let is : asked path q s ≡ inquiry_met s path q (Err e) = ap (inquiry_met s path q) met in
      record {
        way = Defined;
        found = s;
        by = (tt, keeps, inr (inr (on_last has path number a.viewers b.viewers more cursors cursors (asked path q s).state root (ap (λ (o : Outcome). o.state) is))));
        written = (ap (λ (o : Outcome). o.reply) is, same);
      }

  answered : (number : ℕ) (a b : SharedKnown) (before after : List ℕ) (result : Result (Unit {0}) Refusal) (more : IsSeenMore number a.viewers b.viewers) → AnsweredLaw → UnreadyLaw → CrowdedLaw → has path number → KeepsSeat a.seat b.seat
      → IsAnswerSeen q more.new before result after → IsAsked has a path q before result b after
  answered number a b before after (Ok unit) more law unready crowded root keeps seen = granted number a b before after unit more law root keeps seen
  answered number a b before after (Err e) more law unready crowded root keeps (same, why) =
      elim why [
        | inl is ↦ asked_in_vain a b before after e keeps (inr (number, more)) same is
        | inr (inl (is, not_ready)) ↦
            subst (λ x. IsAsked has a path q before (Err x) b after) (sym is) (plainly number a b before after NotReady more [] root keeps same (unready (history more.new.list) [] q (made more.new.list) not_ready))
        | inr (inr (cursors, is, ready, room)) ↦
            subst (λ x. IsAsked has a path q before (Err x) b after) (sym is) (plainly number a b before after TooMany more cursors root keeps same (crowded (history more.new.list) cursors q (made more.new.list) ready (same_room q.since cursors ∙ room)))
      ]

  pub asked_found : (number : ℕ) (a b : SharedKnown) (before after : List ℕ) (result : Result (Unit {0}) Refusal) → AnsweredLaw → UnreadyLaw → CrowdedLaw → has path number → KeepsSeat a.seat b.seat
      → OnErr result (after ≡ before) → IsShownBy number a.viewers result b.viewers (λ old new. IsAnswerSeen q new before result after) → IsAsked has a path q before result b after
  asked_found number a b before after result law unready crowded root keeps err (inr (more, seen)) = answered number a b before after result more law unready crowded root keeps seen
  asked_found number a b before after (Ok unit) law unready crowded root keeps err (inl (is, same)) = absurd cc
  asked_found number a b before after (Err e) law unready crowded root keeps err (inl (is, same)) = subst (λ x. IsAsked has a path q before x b after) (sym is) (asked_in_vain a b before after NoMemory keeps (inl same) err refl)
