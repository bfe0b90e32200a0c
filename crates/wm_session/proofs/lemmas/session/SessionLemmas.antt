-- From what a front did to what a session writes.
use Rattle.std.proofs.Common.{◌≡◌, ◌≤◌, ◌∙◌, ℕ, List, ◌++◌, Bool, true, false, cond, Option, Some, None, Result, Ok, Err, refl, sym, ap, subst}
use Rattle.std.specs.Prelude.{is_ok}
use Rattle.serde_json.specs.Data.{Data}
use Rattle.wm_disk.specs.declared.refusal.Refusal.{Refusal}
use Rattle.wm_disk.specs.declared.refusal.Refusal.TheVariants.{NoMemory, NotReady, TooMany}
use Rattle.wm_names.specs.Paths.{Path}
use Rattle.wm_clock.specs.declared.clock_id.ClockId.{ClockId}
use Rattle.wm_since.specs.declared.query.Since.{Since}
use Rattle.wm_lines.specs.declared.progress.Progress.{Progress}
use Rattle.wm_lines.specs.declared.query.Inquiry.{Inquiry}
use Rattle.wm_view.specs.declared.op.Op.{Op}
use Rattle.wm_view.specs.declared.op.Op.TheVariants.{Observe, Recrawl, AgeOut}
use Rattle.wm_session.specs.declared.local.root_views.RootView.{RootView}
use Rattle.wm_registry.specs.declared.reply.Reply.{Reply}
use Rattle.wm_registry.specs.declared.reply.Reply.TheVariants.{Changed, Replaced, Unchanged, Refused}
use Rattle.wm_registry.specs.declared.root.Root.{Root}
use Rattle.wm_registry.specs.Roots.{State}
use Rattle.wm_lines.specs.Replies.{clock_reply, floor_reply, line_text, operation_reply, reply_bytes, subscribe_reply}
use Rattle.wm_subs.specs.SessionLists.{may_subscribe, with_subscription}
use Rattle.wm_session.specs.session.Faults.{Way, Defined, Device, Memory, Spent, refusal_or, state_or}
use Rattle.wm_session.specs.session.Fronts.{Listed, Looked, Met, MetLeaving, OperatedAt, Part, Changes, Lists, Looks, Writes, at_moment, moment_given, reports_floor, start_answer, start_with}
use Rattle.wm_session.specs.session.Inquiries.{since_point}
use Rattle.wm_session.specs.session.Sessions.{SessionState, SubscriptionList, Outcome, by_reply, cursors_of, number_found, operation_met, operation_outcome, question_met, refused, replied, subscribe_met, subscribed_by, triggers_met, unsubscribe_met, view_of}
use Rattle.wm_session.specs.session.Watched.{clock_answer, clock_in, progress_after, view_after}

-- ---- what was answered, and how it was met

err_of : {A B : Type 0} → Refusal → Result A Refusal → Result B Refusal
err_of e (Ok a) = Err e
err_of e (Err x) = Err x

-- a call that is answered was met as it is defined
pub granted : {A : Type 0} (way : Way) (a : A) (defined : Result A Refusal) → Ok a ≡ refusal_or way defined → (way ≡ Defined) × (defined ≡ Ok a)
granted Defined a defined is = (refl, sym is)
granted Device a defined is = absurd cc
granted Memory a defined is = absurd cc
granted Spent a defined is = absurd cc

-- of what is never refused each refusal is a fault, and so it is the refusal of all else
pub faulty : {A B : Type 0} (way : Way) (a : A) (defined : Result B Refusal) (e : Refusal) → Err e ≡ refusal_or way (Ok a) → refusal_or way defined ≡ Err e
unfolding err_of
faulty Defined a defined e is = absurd cc
faulty Device a defined e is = ap (err_of e) (sym is)
faulty Memory a defined e is = ap (err_of e) (sym is)
faulty Spent a defined e is = ap (err_of e) (sym is)

-- a question's refusal is that of its reply
pub asked_refused : {A : Type 0} (way : Way) (s : SessionState) (r : Result A Refusal) (to_reply : A → Data) (e : Refusal) → Err e ≡ refusal_or way r → refusal_or way (question_met s r to_reply).reply ≡ Err e
unfolding err_of
asked_refused Defined s (Ok a) to_reply e is = absurd cc
asked_refused Defined s (Err r) to_reply e is = ap (err_of e) (sym is)
asked_refused Device s r to_reply e is = ap (err_of e) (sym is)
asked_refused Memory s r to_reply e is = ap (err_of e) (sym is)
asked_refused Spent s r to_reply e is = ap (err_of e) (sym is)

pub operation_refusal : (way : Way) (s : SessionState) (root : Path) (o : Op) (r : Result RootView Refusal) (e : Refusal) → Err e ≡ refusal_or way (progress_after r) → refusal_or way (operation_met s root o r).reply ≡ Err e
unfolding err_of
operation_refusal Defined s root o (Ok view) e is = absurd cc
operation_refusal Defined s root o (Err r) e is = ap (err_of e) (sym is)
operation_refusal Device s root o r e is = ap (err_of e) (sym is)
operation_refusal Memory s root o r e is = ap (err_of e) (sym is)
operation_refusal Spent s root o r e is = ap (err_of e) (sym is)

start_refusal : (way : Way) (s : SessionState) (subscriptions : SubscriptionList) (root name : List ℕ) (r : Result ClockId Refusal) (since : Option Since) (e : Refusal)
    → Err e ≡ refusal_or way (start_with r since) → refusal_or way (subscribe_met s subscriptions root name r).reply ≡ Err e
unfolding err_of
start_refusal Defined s subscriptions root name (Ok clock) since e is = absurd cc
start_refusal Defined s subscriptions root name (Err r) since e is = ap (err_of e) (sym is)
start_refusal Device s subscriptions root name r since e is = ap (err_of e) (sym is)
start_refusal Memory s subscriptions root name r since e is = ap (err_of e) (sym is)
start_refusal Spent s subscriptions root name r since e is = ap (err_of e) (sym is)

-- the clock and the start that were handed out
pub started : (r : Result ClockId Refusal) (since : Option Since) (clock : ClockId) (point : Option Since) → start_with r since ≡ Ok (clock, point) → (r ≡ Ok clock) × (point ≡ since)
started (Ok c) since clock point is =
    let both : (c, since) ≡ (clock, point) = cc (is) in
    (ap (λ (x : ClockId × Option Since). Ok x.0) both, sym (ap (λ (x : ClockId × Option Since). x.1) both))
started (Err e) since clock point is = absurd cc

-- a root's clock has the root's number
of_root : (ready : Bool) (root : RootView) (clock : ClockId) → cond {A = Result ClockId Refusal} ready (Ok (clock_in root)) (Err NotReady) ≡ Ok clock → clock.root ≡ root.view.root
of_root true root clock is =
    let same : clock_in root ≡ clock = cc (is) in
    sym (ap (λ (c : ClockId). c.root) same)
of_root false root clock is = absurd cc

root_told : (view : Option RootView) (clock : ClockId) → clock_answer view ≡ Ok clock → clock.root ≡ number_found view
root_told None clock is = absurd cc
root_told (Some root) clock is = of_root root.view.ready root clock is

-- an operation's reply
done_is : (s : SessionState) (root : Path) (o : Op) (r : Result RootView Refusal) (progress : Progress) → progress_after r ≡ Ok progress → (operation_met s root o r).reply ≡ Ok (operation_reply o progress)
done_is s root o (Ok view) progress is = ap (λ (x : Result Progress Refusal). reply_of x) is
  where
    reply_of : Result Progress Refusal → Result Data Refusal
    reply_of (Ok x) = Ok (operation_reply o x)
    reply_of (Err e) = Err e
done_is s root o (Err r) progress is = absurd cc

-- the floor or the clock is told as the operation has it
pub told_so : (o : Op) (p : Progress) → cond (reports_floor o) (floor_reply p.floor) (clock_reply p.clock) ≡ operation_reply o p
told_so (Observe moment pairs) p = refl
told_so (Recrawl moment begun_at found) p = refl
told_so (AgeOut time age) p = refl

-- and at any moment the same
same_reply : (moment : ℕ) (o : Op) (p : Progress) → operation_reply (at_moment moment o) p ≡ operation_reply o p
same_reply moment (Observe given pairs) p = refl
same_reply moment (Recrawl given begun_at found) p = refl
same_reply moment (AgeOut given age) p = refl

takes_no_command : (s : SessionState) (root : Path) (o : Op) (r : Result RootView Refusal) → false ≡ (operation_met s root o r).accepts
takes_no_command s root o (Ok view) = refl
takes_no_command s root o (Err e) = refl

-- ---- what changes nothing

pub record Stays (defined : Outcome) (s : SessionState) : Type 0 where
  pub accepts : false ≡ defined.accepts
  pub state : s ≡ defined.state

pub asked_stays : {A : Type 0} (s : SessionState) (r : Result A Refusal) (to_reply : A → Data) → Stays (question_met s r to_reply) s
asked_stays s (Ok a) to_reply = record { accepts = refl; state = refl }
asked_stays s (Err e) to_reply = record { accepts = refl; state = refl }

pub triggers_stay : (s : SessionState) (root : Option Root) → Stays (triggers_met s root) s
triggers_stay s None = record { accepts = refl; state = refl }
triggers_stay s (Some root) = record { accepts = refl; state = refl }

pub unsubscribe_stays : (s : SessionState) (subscriptions : SubscriptionList) (root name : List ℕ) (watched : Option Root) → Stays (unsubscribe_met s subscriptions root name watched) s
unsubscribe_stays s subscriptions root name None = record { accepts = refl; state = refl }
unsubscribe_stays s subscriptions root name (Some watched) = record { accepts = refl; state = refl }

pub subscribe_stays : (s : SessionState) (subscriptions : SubscriptionList) (root name : List ℕ) (r : Result ClockId Refusal) → Stays (subscribe_met s subscriptions root name r) s
subscribe_stays s subscriptions root name (Ok clock) =
    elim (may_subscribe root name subscriptions) as (λ b. Stays (cond b (replied (subscribe_reply clock name) s) (refused TooMany s)) s) [
      | true ↦ record { accepts = refl; state = refl }
      | false ↦ record { accepts = refl; state = refl }
    ]
subscribe_stays s subscriptions root name (Err e) = record { accepts = refl; state = refl }

-- ---- a command

-- a command leaves the state that is handed to its outcome
pub left_so : (r : Reply) (d : Reply → Data) (s : SessionState) → s ≡ (by_reply r d s).state
left_so Changed d s = refl
left_so Replaced d s = refl
left_so Unchanged d s = refl
left_so (Refused e) d s = refl

-- ---- what was written

pub writes : (way : Way) (defined : Result Data Refusal) (d : Data) (before after : List ℕ) → way ≡ Defined → defined ≡ Ok d → after ≡ before ++ line_text d → Writes way defined before (Ok tt) after
writes way defined d before after by is put = (by, ap (λ (x : Result Data Refusal). is_ok x) is, put ∙ ap (λ (x : Result Data Refusal). before ++ reply_bytes x) (sym is))

module _ {F : Type 0} (met : F → Part → Way → Bool → SessionState → SessionState → F → Type 0) where
  -- a look, for an outcome that changes nothing
  stays_met : (old new : F) (part : Part) (way : Way) (s : SessionState) (defined : Outcome) → Stays defined s → met old part way false s (state_or way s s) new → met old part way defined.accepts s (state_or way defined.state s) new
  stays_met old new part way s defined stays m = subst (λ t. met old part way defined.accepts s (state_or way t s) new) stays.state (subst (λ b. met old part way b s (state_or way s s) new) stays.accepts m)

  -- memory ran out
  pub ran_out : (old new : F) (part : Part) (found : SessionState) (defined : SessionState → Outcome) (before after : List ℕ) → ((accepts : Bool) → met old part Memory accepts found found new) → after ≡ before
      → Met met old part defined before (Err NoMemory) new after
  ran_out old new part found defined before after m same = record { way = Memory; found = found; at = m (defined found).accepts; written = (refl, same) }

  -- a look was met as it is defined
  defined_met : (old new : F) (part : Part) (way : Way) (s : SessionState) → way ≡ Defined → met old part way false s (state_or way s s) new → met old part Defined false s s new
  defined_met old new part way s is m = subst (λ w. met old part w false s (state_or w s s) new) is m

  -- ---- operations
  -- an operation was met, at the moment that it was given or a later one
  abbrev pub MetLater : F → Path → Op → List ℕ → Result (Unit {0}) Refusal → F → List ℕ → Type 0
  MetLater old root o before result new after =
      (moment : ℕ) × (moment_given o ≤ moment) × Met met old (Changes root (moment_given o) moment) (λ s. operation_outcome s root (at_moment moment o)) before result new after

  takes_none : (old new : F) (root : Path) (o : Op) (given moment : ℕ) (way : Way) (found : SessionState) → met old (Changes root given moment) way false found (state_or way (operation_outcome found root o).state found) new
      → met old (Changes root given moment) way (operation_outcome found root o).accepts found (state_or way (operation_outcome found root o).state found) new
  takes_none old new root o given moment way found at =
      subst (λ b. met old (Changes root given moment) way b found (state_or way (operation_outcome found root o).state found) new) (takes_no_command found root o (view_after (view_of found root) o)) at

  pub operation_refused : (old new : F) (root : Path) (o : Op) (e : Refusal) (before after : List ℕ) → OperatedAt met old root o (Err e) new → after ≡ before → MetLater old root o before (Err e) new after
  operation_refused old new root o e before after m same =
      let here = at_moment m.moment o in (
        m.moment,
        m.later,
        record {
          way = m.way;
          found = m.found;
          at = takes_none old new root here (moment_given o) m.moment m.way m.found m.at;
          written = (operation_refusal m.way m.found root here (view_after (view_of m.found root) here) e m.reply_is, same);
        },
      )

  pub operation_done : (old new : F) (root : Path) (o : Op) (p : Progress) (before after : List ℕ) → OperatedAt met old root o (Ok p) new → after ≡ before ++ line_text (operation_reply o p) → MetLater old root o before (Ok tt) new after
  operation_done old new root o p before after m put =
      let here = at_moment m.moment o in
      let r = view_after (view_of m.found root) here in
      let is = granted m.way p (progress_after r) m.reply_is in (
        m.moment,
        m.later,
        record {
          way = m.way;
          found = m.found;
          at = takes_none old new root here (moment_given o) m.moment m.way m.found m.at;
          written = writes m.way (operation_outcome m.found root here).reply (operation_reply o p) before after is.0 (done_is m.found root here r p is.1 ∙ ap (λ d. Ok d) (same_reply m.moment o p)) put;
        },
      )

  -- ---- questions
  pub asked_done : {A : Type 0} (old new : F) (part : Part) (answer : SessionState → Result A Refusal) (to_reply : A → Data) (a : A) (before after : List ℕ) → Looked met old part answer (Ok a) new → after ≡ before ++ line_text (to_reply a)
      → Met met old part (λ s. question_met s (answer s) to_reply) before (Ok tt) new after
  asked_done old new part answer to_reply a before after m put =
      let is = granted m.way a (answer m.found) m.is in
      record {
        way = m.way;
        found = m.found;
        at = stays_met old new part m.way m.found (question_met m.found (answer m.found) to_reply) (asked_stays m.found (answer m.found) to_reply) m.at;
        written = writes m.way (question_met m.found (answer m.found) to_reply).reply (to_reply a) before after is.0 (ap (λ r. (question_met m.found r to_reply).reply) is.1) put;
      }

  pub asked_no : {A : Type 0} (old new : F) (part : Part) (answer : SessionState → Result A Refusal) (to_reply : A → Data) (e : Refusal) (before after : List ℕ) → Looked met old part answer (Err e) new → after ≡ before
      → Met met old part (λ s. question_met s (answer s) to_reply) before (Err e) new after
  asked_no old new part answer to_reply e before after m same = record {
    way = m.way;
    found = m.found;
    at = stays_met old new part m.way m.found (question_met m.found (answer m.found) to_reply) (asked_stays m.found (answer m.found) to_reply) m.at;
    written = (asked_refused m.way m.found (answer m.found) to_reply e m.is, same);
  }

  -- ---- the registry
  -- what is made of the registry that was looked at: a reply
  pub listed_done : (shown : F → State) (old new : F) (defined : SessionState → Outcome) (d : Data) (before after : List ℕ) (l : Listed met shown old (Ok tt) new) → ((s : SessionState) → Stays (defined s) s)
      → (shown new ≡ l.found.registry → (defined l.found).reply ≡ Ok d) → after ≡ before ++ line_text d → Met met old Lists defined before (Ok tt) new after
  listed_done shown old new defined d before after l stays is put =
      let by = (granted l.way tt (Ok tt) l.is).0 in
      record {
        way = l.way;
        found = l.found;
        at = stays_met old new Lists l.way l.found (defined l.found) (stays l.found) l.at;
        written = writes l.way (defined l.found).reply d before after by (is (l.shows by)) put;
      }

  -- or a refusal
  pub listed_refused : (shown : F → State) (old new : F) (defined : SessionState → Outcome) (e : Refusal) (before after : List ℕ) (l : Listed met shown old (Ok tt) new) → ((s : SessionState) → Stays (defined s) s)
      → (shown new ≡ l.found.registry → (defined l.found).reply ≡ Err e) → after ≡ before → Met met old Lists defined before (Err e) new after
  listed_refused shown old new defined e before after l stays is same =
      let by = (granted l.way tt (Ok tt) l.is).0 in
      record {
        way = l.way;
        found = l.found;
        at = stays_met old new Lists l.way l.found (defined l.found) (stays l.found) l.at;
        written = (ap (λ w. refusal_or w (defined l.found).reply) by ∙ is (l.shows by), same);
      }

  -- it couldn't be looked at
  pub unlisted : (shown : F → State) (old new : F) (defined : SessionState → Outcome) (e : Refusal) (before after : List ℕ) (l : Listed met shown old (Err e) new) → ((s : SessionState) → Stays (defined s) s) → after ≡ before
      → Met met old Lists defined before (Err e) new after
  unlisted shown old new defined e before after l stays same = record {
    way = l.way;
    found = l.found;
    at = stays_met old new Lists l.way l.found (defined l.found) (stays l.found) l.at;
    written = (faulty l.way tt (defined l.found).reply e l.is, same);
  }

  -- ---- subscribing
  pub subscribed_done : (old new : F) (root name : List ℕ) (q : Inquiry) (subscriptions left : SubscriptionList) (clock : ClockId) (since : Option Since) (before after : List ℕ)
      → Looked met old (Looks root) (λ s. start_answer (view_of s root) q.since) (Ok (clock, since)) new → may_subscribe root name subscriptions ≡ true
      → ((s : SessionState) → clock.root ≡ number_found (view_of s root) → since ≡ since_point q.since (cursors_of (view_of s root)) → left ≡ with_subscription (subscribed_by root (view_of s root) name q) subscriptions)
      → after ≡ before ++ line_text (subscribe_reply clock name)
      → MetLeaving met old (Looks root) (λ s. subscribe_met s subscriptions root name (clock_answer (view_of s root))) (λ s. with_subscription (subscribed_by root (view_of s root) name q) subscriptions) before (Ok tt) new after left
  subscribed_done old new root name q subscriptions left clock since before after m may leaves put =
      let view = view_of m.found root in
      let is = granted m.way (clock, since) (start_answer view q.since) m.is in
      let at = started (clock_answer view) (since_point q.since (cursors_of view)) clock since is.1 in
      let defined = subscribe_met m.found subscriptions root name (clock_answer view) in
      let reply : defined.reply ≡ Ok (subscribe_reply clock name) =
      ap (λ r. (subscribe_met m.found subscriptions root name r).reply) at.0 ∙ ap (λ b. (cond b (replied (subscribe_reply clock name) m.found) (refused TooMany m.found)).reply) may in (
        record {
          way = m.way;
          found = m.found;
          at = stays_met old new (Looks root) m.way m.found defined (subscribe_stays m.found subscriptions root name (clock_answer view)) m.at;
          written = writes m.way defined.reply (subscribe_reply clock name) before after is.0 reply put;
        },
        leaves m.found (root_told view clock at.0) at.1,
      )

  pub subscribed_full : (old new : F) (root name : List ℕ) (q : Inquiry) (subscriptions : SubscriptionList) (left : SessionState → SubscriptionList) (started_so : ClockId × Option Since) (before after : List ℕ) (kept : SubscriptionList)
      → Looked met old (Looks root) (λ s. start_answer (view_of s root) q.since) (Ok started_so) new → may_subscribe root name subscriptions ≡ false → after ≡ before
      → MetLeaving met old (Looks root) (λ s. subscribe_met s subscriptions root name (clock_answer (view_of s root))) left before (Err TooMany) new after kept
  subscribed_full old new root name q subscriptions left started_so before after kept m full same =
      let view = view_of m.found root in
      let is = granted m.way started_so (start_answer view q.since) m.is in
      let at = started (clock_answer view) (since_point q.since (cursors_of view)) started_so.0 started_so.1 is.1 in
      let defined = subscribe_met m.found subscriptions root name (clock_answer view) in
      let reply : defined.reply ≡ Err TooMany =
      ap (λ r. (subscribe_met m.found subscriptions root name r).reply) at.0 ∙ ap (λ b. (cond b (replied (subscribe_reply started_so.0 name) m.found) (refused TooMany m.found)).reply) full in (
        record {
          way = m.way;
          found = m.found;
          at = stays_met old new (Looks root) m.way m.found defined (subscribe_stays m.found subscriptions root name (clock_answer view)) m.at;
          written = (ap (λ w. refusal_or w defined.reply) is.0 ∙ reply, same);
        },
        tt,
      )

  pub subscribed_no : (old new : F) (root name : List ℕ) (q : Inquiry) (subscriptions : SubscriptionList) (left : SessionState → SubscriptionList) (e : Refusal) (before after : List ℕ) (kept : SubscriptionList)
      → Looked met old (Looks root) (λ s. start_answer (view_of s root) q.since) (Err e) new → after ≡ before
      → MetLeaving met old (Looks root) (λ s. subscribe_met s subscriptions root name (clock_answer (view_of s root))) left before (Err e) new after kept
  subscribed_no old new root name q subscriptions left e before after kept m same =
      let view = view_of m.found root in
      let defined = subscribe_met m.found subscriptions root name (clock_answer view) in (
        record {
          way = m.way;
          found = m.found;
          at = stays_met old new (Looks root) m.way m.found defined (subscribe_stays m.found subscriptions root name (clock_answer view)) m.at;
          written = (start_refusal m.way m.found subscriptions root name (clock_answer view) (since_point q.since (cursors_of view)) e m.is, same);
        },
        tt,
      )

  -- memory ran out for what was made of a look
  pub listed_memory : (shown : F → State) (old new : F) (l : Listed met shown old (Ok tt) new) → ((s : SessionState) → met old Lists Defined false s s new → (accepts : Bool) → met old Lists Memory accepts s s new)
      → (accepts : Bool) → met old Lists Memory accepts l.found l.found new
  listed_memory shown old new l out = out l.found (defined_met old new Lists l.way l.found (granted l.way tt (Ok tt) l.is).0 l.at)

  pub looked_memory : {A : Type 0} (old new : F) (part : Part) (answer : SessionState → Result A Refusal) (a : A) (m : Looked met old part answer (Ok a) new)
      → ((s : SessionState) → met old part Defined false s s new → (accepts : Bool) → met old part Memory accepts s s new) → (accepts : Bool) → met old part Memory accepts m.found m.found new
  looked_memory old new part answer a m out = out m.found (defined_met old new part m.way m.found (granted m.way a (answer m.found) m.is).0 m.at)
