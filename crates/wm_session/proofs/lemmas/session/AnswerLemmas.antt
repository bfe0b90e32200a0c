-- From what was met to what was answered, and to what was answered at just the state of a front that nobody else changes.
use Rattle.std.proofs.Common.{◌≡◌, ◌≢◌, ◌≤◌, ◌∙◌, ℕ, List, ◌++◌, Bool, true, false, cond, Result, Ok, Err, refl, sym, ap, subst, arith}
use Rattle.std.specs.Prelude.{OnOk, is_ok}
use Rattle.serde_json.specs.Data.{Data}
use Rattle.wm_disk.specs.declared.refusal.Refusal.{Refusal}
use Rattle.wm_disk.specs.declared.refusal.Refusal.TheVariants as refusals
use Rattle.wm_view.specs.declared.op.Op.TheVariants as op
use Rattle.wm_lines.specs.declared.request.Request.{Request}
use Rattle.wm_lines.specs.declared.request.Request.TheVariants.{Version, Watch, WatchDel, WatchList, Trigger, TriggerList, TriggerDel, Observe, Listing, AgeOut, Clock, Query, Subscribe, Unsubscribe}
use Rattle.wm_lines.specs.Lines.{request_of_line}
use Rattle.wm_lines.specs.Replies.{line_text, refusal_reply, reply_bytes}
use Rattle.wm_session.specs.session.Faults.{FrontState, Way, Defined, Memory, HasCause, faults_of, is_fault, refusal_or, state_or}
use Rattle.wm_session.specs.session.Fronts.{Answers, IsMetWhenGiven, IsOwn, Met, MetLeaving, Part, Nowhere, part_of, part_read}
use Rattle.wm_session.specs.session.Sessions.{Outcome, SessionState, SubscriptionList, WithSubscriptions, by_request, handled, met_or_refused, operation_outcome, subscriptions_after, subscriptions_by}
use Rattle.wm_session.proofs.lemmas.session.PlainLemmas.{counted, met_plain}
use Rattle.wm_session.proofs.lemmas.session.PlainReadings.{line_plain, tells_fault}
use Rattle.wm_session.proofs.lemmas.session.TellingLemmas.{AnswersAt}

-- where a session stands, whose front shows this
abbrev pub stand : {F : Type 0} → (F → FrontState) → F → SubscriptionList → WithSubscriptions FrontState
stand state f subscriptions = record { front = state f; subscriptions = subscriptions }

left_by : (r : Result Data Refusal) (s : WithSubscriptions SessionState) (request : Result Request Refusal) → is_ok r ≡ true → by_request s.front s.subscriptions request ≡ subscriptions_after r s request
left_by (Ok d) s request ok = refl
left_by (Err e) s request ok = absurd cc

-- what was kept is kept where it ended well
pub on_ok : {T E P : Type 0} (r : Result T E) → P → OnOk r P
on_ok (Ok t) p = p
on_ok (Err e) p = tt

-- ---- the moment at which a request is met

-- it may be the one that was given
when_of : (moment : ℕ) (request : Request) → IsMetWhenGiven (part_of moment moment request)
when_of moment Version = tt
when_of moment (Watch path) = tt
when_of moment (WatchDel path) = tt
when_of moment WatchList = tt
when_of moment (Observe root pairs) = refl
when_of moment (Listing root begun_at found) = refl
when_of moment (AgeOut root age) = refl
when_of moment (Clock root) = tt
when_of moment (Trigger path trigger) = tt
when_of moment (TriggerList path) = tt
when_of moment (TriggerDel path name) = tt
when_of moment (Query root q) = tt
when_of moment (Subscribe root name q) = tt
when_of moment (Unsubscribe root name) = tt

when_read : (moment : ℕ) (request : Result Request Refusal) → IsMetWhenGiven (part_read moment moment request)
when_read moment (Ok request) = when_of moment request
when_read moment (Err e) = tt

-- a request that is no operation is answered the same at every moment
same_of : (s : SessionState) (subscriptions : SubscriptionList) (given moment : ℕ) (request : Request) → IsMetWhenGiven (part_of given moment request) → handled s subscriptions moment request ≡ handled s subscriptions given request
same_of s subscriptions given moment Version when = refl
same_of s subscriptions given moment (Watch path) when = refl
same_of s subscriptions given moment (WatchDel path) when = refl
same_of s subscriptions given moment WatchList when = refl
same_of s subscriptions given moment (Observe root pairs) when = ap (λ m. operation_outcome s root (op.Observe m pairs)) when
same_of s subscriptions given moment (Listing root begun_at found) when = ap (λ m. operation_outcome s root (op.Recrawl m begun_at found)) when
same_of s subscriptions given moment (AgeOut root age) when = ap (λ m. operation_outcome s root (op.AgeOut m age)) when
same_of s subscriptions given moment (Clock root) when = refl
same_of s subscriptions given moment (Trigger path trigger) when = refl
same_of s subscriptions given moment (TriggerList path) when = refl
same_of s subscriptions given moment (TriggerDel path name) when = refl
same_of s subscriptions given moment (Query root q) when = refl
same_of s subscriptions given moment (Subscribe root name q) when = refl
same_of s subscriptions given moment (Unsubscribe root name) when = refl

same_read : (s : SessionState) (subscriptions : SubscriptionList) (given moment : ℕ) (request : Result Request Refusal) → IsMetWhenGiven (part_read given moment request) → met_or_refused s subscriptions moment request ≡ met_or_refused s subscriptions given request
same_read s subscriptions given moment (Ok request) when = same_of s subscriptions given moment request when
same_read s subscriptions given moment (Err e) when = refl

module _ {F : Type 0} (met : F → Part → Way → Bool → SessionState → SessionState → F → Type 0) where
  -- a request was done
  pub done : (old : F) (subscriptions : SubscriptionList) (moment : ℕ) (request : Request) (before after : List ℕ) (new : F) (subscriptions' : SubscriptionList)
      → (at : ℕ) × (moment ≤ at) × MetLeaving met old (part_of moment at request) (λ s. handled s subscriptions at request) (λ s. subscriptions_by s subscriptions request) before (Ok tt) new after subscriptions'
      → Answers met old subscriptions moment (Ok request) 0 before after new subscriptions'
  done old subscriptions moment request before after new subscriptions' (at, later, m) =
      let w = m.0 in
      let reply = (handled w.found subscriptions at request).reply in
      let here : WithSubscriptions SessionState = record { front = w.found; subscriptions = subscriptions } in
      record {
        way = w.way;
        found = w.found;
        moment = at;
        later = later;
        at = w.at;
        faults = ap faults_of (sym w.written.0);
        bytes_are = w.written.2 ∙ ap (λ v. before ++ reply_bytes (refusal_or v reply)) (sym w.written.0);
        subscriptions_are = m.1 ∙ left_by reply here (Ok request) w.written.1 ∙ ap (λ v. subscriptions_after (refusal_or v reply) here (Ok request)) (sym w.written.0);
      }

  -- a request was refused
  pub refused_so : (old : F) (subscriptions : SubscriptionList) (moment : ℕ) (request : Request) (before mid after : List ℕ) (r : Refusal) (n : ℕ) (new : F) (subscriptions' : SubscriptionList)
      → (at : ℕ) × (moment ≤ at) × Met met old (part_of moment at request) (λ s. handled s subscriptions at request) before (Err r) new mid → subscriptions' ≡ subscriptions
      → n ≡ cond (is_fault r) 1 0 → after ≡ mid ++ line_text (refusal_reply r)
      → Answers met old subscriptions moment (Ok request) n before after new subscriptions'
  refused_so old subscriptions moment request before mid after r n new subscriptions' (at, later, w) kept many put =
      let reply = (handled w.found subscriptions at request).reply in
      let here : WithSubscriptions SessionState = record { front = w.found; subscriptions = subscriptions } in
      record {
        way = w.way;
        found = w.found;
        moment = at;
        later = later;
        at = w.at;
        faults = many ∙ counted w.way reply r (met_plain w.found subscriptions at (Ok request) refl) w.written.0;
        bytes_are = put ∙ ap (λ (l : List ℕ). l ++ line_text (refusal_reply r)) w.written.1 ∙ ap (λ (x : Result Data Refusal). before ++ reply_bytes x) (sym w.written.0);
        subscriptions_are = kept ∙ ap (λ (x : Result Data Refusal). subscriptions_after x here (Ok request)) (sym w.written.0);
      }

  plain_line : (old : F) (subscriptions : SubscriptionList) (moment : ℕ) (request : Result Request Refusal) (before after : List ℕ) (r : Refusal) (n : ℕ) (s : SessionState) → met old Nowhere Defined false s s old → tells_fault request ≡ false → request ≡ Err r
      → n ≡ cond (is_fault r) 1 0 → after ≡ before ++ line_text (refusal_reply r) → Answers met old subscriptions moment request n before after old subscriptions
  plain_line old subscriptions moment request before after r n s idle plain is many put =
      let none : is_fault r ≡ false = sym (ap (λ (x : Result Request Refusal). tells_fault x) is) ∙ plain in
      subst (λ x. Answers met old subscriptions moment x n before after old subscriptions) (sym is) (record { way = Defined; found = s; moment = moment; later = omega arith; at = idle; faults = many ∙ ap (λ b. cond b 1 0) none; bytes_are = put; subscriptions_are = refl })

  -- a line is no request, or memory ran out as it was read
  pub unread : (old : F) (subscriptions : SubscriptionList) (moment : ℕ) (line before after : List ℕ) (r : Refusal) (n : ℕ) → (s : SessionState) × met old Nowhere Defined false s s old
      → ((part : Part) → IsMetWhenGiven part → (s : SessionState) × ((accepts : Bool) → met old part Memory accepts s s old)) → (r ≢ refusals.NoMemory → request_of_line line ≡ Err r)
      → n ≡ cond (is_fault r) 1 0 → after ≡ before ++ line_text (refusal_reply r)
      → Answers met old subscriptions moment (request_of_line line) n before after old subscriptions
  unread old subscriptions moment line before after refusals.NoMemory n idle out is many put =
      let s = out (part_read moment moment (request_of_line line)) (when_read moment (request_of_line line)) in
      record { way = Memory; found = s.0; moment = moment; later = omega arith; at = s.1 (met_or_refused s.0 subscriptions moment (request_of_line line)).accepts; faults = many; bytes_are = put; subscriptions_are = refl }
  unread old subscriptions moment line before after r n idle out is many put =
      plain_line old subscriptions moment (request_of_line line) before after r n idle.0 idle.1 (line_plain line) (is (λ none. absurd cc)) many put

  -- what is answered at some state is answered at the front's own
  pub exactly : (state : F → FrontState) → IsOwn met state → (old : F) (subscriptions : SubscriptionList) (moment : ℕ) (request : Result Request Refusal) (n : ℕ) (before after : List ℕ) (new : F) (subscriptions' : SubscriptionList)
      → Answers met old subscriptions moment request n before after new subscriptions' → AnswersAt (stand state old subscriptions) moment request n before after (stand state new subscriptions')
  exactly state own old subscriptions moment request n before after new subscriptions' a =
      let here = own old new (part_read moment a.moment request) a.way (met_or_refused a.found subscriptions a.moment request).accepts a.found (state_or a.way (met_or_refused a.found subscriptions a.moment request).state a.found) a.at in
      let back = sym here.0 in
      let given = same_read a.found subscriptions moment a.moment request here.4 in
      let is : met_or_refused a.found subscriptions a.moment request ≡ met_or_refused (state old).state subscriptions moment request = given ∙ ap (λ s. met_or_refused s subscriptions moment request) back in
      record {
        way = a.way;
        cause = subst (λ o. HasCause a.way o.accepts (state old) (state new)) is here.2;
        faults = a.faults;
        bytes_are = a.bytes_are ∙ ap (λ (o : Outcome). before ++ reply_bytes (refusal_or a.way o.reply)) is;
        state_is = here.1 ∙ ap (λ (o : Outcome). state_or a.way o.state a.found) is ∙ ap (λ s. state_or a.way (met_or_refused (state old).state subscriptions moment request).state s) back;
        subscriptions_are = a.subscriptions_are ∙ ap (λ (o : Outcome). subscriptions_after (refusal_or a.way o.reply) (record { front = a.found; subscriptions = subscriptions }) request) is
            ∙ ap (λ s. subscriptions_after (refusal_or a.way (met_or_refused (state old).state subscriptions moment request).reply) (record { front = s; subscriptions = subscriptions }) request) back;
      }
