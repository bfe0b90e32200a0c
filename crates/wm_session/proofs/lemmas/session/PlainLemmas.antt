-- What is defined is never a fault: so a fault that is told has its cause.
use Rattle.std.proofs.Common.{◌≡◌, ◌∙◌, ℕ, List, Bool, true, false, not, ◌||◌, ◌==◌, cond, length, nat_lt, refl, sym, ap}
use Rattle.std.specs.Prelude.{Option, Some, None, Result, Ok, Err, ◌&&◌}
use Rattle.std.specs.Option.{option_map_or}
use Rattle.std.specs.List.{list_any}
use Rattle.serde_json.specs.Data.{Data}
use Rattle.wm_disk.specs.declared.refusal.Refusal.{Refusal}
use Rattle.wm_disk.specs.Counters.{max_counter}
use Rattle.wm_names.specs.Entries.{is_whole}
use Rattle.wm_disk.specs.declared.refusal.Refusal.TheVariants.{BadArguments, Exhausted, Full, NotReady, NotWatched, OldVersion, StoreFailed, TooMany, BadClock}
use Rattle.wm_registry.specs.Endings.{count_fits}
use Rattle.wm_registry.specs.Versions.{max_state_bytes}
use Rattle.wm_registry.specs.declared.command.Command.{Command}
use Rattle.wm_registry.specs.declared.command.Command.TheVariants as command
use Rattle.wm_registry.specs.declared.reply.Reply.{Reply}
use Rattle.wm_registry.specs.declared.reply.Reply.TheVariants as reply
use Rattle.wm_registry.specs.declared.root.Root.{Root}
use Rattle.wm_registry.specs.Registry as registry
use Rattle.wm_registry.specs.Roots as roots
use Rattle.wm_registry.specs.Spelling.{state_spelling}
use Rattle.wm_registry.specs.Triggers.{Definition, defined, has_trigger, same_definition}
use Rattle.wm_store.specs.Batches.{is_begin}
use Rattle.wm_view.specs.Histories.{refuse_if, observed}
use Rattle.wm_view.specs.Steps.{present, recrawled_in, refused_in, spent_in, step}
use Rattle.wm_view.specs.Summaries.{Summary}
use Rattle.wm_session.specs.declared.local.root_views.RootView.{RootView}
use Rattle.wm_since.specs.declared.query.Answer.{Answer}
use Rattle.wm_lines.specs.declared.query.Inquiry.{Inquiry}
use Rattle.wm_session.specs.session.Inquiries.{has_place, inquired, question_in}
use Rattle.wm_expr.specs.Meanings.{holds}
use Rattle.wm_view.specs.declared.op.Op.{Op}
use Rattle.wm_view.specs.declared.op.Op.TheVariants as op
use Rattle.wm_since.specs.Answers.{answer_by}
use Rattle.wm_lines.specs.declared.request.Request.{Request}
use Rattle.wm_lines.specs.declared.request.Request.TheVariants.{Version, Watch, WatchDel, WatchList, Trigger, TriggerList, TriggerDel, Observe, Listing, AgeOut, Clock, Query, Subscribe, Unsubscribe}
use Rattle.wm_lines.specs.ListingLines.{found}
use Rattle.wm_subs.specs.SessionLists.{may_subscribe}
use Rattle.wm_clock.specs.declared.clock_id.ClockId.{ClockId}
use Rattle.wm_session.specs.session.Faults.{Way, Defined, Device, Memory, Spent, is_fault, faults_of, refusal_or}
use Rattle.wm_session.specs.session.Sessions.{SessionState, SubscriptionList, subscribe_met, unsubscribe_met, replied, refused, question_met, met_or_refused, commanded, by_reply, operation_outcome, operation_met, reply_to_command, inquiry_met, state_after_command, triggers_met, view_of}
use Rattle.wm_session.specs.session.Watched.{clock_in, clock_answer, unless, view_after}
use Rattle.wm_lines.specs.Replies.{clock_reply, command_reply, subscribe_reply}
use Rattle.wm_session.proofs.lemmas.session.PlainReadings.{tells_fault, either}

-- ---- meeting

abbrev pub reply_fault : Reply → Bool
reply_fault reply.Changed = false
reply_fault reply.Replaced = false
reply_fault reply.Unchanged = false
reply_fault (reply.Refused r) = is_fault r

either_reply : (b : Bool) (x y : Reply) → reply_fault x ≡ false → reply_fault y ≡ false → reply_fault (cond b x y) ≡ false
either_reply true x y p q = p
either_reply false x y p q = q

by_plain : (r : Reply) (d : Reply → Data) (s : SessionState) → reply_fault r ≡ false → tells_fault (by_reply r d s).reply ≡ false
by_plain reply.Changed d s h = refl
by_plain reply.Replaced d s h = refl
by_plain reply.Unchanged d s h = refl
by_plain (reply.Refused r) d s h = h

full_plain : (new : roots.State) (r : Reply) → reply_fault r ≡ false → reply_fault (registry.unless_full new r) ≡ false
full_plain new r h = either_reply (nat_lt (max_state_bytes new.version) (length (state_spelling new))) (reply.Refused Full) r refl h

at_root_plain : (f : Root → Reply) (root : Option Root) → ((x : Root) → reply_fault (f x) ≡ false) → reply_fault (option_map_or f root (reply.Refused NotWatched)) ≡ false
at_root_plain f None h = refl
at_root_plain f (Some root) h = h root

met_trigger_plain : (s : roots.State) (path : List ℕ) (t : Definition) (root : Root) → reply_fault (registry.reply_to_trigger s path t root) ≡ false
met_trigger_plain s path t root =
    let new = roots.with_triggers s path root (defined t root.triggers) in
    either_reply (count_fits s.version t.max_files_stdin) _ (reply.Refused OldVersion)
    (either_reply (list_any (same_definition t) root.triggers) _ _ refl
    (either_reply (has_trigger t.name root.triggers) _ _ (full_plain new reply.Replaced refl)
    (either_reply (nat_lt (length root.triggers) 64) _ _ (full_plain new reply.Changed refl) refl)))
    refl

registry_plain : (s : roots.State) (c : Command) → reply_fault (registry.reply_to s c) ≡ false
registry_plain s command.Begin = either_reply (nat_lt s.incarnation max_counter) _ _ refl refl
registry_plain s (command.Watch path) =
    either_reply (roots.is_watched path s) _ _ refl
    (either_reply (nat_lt (length s.roots) 256) _ _ (either_reply (nat_lt s.next max_counter) _ _ (full_plain (registry.watched s path) reply.Changed refl) refl) refl)
registry_plain s (command.WatchDel path) = either_reply (roots.is_watched path s) _ _ refl refl
registry_plain s (command.Trigger path t) = at_root_plain (registry.reply_to_trigger s path t) (roots.root_at path s) (met_trigger_plain s path t)
registry_plain s (command.TriggerDel path name) =
    at_root_plain (λ root. cond (has_trigger name root.triggers) reply.Changed reply.Unchanged) (roots.root_at path s) (λ root. either_reply (has_trigger name root.triggers) _ _ refl refl)

commanded_plain : (s : SessionState) (c : Command) → tells_fault (commanded s c).reply ≡ false
commanded_plain s c =
    by_plain (reply_to_command s c) (command_reply c) (state_after_command s c)
    (either_reply (is_begin c) (reply.Refused BadArguments) _ refl
    (either_reply s.has_failed (reply.Refused StoreFailed) (registry.reply_to s.registry c) refl (registry_plain s.registry c)))

triggers_plain : (s : SessionState) (root : Option Root) → tells_fault (triggers_met s root).reply ≡ false
triggers_plain s None = refl
triggers_plain s (Some root) = refl

-- a refusal that is a fault
abbrev pub option_fault : Option Refusal → Bool
option_fault None = false
option_fault (Some r) = is_fault r

refuse_plain : (b : Bool) (r : Refusal) (rest : Option Refusal) → is_fault r ≡ false → option_fault rest ≡ false → option_fault (refuse_if b r rest) ≡ false
refuse_plain true r rest h g = h
refuse_plain false r rest h g = g

either_refused : (b : Bool) (x y : Option Refusal) → option_fault x ≡ false → option_fault y ≡ false → option_fault (cond b x y) ≡ false
either_refused true x y p q = p
either_refused false x y p q = q

view_plain : (view : Summary) (o : Op) → option_fault (refused_in view o) ≡ false
view_plain view (op.Observe moment pairs) =
    let spent = spent_in view (observed (present view.known) pairs) in
    let last = refuse_if spent Exhausted None in
    let many = nat_lt 65536 (length pairs) in
    refuse_plain (not view.ready) NotReady (refuse_if many TooMany last) refl (refuse_plain many TooMany last refl (refuse_plain spent Exhausted None refl refl))
view_plain view (op.Recrawl moment begun_at found) =
    let spent = spent_in view (recrawled_in view begun_at found.subtree found.files) in
    let last = refuse_if spent Exhausted None in
    let outside = nat_lt begun_at view.floor || nat_lt view.tick begun_at in
    let part = not (is_whole found.subtree && (begun_at == 0)) in
    either_refused view.ready (refuse_if outside BadClock last) (refuse_if part NotReady None)
    (refuse_plain outside BadClock last refl (refuse_plain spent Exhausted None refl refl)) (refuse_plain part NotReady None refl refl)
view_plain view (op.AgeOut time age) = refuse_plain (not view.ready) NotReady None refl refl

unless_plain : (r : Option Refusal) (new : RootView) → option_fault r ≡ false → tells_fault (unless r new) ≡ false
unless_plain None new h = refl
unless_plain (Some r) new h = h

after_plain : (view : Option RootView) (o : Op) → tells_fault (view_after view o) ≡ false
after_plain None o = refl
after_plain (Some root) o = unless_plain (refused_in root.view o) (record root { view = step root.view o }) (view_plain root.view o)

operated_plain : (s : SessionState) (root : List ℕ) (o : Op) (r : Result RootView Refusal) → tells_fault r ≡ false → tells_fault (operation_met s root o r).reply ≡ false
operated_plain s root o (Ok view) h = refl
operated_plain s root o (Err e) h = h

viewed_plain : (s : SessionState) (root : List ℕ) (o : Op) → tells_fault (operation_outcome s root o).reply ≡ false
viewed_plain s root o = operated_plain s root o (view_after (view_of s root) o) (after_plain (view_of s root) o)

asked_plain : {A : Type 0} (s : SessionState) (r : Result A Refusal) (to_reply : A → Data) → tells_fault r ≡ false → tells_fault (question_met s r to_reply).reply ≡ false
asked_plain s (Ok a) to_reply h = refl
asked_plain s (Err e) to_reply h = h

clock_told_plain : (view : Option RootView) → tells_fault (clock_answer view) ≡ false
clock_told_plain None = refl
clock_told_plain (Some view) = either view.view.ready (Ok (clock_in view)) (Err NotReady) refl refl

inquired_plain : (view : Option RootView) (q : Inquiry) → tells_fault (inquired view q) ≡ false
inquired_plain None q = refl
inquired_plain (Some root) q =
    let answer : Result Answer Refusal = Ok (answer_by (holds q.expression) root.view (question_in q root.cursors)) in
    either root.view.ready (cond (has_place q.since root.cursors) answer (Err TooMany)) (Err NotReady) (either (has_place q.since root.cursors) answer (Err TooMany) refl refl) refl

inquiry_plain : (s : SessionState) (root : List ℕ) (q : Inquiry) (r : Result Answer Refusal) → tells_fault r ≡ false → tells_fault (inquiry_met s root q r).reply ≡ false
inquiry_plain s root q (Ok a) h = refl
inquiry_plain s root q (Err e) h = h

subscribe_told_plain : (s : SessionState) (subs : SubscriptionList) (root name : List ℕ) (r : Result ClockId Refusal) → tells_fault r ≡ false → tells_fault (subscribe_met s subs root name r).reply ≡ false
subscribe_told_plain s subs root name (Ok clock) h =
    elim (may_subscribe root name subs) as (λ b. tells_fault (cond b (replied (subscribe_reply clock name) s) (refused TooMany s)).reply ≡ false) [
      | true ↦ refl
      | false ↦ refl
    ]
subscribe_told_plain s subs root name (Err e) h = h

unsubscribe_told_plain : (s : SessionState) (subs : SubscriptionList) (root name : List ℕ) (r : Option Root) → tells_fault (unsubscribe_met s subs root name r).reply ≡ false
unsubscribe_told_plain s subs root name None = refl
unsubscribe_told_plain s subs root name (Some watched) = refl

pub met_plain : (s : SessionState) (subs : SubscriptionList) (moment : ℕ) (r : Result Request Refusal) → tells_fault r ≡ false → tells_fault (met_or_refused s subs moment r).reply ≡ false
met_plain s subs moment (Ok Version) h = refl
met_plain s subs moment (Ok (Watch path)) h = commanded_plain s (command.Watch path)
met_plain s subs moment (Ok (WatchDel path)) h = commanded_plain s (command.WatchDel path)
met_plain s subs moment (Ok (Trigger path t)) h = commanded_plain s (command.Trigger path t)
met_plain s subs moment (Ok (TriggerList path)) h = triggers_plain s (roots.root_at path s.registry)
met_plain s subs moment (Ok (TriggerDel path name)) h = commanded_plain s (command.TriggerDel path name)
met_plain s subs moment (Ok WatchList) h = refl
met_plain s subs moment (Ok (Observe root pairs)) h = viewed_plain s root (op.Observe moment pairs)
met_plain s subs moment (Ok (Listing root begun_at files)) h = viewed_plain s root (op.Recrawl moment begun_at files)
met_plain s subs moment (Ok (AgeOut root age)) h = viewed_plain s root (op.AgeOut moment age)
met_plain s subs moment (Ok (Clock root)) h = asked_plain s (clock_answer (view_of s root)) clock_reply (clock_told_plain (view_of s root))
met_plain s subs moment (Ok (Query root q)) h = inquiry_plain s root q (inquired (view_of s root) q) (inquired_plain (view_of s root) q)
met_plain s subs moment (Ok (Subscribe root name q)) h = subscribe_told_plain s subs root name (clock_answer (view_of s root)) (clock_told_plain (view_of s root))
met_plain s subs moment (Ok (Unsubscribe root name)) h = unsubscribe_told_plain s subs root name (roots.root_at root s.registry)
met_plain s subs moment (Err e) h = h

-- as many faults are told as there were
abbrev pub fault_count : Result Data Refusal → ℕ
fault_count (Ok d) = 0
fault_count (Err r) = cond (is_fault r) 1 0

none_counted : (r : Result Data Refusal) → tells_fault r ≡ false → fault_count r ≡ 0
none_counted (Ok d) plain = refl
none_counted (Err r) plain = ap (λ b. cond b 1 0) plain

counted_by : (way : Way) (defined : Result Data Refusal) → tells_fault defined ≡ false → fault_count (refusal_or way defined) ≡ faults_of way
counted_by Defined defined plain = none_counted defined plain
counted_by Device defined plain = refl
counted_by Memory defined plain = refl
counted_by Spent defined plain = refl

pub counted : (way : Way) (defined : Result Data Refusal) (r : Refusal) → tells_fault defined ≡ false → refusal_or way defined ≡ Err r → cond (is_fault r) 1 0 ≡ faults_of way
counted way defined r plain is = ap fault_count (sym is) ∙ counted_by way defined plain
