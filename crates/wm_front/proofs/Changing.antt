-- From what an operation on a root tells to the state at which it was met.
use Rattle.std.proofs.Common.{◌≡◌, ◌∙◌, ◌⊎◌, inl, inr, ℕ, ◌≤◌, Bool, true, false, true≢false, not, List, [], ◌∷◌, ◌++◌, length, cond, max, refl, sym, ap, subst, rules, arith}
use Rattle.std.specs.Prelude.{Option, Some, None, Result, Ok, Err, nat_lt, ◌&&◌, ◌||◌, ◌==◌}
use Rattle.std.specs.List.{fold}
use Rattle.wm_disk.specs.declared.refusal.Refusal.{Refusal}
use Rattle.wm_disk.specs.declared.refusal.Refusal.TheVariants.{BadClock, Exhausted, NoMemory, NotReady, NotWatched, TooMany}
use Rattle.wm_names.specs.Paths.{Path}
use Rattle.wm_names.specs.Entries.{is_whole}
use Rattle.wm_clock.specs.declared.clock_id.ClockId.{ClockId}
use Rattle.wm_view.specs.declared.op.Op.{Op}
use Rattle.wm_view.specs.declared.op.Op.TheVariants.{Observe, Recrawl, AgeOut}
use Rattle.wm_view.specs.Files.{Files, same_files}
use Rattle.wm_view.specs.Histories.{History, IsMade, after_operation, grown, is_ready, is_spent, max_pairs, new_history, newest, next_map, observed, performed, recrawled, refusal, refuse_if, tick_of, unless_refused}
use Rattle.wm_since.specs.Answers.{clock_of}
use Rattle.wm_since.specs.Cursors.{CursorList}
use Rattle.wm_lines.specs.declared.progress.Progress.{Progress}
use Rattle.wm_share.specs.PublishedLists.{PublishedList, Begins, EndsWith, clock_shown, history, last_refusal, outcome, with_operations}
use Rattle.wm_root.specs.Changes.{op_at}
use Rattle.wm_root.specs.declared.change.Change.{Change}
use Rattle.wm_root.specs.declared.change.Change.TheVariants as changes
use Rattle.wm_root.specs.ChangeSeen.{IsChangeSeen, IsEndOf}
use Rattle.wm_root.specs.Performed.{IsOutcome, IsProgress}
use Rattle.wm_session.specs.session.Faults.{Way, Defined, Memory, Spent, refusal_or, state_or}
use Rattle.wm_session.specs.session.Fronts.{at_moment, moment_given}
use Rattle.wm_session.specs.session.Sessions.{SessionState, operation_met, operation_outcome, view_of}
use Rattle.wm_session.specs.session.Watched.{of_history, progress_after, unless, view_after}
use Rattle.wm_front.specs.Commands.{KeepsSeat}
use Rattle.wm_front.specs.Looks.{IsUnwatchedAfter}
use Rattle.wm_front.specs.MetShared.{AreSeenMore, IsMetOnRoot, SharedKnown, no_root, one_root}
use Rattle.wm_front.specs.RootsSeen.{IsSeenMore, IsShownBy}
use Rattle.wm_front.proofs.OneRoot.{view_none, view_one, with_one, with_registry}
use Rattle.wm_front.proofs.RootCalls.{made, met_nowhere}

-- what `every_line` says of operations
abbrev pub OperatedLaw : Type 0
OperatedLaw = (h : History) (cursors : CursorList) (op : Op) → IsMade h → view_after (Some (of_history h cursors)) op ≡ unless (refusal h op) (of_history (after_operation h op) cursors)

-- ---- one operation more

after_more : (h : History) (ops : List Op) (op : Op) → fold after_operation h (ops ++ op ∷ []) ≡ after_operation (fold after_operation h ops) op
after_more h [] op = refl
after_more h (o ∷ ops) op = after_more (after_operation h o) ops op

refusal_more : (h : History) (last : Option Refusal) (ops : List Op) (op : Op) → last_refusal h last (ops ++ op ∷ []) ≡ refusal (fold after_operation h ops) op
refusal_more h last [] op = refl
refusal_more h last (o ∷ ops) op = refusal_more (after_operation h o) (refusal h o) ops op

history_more : (before : PublishedList) (op : Op) → history (with_operations before (op ∷ [])) ≡ after_operation (history before) op
history_more before op = after_more (new_history before.share.incarnation before.share.root) before.operations op

outcome_more : (before : PublishedList) (op : Op) → outcome (with_operations before (op ∷ [])) ≡ refusal (history before) op
outcome_more before op = refusal_more (new_history before.share.incarnation before.share.root) None before.operations op

-- ---- an operation that leaves a view unready was refused for that

grown_ready : (h : History) (moment : ℕ) (files : Files) → is_ready (grown h moment files) ≡ true
grown_ready h moment files = search rules

next_ready : (h : History) (moment : ℕ) (files : Files) → is_ready h ≡ true → is_ready (next_map h moment files) ≡ true
next_ready h moment files ready =
    elim (same_files files (newest h.ticks)) as (λ b. is_ready (cond b h (grown h moment files)) ≡ true) [
      | true ↦ ready
      | false ↦ grown_ready h moment files
    ]

performed_ready : (h : History) (op : Op) → is_ready h ≡ true → is_ready (performed h op) ≡ true
performed_ready h (Observe moment pairs) ready = next_ready h moment (observed (newest h.ticks) pairs) ready
performed_ready h (Recrawl moment begun_at found) ready =
    let files = recrawled h begun_at found.subtree found.files in
    ap (λ (b : Bool). is_ready (cond b (next_map h moment files) (grown h moment files))) ready ∙ next_ready h moment files ready
performed_ready h (AgeOut time age) ready = ready

after_ready : (h : History) (op : Op) (r : Option Refusal) → is_ready h ≡ true → is_ready (unless_refused r (performed h op) h) ≡ true
after_ready h op None ready = performed_ready h op ready
after_ready h op (Some e) ready = ready

first_refused : (h : History) (moment begun_at : ℕ) (files : Files) (whole : Bool) → is_ready h ≡ false → is_ready (unless_refused (refuse_if (not whole) NotReady None) (cond (is_ready h) (next_map h moment files) (grown h moment files)) h) ≡ false
    → refuse_if (not whole) NotReady None ≡ Some NotReady
first_refused h moment begun_at files true unready after =
    absurd (true≢false (sym (ap (λ (b : Bool). is_ready (cond b (next_map h moment files) (grown h moment files))) unready ∙ grown_ready h moment files) ∙ after))
first_refused h moment begun_at files false unready after = refl

unready_refused : (h : History) (op : Op) → is_ready h ≡ false → is_ready (after_operation h op) ≡ false → refusal h op ≡ Some NotReady
unready_refused h (Observe moment pairs) unready after = ap (λ (b : Bool). refuse_if (not b) NotReady (refuse_if (nat_lt max_pairs (length pairs)) TooMany (refuse_if (is_spent h (observed (newest h.ticks) pairs)) Exhausted None))) unready
unready_refused h (AgeOut time age) unready after = ap (λ (b : Bool). refuse_if (not b) NotReady None) unready
unready_refused h (Recrawl moment begun_at found) unready after =
    let whole = is_whole found.subtree && (begun_at == 0) in
    let files = recrawled h begun_at found.subtree found.files in
    let late : Option Refusal = refuse_if (nat_lt begun_at h.floor || nat_lt (tick_of h) begun_at) BadClock (refuse_if (is_spent h files) Exhausted None) in
    let is : refusal h (Recrawl moment begun_at found) ≡ refuse_if (not whole) NotReady None = ap (λ (b : Bool). cond b late (refuse_if (not whole) NotReady None)) unready in
    is ∙ first_refused h moment begun_at (recrawled h begun_at found.subtree found.files) whole unready
    (ap (λ (r : Option Refusal). is_ready (unless_refused r (performed h (Recrawl moment begun_at found)) h)) (sym is) ∙ after)

by_readiness : (h : History) (op : Op) (ready : Bool) → is_ready h ≡ ready → is_ready (after_operation h op) ≡ false → refusal h op ≡ Some NotReady
by_readiness h op true is after = absurd (true≢false (sym (after_ready h op (refusal h op) is) ∙ after))
by_readiness h op false is after = unready_refused h op is after

-- ---- what is reported of a published list

clock_is : (h : History) (clock : ClockId) → clock_shown h ≡ Some clock → clock ≡ clock_of h
clock_is h clock e = elim (is_ready h) as (λ b. cond b (Some (clock_of h)) None ≡ Some clock → clock ≡ clock_of h) [
  | true ↦ λ f. cc (f)
  | false ↦ λ f. absurd cc
] e

no_clock : (h : History) → clock_shown h ≡ None → is_ready h ≡ false
no_clock h e = elim (is_ready h) as (λ b. cond b (Some (clock_of h)) None ≡ None → b ≡ false) [
  | true ↦ λ f. absurd cc
  | false ↦ λ f. refl
] e

-- what an operation on the view of a list reports
abbrev reported : PublishedList → Op → Result Progress Refusal
reported before op = progress_after (view_after (Some (of_history (history before) [])) op)

went_so : (before : PublishedList) (op : Op) (o : Option Refusal) → OperatedLaw → outcome (with_operations before (op ∷ [])) ≡ o
    → view_after (Some (of_history (history before) [])) op ≡ unless o (of_history (after_operation (history before) op) [])
went_so before op o law is = law (history before) [] op (made before) ∙ ap (λ x. unless x (of_history (after_operation (history before) op) [])) (sym (outcome_more before op) ∙ is)

reported_done : (before : PublishedList) (op : Op) (p : Progress) → OperatedLaw → IsProgress (with_operations before (op ∷ [])) p → Ok p ≡ reported before op
reported_done before op p law (none, shown, floor) =
    let h = history before in
    let clock : p.clock ≡ clock_of (after_operation h op) = clock_is (history (with_operations before (op ∷ []))) p.clock shown ∙ ap clock_of (history_more before op) in
    let low : p.floor ≡ (after_operation h op).floor = floor ∙ ap (λ (x : History). x.floor) (history_more before op) in
    (λ i. Ok (record { clock = clock i; floor = low i })) ∙ ap progress_after (sym (went_so before op None law none))

reported_refused : (before : PublishedList) (op : Op) (e : Refusal) → OperatedLaw → IsOutcome (with_operations before (op ∷ [])) e → Err e ≡ reported before op
reported_refused before op e law (inl is) = ap progress_after (sym (went_so before op (Some e) law is))
reported_refused before op e law (inr (is, none)) =
    let h = history before in
    let unready : is_ready (after_operation h op) ≡ false = ap is_ready (sym (history_more before op)) ∙ no_clock (history (with_operations before (op ∷ []))) none in
    ap (λ x. Err x) is ∙ ap progress_after (sym (went_so before op (Some NotReady) law (outcome_more before op ∙ by_readiness h op (is_ready h) refl unready)))

reported_so : (before : PublishedList) (op : Op) (result : Result Progress Refusal) → OperatedLaw → IsEndOf op (with_operations before (op ∷ [])) result → result ≡ reported before op
reported_so before op (Ok p) law end = reported_done before op p law end.1
reported_so before op (Err e) law end = reported_refused before op e law end.1

-- ---- the state that is left

left_one : (path : Path) (h : History) (op : Op) (r : Option Refusal)
    → (operation_met (one_root path (of_history h [])) path op (unless r (of_history (unless_refused r (performed h op) h) []))).state ≡ one_root path (of_history (unless_refused r (performed h op) h) [])
left_one path h op None = with_one path (of_history h []) (of_history (performed h op) [])
left_one path h op (Some r) = refl

-- an operation was met as it is
record IsPerformed (has : Path → ℕ → Type 0) (a : SharedKnown) (path : Path) (op : Op) (result : Result Progress Refusal) (b : SharedKnown) : Type 0 where
  pub way : Way
  pub found : SessionState
  pub by : IsMetOnRoot has path false way a found (state_or way (operation_outcome found path op).state found) b
  pub reply_is : result ≡ refusal_or way (progress_after (view_after (view_of found path) op))

module _ (has : Path → ℕ → Type 0) (path : Path) (op : Op) where
  -- memory ran out
  performed_in_vain : (a b : SharedKnown) (result : Result Progress Refusal) → KeepsSeat a.seat b.seat → AreSeenMore a.viewers b.viewers → result ≡ Err NoMemory → IsPerformed has a path op result b
  performed_in_vain a b result keeps more is = record { way = Memory; found = no_root; by = (tt, keeps, inl (tt, more)); reply_is = is }

  performed_nowhere : (a b : SharedKnown) → IsUnwatchedAfter path a.seat b.seat → KeepsSeat a.seat b.seat → b.viewers ≡ a.viewers → IsPerformed has a path op (Err NotWatched) b
  performed_nowhere a b gone keeps same =
      let s = with_registry gone.0 false in
      let none = view_none path gone.0 false in
      record {
        way = Defined;
        found = s;
        by = subst (λ t. IsMetOnRoot has path false Defined a s t b) (sym (ap (λ v. (operation_met s path op (view_after v op)).state) none)) (met_nowhere has path false a b gone keeps same);
        reply_is = ap (λ v. progress_after (view_after v op)) (sym none);
      }

  performed_refused : (a b : SharedKnown) (e : Refusal) → KeepsSeat a.seat b.seat → b.viewers ≡ a.viewers → (e ≡ NoMemory) ⊎ ((e ≡ NotWatched) × IsUnwatchedAfter path a.seat b.seat) → IsPerformed has a path op (Err e) b
  performed_refused a b e keeps same (inl is) = performed_in_vain a b (Err e) keeps (inl same) (ap (λ x. Err x) is)
  performed_refused a b e keeps same (inr (is, gone)) = subst (λ x. IsPerformed has a path op (Err x) b) (sym is) (performed_nowhere a b gone keeps same)

  -- it was published behind a list
  performed_behind : (number : ℕ) (a b : SharedKnown) (result : Result Progress Refusal) (more : IsSeenMore number a.viewers b.viewers) (before : PublishedList) → OperatedLaw → has path number → KeepsSeat a.seat b.seat
      → Begins (with_operations before (op ∷ [])) more.new.list → IsEndOf op (with_operations before (op ∷ [])) result → IsPerformed has a path op result b
  performed_behind number a b result more before law root keeps learnt end =
      let h = history before in
      let v = of_history h [] in
      let s = one_root path v in
      let met : view_after (view_of s path) op ≡ unless (refusal h op) (of_history (after_operation h op) []) = ap (λ x. view_after x op) (view_one path v) ∙ law h [] op (made before) in
      record {
        way = Defined;
        found = s;
        by = (
          tt,
          keeps,
          inr (inr (record {
            number = number;
            root = root;
            more = more;
            before = before;
            after = with_operations before (op ∷ []);
            cursors = [];
            moved = [];
            grows = (refl, (op ∷ [], refl));
            seen = learnt;
            asked = λ asks. absurd (true≢false (sym asks));
            found = refl;
            left = ap (λ x. (operation_met s path op x).state) met ∙ left_one path h op (refusal h op) ∙ ap (λ x. one_root path (of_history x [])) (sym (history_more before op));
          })),
        );
        reply_is = reported_so before op result law end ∙ ap (λ x. progress_after (view_after x op)) (sym (view_one path v));
      }

  end_of : (list : PublishedList) (result : Result Progress Refusal) → IsEndOf op list result → EndsWith list.operations op
  end_of list (Ok p) end = end.0
  end_of list (Err e) end = end.0

  performed_on : (number : ℕ) (a b : SharedKnown) (result : Result Progress Refusal) (more : IsSeenMore number a.viewers b.viewers) (list : PublishedList) → OperatedLaw → has path number → KeepsSeat a.seat b.seat
      → Begins list more.new.list → IsEndOf op list result → IsPerformed has a path op result b
  performed_on number a b result more list law root keeps learnt end =
      let ends = end_of list result end in
      let before : PublishedList = record list { operations = ends.0 } in
      let is : list ≡ with_operations before (op ∷ []) = ap (λ (ops : List Op). record list { operations = ops }) ends.1 in
      performed_behind number a b result more before law root keeps (subst (λ l. Begins l more.new.list) is learnt) (subst (λ l. IsEndOf op l result) is end)

  performed_spent : (number : ℕ) (a b : SharedKnown) (result : Result Progress Refusal) → KeepsSeat a.seat b.seat → IsSeenMore number a.viewers b.viewers → result ≡ Err Exhausted → IsPerformed has a path op result b
  performed_spent number a b result keeps more is = record { way = Spent; found = no_root; by = (tt, keeps, inl (tt, inr (number, more))); reply_is = is }

-- ---- at the moment that it was given, or at a later one

pub not_before : (moment now given : ℕ) → moment ≡ max now given → given ≤ moment
not_before moment now given is = omega (arith, is)

-- an operation was met at a moment no earlier than it was given
pub record IsChanged (has : Path → ℕ → Type 0) (a : SharedKnown) (path : Path) (op : Op) (result : Result Progress Refusal) (b : SharedKnown) : Type 0 where
  pub moment : ℕ
  pub later : moment_given op ≤ moment
  pub way : Way
  pub found : SessionState
  pub by : IsMetOnRoot has path false way a found (state_or way (operation_outcome found path (at_moment moment op)).state found) b
  pub reply_is : result ≡ refusal_or way (progress_after (view_after (view_of found path) (at_moment moment op)))

at_another : (moment given : ℕ) (change : Change) → at_moment moment (op_at given change) ≡ op_at moment change
at_another moment given (changes.Observe pairs) = refl
at_another moment given (changes.Recrawl begun_at listing) = refl
at_another moment given (changes.AgeOut age) = refl

given_of : (given : ℕ) (change : Change) → moment_given (op_at given change) ≡ given
given_of given (changes.Observe pairs) = refl
given_of given (changes.Recrawl begun_at listing) = refl
given_of given (changes.AgeOut age) = refl

module _ (has : Path → ℕ → Type 0) (path : Path) (op : Op) where
  changed_at : (moment : ℕ) (a b : SharedKnown) (result : Result Progress Refusal) → moment_given op ≤ moment → IsPerformed has a path (at_moment moment op) result b → IsChanged has a path op result b
  changed_at moment a b result later w = record { moment = moment; later = later; way = w.way; found = w.found; by = w.by; reply_is = w.reply_is }

  -- as if at the moment that it was given
  changed_when_given : (a b : SharedKnown) (result : Result Progress Refusal) → IsPerformed has a path (at_moment (moment_given op) op) result b → IsChanged has a path op result b
  changed_when_given a b result w = changed_at (moment_given op) a b result (omega arith) w

  pub changed_refused : (a b : SharedKnown) (e : Refusal) → KeepsSeat a.seat b.seat → b.viewers ≡ a.viewers → (e ≡ NoMemory) ⊎ ((e ≡ NotWatched) × IsUnwatchedAfter path a.seat b.seat) → IsChanged has a path op (Err e) b
  changed_refused a b e keeps same refused = changed_when_given a b (Err e) (performed_refused has path (at_moment (moment_given op) op) a b e keeps same refused)

  module _ (given : ℕ) (change : Change) (of : op ≡ op_at given change) (MayRead : ℕ → Type 0) (rises : (moment : ℕ) → MayRead moment → given ≤ moment) where
    is_at : (moment : ℕ) → op_at moment change ≡ at_moment moment op
    is_at moment = sym (at_another moment given change) ∙ ap (at_moment moment) (sym of)

    is_later : (moment : ℕ) → given ≤ moment → moment_given op ≤ moment
    is_later moment le = subst (λ m. m ≤ moment) (sym (ap moment_given of ∙ given_of given change)) le

    pub changed_found : (number : ℕ) (a b : SharedKnown) (result : Result Progress Refusal) (published : Bool) → OperatedLaw → has path number → KeepsSeat a.seat b.seat
        → IsShownBy number a.viewers result b.viewers (λ old new. IsChangeSeen old MayRead change published result new) → IsChanged has a path op result b
    changed_found number a b result published law root keeps (inl (is, same)) =
        changed_when_given a b result (performed_in_vain has path (at_moment (moment_given op) op) a b result keeps (inl same) is)
    changed_found number a b result true law root keeps (inr (more, (sees, (list, moment, read, learnt, end)))) =
        let last = subst (λ o. IsEndOf o list result) (is_at moment) end in
        changed_at moment a b result (is_later moment (rises moment read)) (performed_on has path (at_moment moment op) number a b result more list law root keeps learnt last)
    changed_found number a b result false law root keeps (inr (more, (sees, inl is))) =
        changed_when_given a b result (performed_in_vain has path (at_moment (moment_given op) op) a b result keeps (inr (number, more)) is)
    changed_found number a b result false law root keeps (inr (more, (sees, inr is))) =
        changed_when_given a b result (performed_spent has path (at_moment (moment_given op) op) number a b result keeps more is)
