-- What a subscription is told keeps a client's list: it has just the matching files.
use Rattle.std.proofs.Common.{◌≡◌, ◌≤◌, Bool, true, false, cond, not, ◌&&◌, ◌||◌, List, [], ◌∷◌, length, filter, nat_lt, nat_le, ◌==◌, Option, Some, None, refl, sym, ap, subst, ◌∙◌, arith, true≢false, leb-true, lt-ltb}
use Rattle.wm_disk.specs.laws.Tests.{both_second}
use Rattle.wm_names.specs.declared.entry.Entry.{Entry}
use Rattle.wm_view.specs.declared.op.Op.{Op}
use Rattle.wm_view.specs.Files.{Paths}
use Rattle.wm_view.specs.Histories.{History, is_ready, tick_of}
use Rattle.wm_since.specs.declared.listed.Listed.{Listed}
use Rattle.wm_since.specs.declared.query.Answer.{Answer}
use Rattle.wm_since.specs.declared.query.Since.{Since}
use Rattle.wm_since.specs.declared.query.Since.TheVariants.{Clock, Moment}
use Rattle.wm_since.specs.Answers.{all_existing, answer_to, can_tell, clock_of, difference_since, is_fresh, question}
use Rattle.wm_since.specs.Clients.{files_after, is_gone, is_put, put_in}
use Rattle.wm_since.specs.Laws.{AnswersApply}
use Rattle.wm_since.specs.Matching.{matching_at}
use Rattle.wm_since.specs.Tests.{PathOnly}
use Rattle.wm_subs.specs.Subscribers.{Subscriber, after_due, due_answer, if_due, is_due_answer}
use Rattle.wm_subs.specs.Folds.{FoldsOn, HoldsAt, HoldsSince, KeepsList, RunsFold, files_told, history_after}
use Rattle.wm_subs.proofs.Staying.{matching_stays, ready_stays}

-- ---- what a client makes of an answer

-- a fresh one begins the list anew
fresh_begins : (a : Answer) (ps qs : Paths) → a.fresh ≡ true → files_after ps a ≡ files_after qs a
fresh_begins a ps qs e =
    ap (λ b. put_in (is_put a) a.files (cond b [] (filter (λ p. not (is_gone a.files p)) ps))) e
    ∙ sym (ap (λ b. put_in (is_put a) a.files (cond b [] (filter (λ p. not (is_gone a.files p)) qs))) e)

filter_all : (ps : Paths) → filter (λ p. true) ps ≡ ps
filter_all [] = refl
filter_all (p ∷ ps) = ap (λ m. p ∷ m) (filter_all ps)

-- another one without files leaves it
silent_keeps : (a : Answer) (ps : Paths) → a.fresh ≡ false → a.files ≡ [] → files_after ps a ≡ ps
silent_keeps a ps e none =
    ap (λ b. put_in (is_put a) a.files (cond b [] (filter (λ p. not (is_gone a.files p)) ps))) e
    ∙ ap (λ fs. put_in (is_put a) fs (filter (λ p. not (is_gone fs p)) ps)) none
    ∙ filter_all ps

no_files : (fs : List Listed) → nat_lt 0 (length fs) ≡ false → fs ≡ []
no_files [] e = refl
no_files (f ∷ fs) e = absurd (true≢false (sym (lt-ltb 0 (length (f ∷ fs)) (omega arith)) ∙ e))

-- ---- what isn't told is neither fresh nor has it files

quiet : (t f n : Bool) → (not t || f || n) ≡ false → (f ≡ false) × (n ≡ false)
quiet true true n e = absurd (true≢false e)
quiet true false n e = (refl, e)
quiet false f n e = absurd (true≢false e)

-- ---- the law

module _ (law : AnswersApply) (passes : Entry → Bool) (h : History) (only : PathOnly passes) where
  -- the answer with the files of a fresh one
  abbrev whole : Option Since → Answer
  whole since = answer_to passes h (record { since = since; empty_on_fresh = false })

  -- each fresh answer is that to a question from nowhere
  fresh_alike : (since : Option Since) → is_fresh h since ≡ true → whole since ≡ whole None
  fresh_alike since e = λ i. record { clock = clock_of h; fresh = e i; files = cond (e i) (all_existing h passes) (difference_since h passes since) }

  applied_on : (since : Option Since) (files : Paths) → is_fresh h since ≡ false → HoldsAt passes h since files → files_after files (whole since) ≡ matching_at h passes (tick_of h)
  applied_on None files e holds = absurd (true≢false e)
  applied_on (Some (Clock c)) files e holds = ap (λ ps. files_after ps (whole (Some (Clock c)))) holds ∙ law passes h (Some c) only
  applied_on (Some (Moment m)) files e holds = absurd holds

  applied : (since : Option Since) (files : Paths) → HoldsSince passes h since files → files_after files (whole since) ≡ matching_at h passes (tick_of h)
  applied since files holds =
      elim (is_fresh h since) as (λ b. is_fresh h since ≡ b → files_after files (whole since) ≡ matching_at h passes (tick_of h)) [
        | true ↦ λ e. ap (files_after files) (fresh_alike since e) ∙ fresh_begins (whole None) files [] refl ∙ law passes h None only
        | false ↦ λ e. applied_on since files e (holds e)
      ] refl

  -- the clock is one of this history
  stays : (since : Option Since) (files : Paths) → is_fresh h since ≡ false → HoldsAt passes h since files → (ops : List Op) → HoldsAt passes (history_after h ops) since files
  stays None files e holds ops = absurd (true≢false e)
  stays (Some (Moment m)) files e holds ops = absurd holds
  stays (Some (Clock c)) files e holds ops =
      let told : can_tell h c ≡ true = not_false (can_tell h c) e in
      let low : c.tick ≤ tick_of h = leb-true c.tick (tick_of h) (both_second ((c.incarnation == h.incarnation) && (c.root == h.root) && nat_le h.floor c.tick) (nat_le c.tick (tick_of h)) told) in
      holds ∙ matching_stays passes h ops c.tick low
    where
      not_false : (b : Bool) → not b ≡ false → b ≡ true
      not_false true q = refl
      not_false false q = absurd (true≢false q)

  -- the list is kept, where an answer was told or not
  kept : (since : Option Since) (files : Paths) (due : Bool) → HoldsSince passes h since files
      → (due ≡ false → (is_fresh h since ≡ false) × ((whole since).files ≡ []))
      → (next : Option Since) → next ≡ cond due (Some (Clock (clock_of h))) since
      → KeepsList passes h next (files_told files (cond due (Some (whole since)) None))
  kept since files true holds silent next e = record {
    now = applied since files holds;
    later = λ ops _. subst (λ o. HoldsAt passes (history_after h ops) o (files_after files (whole since))) (sym e) (applied since files holds ∙ matching_stays passes h ops (tick_of h) (omega arith));
  }
  kept since files false holds silent next e =
      let off : is_fresh h since ≡ false = (silent refl).0 in
      record {
        now = sym (silent_keeps (whole since) files off (silent refl).1) ∙ applied since files holds;
        later = λ ops _. subst (λ o. HoldsAt passes (history_after h ops) o files) (sym e) (stays since files off (holds off) ops);
      }

next_since : {T : Type 0} (s : Subscriber T) (a : Answer) (b : Bool) → (after_due s (cond b (Some a) None)).query.since ≡ cond b (Some (Clock a.clock)) s.query.since
next_since s a true = refl
next_since s a false = refl

-- what is told of a ready view
told_ready : {T : Type 0} (passes : Entry → Bool) (h : History) (s : Subscriber T) → is_ready h ≡ true → due_answer passes h s ≡ if_due s (answer_to passes h (question s.query))
told_ready passes h s ready = ap (λ b. cond b (if_due s (answer_to passes h (question s.query))) None) ready

pub folds : {T : Type 0} → AnswersApply → (passes : Entry → Bool) (h : History) (s : Subscriber T) (o : Option Answer) → o ≡ due_answer passes h s → FoldsOn passes h s o (after_due s o)
folds {T} law passes h s o told only off ready files holds =
    let a : Answer = answer_to passes h (record { since = s.query.since; empty_on_fresh = false }) in
    let due : Bool = is_due_answer s a in
    let is : o ≡ cond due (Some a) None = told ∙ told_ready passes h s ready ∙ ap (λ b. if_due s (answer_to passes h (record { since = s.query.since; empty_on_fresh = b }))) off in
    let end : KeepsList passes h (after_due s (cond due (Some a) None)).query.since (files_told files (cond due (Some a) None)) =
    kept law passes h only s.query.since files due holds
    (λ e. let both = quiet s.is_told a.fresh (nat_lt 0 (length a.files)) e in (both.0, no_files a.files both.1))
    (after_due s (cond due (Some a) None)).query.since (next_since s a due) in
    subst (λ (p : Option Answer). KeepsList passes h (after_due s p).query.since (files_told files p)) (sym is) end

-- ---- over a whole run

asks_whole : {T : Type 0} (s : Subscriber T) (o : Option Answer) → (after_due s o).query.empty_on_fresh ≡ s.query.empty_on_fresh
asks_whole s None = refl
asks_whole s (Some a) = refl

pub run_folds : {T : Type 0} → AnswersApply → RunsFold T
run_folds {T} law passes h s files [] only off ready holds = (folds law passes h s (due_answer passes h s) refl only off ready files holds).now
run_folds {T} law passes h s files (ops ∷ more) only off ready holds =
    let o : Option Answer = due_answer passes h s in
    run_folds law passes (history_after h ops) (after_due s o) (files_told files o) more only (asks_whole s o ∙ off) (ready_stays h ops ready)
    ((folds law passes h s o refl only off ready files holds).later ops)
