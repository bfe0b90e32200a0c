-- A round of a root's triggers, one definition after another.
use Rattle.std.proofs.Common.{◌≡◌, ◌⊎◌, inl, inr, ◌<◌, ◌+◌, ℕ, List, [], ◌∷◌, ◌++◌, length, Option, Some, None, Result, Ok, Err, OnOk, map, refl, sym, ap, subst, arith, ◌∙◌, append_assoc, append-nil, length-append}
use Rattle.std.specs.Prelude.{slice_get}
use Rattle.std.specs.Option.{MatchOption}
use mathlib.Core.List.{IsPrefix}
use Rattle.wm_names.specs.Paths.{Path}
use Rattle.wm_registry.specs.Triggers.{Definition}
use Rattle.wm_clock.specs.declared.clock_id.ClockId.{ClockId}
use Rattle.wm_view.specs.declared.op.Op.{Op}
use Rattle.wm_view.specs.Histories.{History}
use Rattle.wm_since.specs.declared.query.Answer.{Answer}
use Rattle.wm_share.specs.PublishedLists.{Begins, PublishedList, history}
use Rattle.wm_triggers.specs.KeptRuns.{KeptRuns, kept_for, started_at}
use Rattle.wm_triggers.specs.declared.defined_trigger.DefinedTrigger.{DefinedTrigger}
use Rattle.wm_workers.specs.TriggerWork.{EachInTurn, RunsAt, RunsDefined, RunsIfDue, RunsOrStays, due_for}

-- ---- published lists

longer_op : (a b c : List Op) → IsPrefix a b → IsPrefix b c → IsPrefix a c
longer_op a b c x y = (x.0 ++ y.0, sym (append_assoc a x.0 y.0) ∙ ap (λ (l : List Op). l ++ y.0) x.1 ∙ y.1)

longer : (a b c : PublishedList) → Begins a b → Begins b c → Begins a c
longer a b c x y = (x.0 ∙ y.0, longer_op a.operations b.operations c.operations x.1 y.1)

same_list : (a : PublishedList) → Begins a a
same_list a = (refl, ([], append-nil a.operations))

-- ---- one more in its turn

turn_on : (Turn : History → KeptRuns → KeptRuns → Type 0) (seen : PublishedList) (olds news : List KeptRuns) (mid last : PublishedList) (o n : KeptRuns)
    → EachInTurn Turn seen olds news mid → Begins mid last → Turn (history last) o n → EachInTurn Turn seen (olds ++ o ∷ []) (news ++ n ∷ []) last
turn_on Turn seen [] [] mid last o n h on turn = (last, longer seen mid last h on, turn, same_list last)
turn_on Turn seen [] (m ∷ news) mid last o n h on turn = absurd h
turn_on Turn seen (p ∷ olds) [] mid last o n h on turn = absurd h
turn_on Turn seen (p ∷ olds) (m ∷ news) mid last o n h on turn = (h.0, h.1, h.2, turn_on Turn h.0 olds news mid last o n h.3 on turn)

-- the first ones are done, so many; the others are as they were
pub record IsPartDone (Turn : History → KeptRuns → KeptRuns → Type 0) (seen last : PublishedList) (all : List KeptRuns) (place : ℕ) (now : List KeptRuns) : Type 0 where
  pub before : List KeptRuns
  pub after : List KeptRuns
  pub rest : List KeptRuns
  pub parted : all ≡ before ++ rest
  pub now_is : now ≡ after ++ rest
  pub count : length before ≡ place
  pub counted : length after ≡ place
  pub done : EachInTurn Turn seen before after last

pub none_done : (Turn : History → KeptRuns → KeptRuns → Type 0) (seen : PublishedList) (all : List KeptRuns) → IsPartDone Turn seen seen all 0 all
none_done Turn seen all = record { before = []; after = []; rest = all; parted = refl; now_is = refl; count = refl; counted = refl; done = same_list seen }

-- what the one at the place becomes
abbrev pub IsTurned : (Turn : History → KeptRuns → KeptRuns → Type 0) (h : History) (place : ℕ) (now new : List KeptRuns) → Type 0
IsTurned Turn h place now new =
    (o : KeptRuns) (after os : List KeptRuns) → now ≡ after ++ o ∷ os → length after ≡ place → (n : KeptRuns) × Turn h o n × (new ≡ after ++ n ∷ os)

one_longer : (xs : List KeptRuns) (x : KeptRuns) (place : ℕ) → length xs ≡ place → length (xs ++ x ∷ []) ≡ place + 1
one_longer xs x place e = length-append xs (x ∷ []) ∙ ap (λ n. n + 1) e

next_of : (Turn : History → KeptRuns → KeptRuns → Type 0) (seen mid last : PublishedList) (all : List KeptRuns) (place : ℕ) (now new before after rest : List KeptRuns)
    → all ≡ before ++ rest → now ≡ after ++ rest → length before ≡ place → length after ≡ place → EachInTurn Turn seen before after mid
    → place < length all → Begins mid last → IsTurned Turn (history last) place now new → IsPartDone Turn seen last all (place + 1) new
next_of Turn seen mid last all place now new before after [] parted now_is count counted done lt on turned =
    let whole : length all ≡ place = ap length (parted ∙ append-nil before) ∙ count in
    absurd (omega (arith, lt, whole))
next_of Turn seen mid last all place now new before after (o ∷ os) parted now_is count counted done lt on turned =
    let t = turned o after os now_is counted in
    record {
      before = before ++ o ∷ [];
      after = after ++ t.0 ∷ [];
      rest = os;
      parted = parted ∙ sym (append_assoc before (o ∷ []) os);
      now_is = t.2 ∙ sym (append_assoc after (t.0 ∷ []) os);
      count = one_longer before o place count;
      counted = one_longer after t.0 place counted;
      done = turn_on Turn seen before after mid last o t.0 done on t.1;
    }

pub next_done : (Turn : History → KeptRuns → KeptRuns → Type 0) (seen mid last : PublishedList) (all : List KeptRuns) (place : ℕ) (now new : List KeptRuns)
    → IsPartDone Turn seen mid all place now → place < length all → Begins mid last → IsTurned Turn (history last) place now new → IsPartDone Turn seen last all (place + 1) new
next_done Turn seen mid last all place now new d lt on turned =
    next_of Turn seen mid last all place now new d.before d.after d.rest d.parted d.now_is d.count d.counted d.done lt on turned

all_of : (Turn : History → KeptRuns → KeptRuns → Type 0) (seen last : PublishedList) (all now before after rest : List KeptRuns)
    → all ≡ before ++ rest → now ≡ after ++ rest → length before ≡ length all → EachInTurn Turn seen before after last → EachInTurn Turn seen all now last
all_of Turn seen last all now before after [] parted now_is count done =
    subst (λ xs. EachInTurn Turn seen xs now last) (sym (parted ∙ append-nil before)) (subst (λ ys. EachInTurn Turn seen before ys last) (sym (now_is ∙ append-nil after)) done)
all_of Turn seen last all now before after (o ∷ os) parted now_is count done =
    let more = ap length parted ∙ length-append before (o ∷ os) in
    absurd (omega (arith, more, count))

pub all_done : (Turn : History → KeptRuns → KeptRuns → Type 0) (seen last : PublishedList) (all : List KeptRuns) (place : ℕ) (now : List KeptRuns)
    → IsPartDone Turn seen last all place now → place ≡ length all → EachInTurn Turn seen all now last
all_done Turn seen last all place now d e = all_of Turn seen last all now d.before d.after d.rest d.parted d.now_is (d.count ∙ e) d.done

-- ---- what a turn does

got_at : (after : List KeptRuns) (o : KeptRuns) (os : List KeptRuns) → slice_get (after ++ o ∷ os) (length after) ≡ Some o
got_at [] o os = refl
got_at (x ∷ after) o os = got_at after o os

started_there : (after : List KeptRuns) (o : KeptRuns) (os : List KeptRuns) (clock : ClockId) → started_at (length after) clock (after ++ o ∷ os) ≡ after ++ record o { last = Some clock } ∷ os
started_there [] o os clock = refl
started_there (x ∷ after) o os clock = ap (λ l. x ∷ l) (started_there after o os clock)

some-same : {X : Type 0} (x y : X) → Some x ≡ Some y → x ≡ y
some-same {X} x y e = ap (λ (o : Option X). elim o as (λ _. X) [ None ↦ x | Some z ↦ z ]) e

-- by the run that is due, if there is one
by_due : (has_run : Path → Definition → Answer → Type 0) (root : Path) (o : KeptRuns) (after os new : List KeptRuns) (due : Option Answer)
    → MatchOption due (new ≡ after ++ o ∷ os) (λ run. has_run root o.trigger run × (new ≡ started_at (length after) run.clock (after ++ o ∷ os)))
    → (n : KeptRuns) × MatchOption due (n ≡ o) (λ run. has_run root o.trigger run × (n ≡ record o { last = Some run.clock })) × (new ≡ after ++ n ∷ os)
by_due has_run root o after os new None h = (o, refl, h)
by_due has_run root o after os new (Some run) h = (record o { last = Some run.clock }, (h.0, refl), h.1 ∙ started_there after o os run.clock)

pub turn_ran : (has_run : Path → Definition → Answer → Type 0) (root : Path) (h : History) (place : ℕ) (now new : List KeptRuns)
    → RunsAt has_run root h place now new → IsTurned (RunsIfDue has_run root) h place now new
turn_ran has_run root h place now new ran o after os is count =
    let one = some-same o ran.0 (sym (got_at after o os) ∙ ap (λ k. slice_get (after ++ o ∷ os) k) count ∙ ap (λ l. slice_get l place) (sym is) ∙ ran.1) in
    let there = subst (λ k. MatchOption (due_for k h) (new ≡ now) (λ run. has_run root k.trigger run × (new ≡ started_at place run.clock now))) (sym one) ran.2 in
    let now_is = subst (λ l. MatchOption (due_for o h) (new ≡ l) (λ run. has_run root o.trigger run × (new ≡ started_at place run.clock l))) is there in
    by_due has_run root o after os new (due_for o h)
    (subst (λ k. MatchOption (due_for o h) (new ≡ after ++ o ∷ os) (λ run. has_run root o.trigger run × (new ≡ started_at k run.clock (after ++ o ∷ os)))) (sym count) now_is)

pub turn_ran_or : (has_run : Path → Definition → Answer → Type 0) (root : Path) (h : History) (place : ℕ) (now new : List KeptRuns)
    → RunsAt has_run root h place now new → IsTurned (RunsOrStays has_run root) h place now new
turn_ran_or has_run root h place now new ran o after os is count =
    let t = turn_ran has_run root h place now new ran o after os is count in (t.0, inl t.1, t.2)

pub turn_stays : (has_run : Path → Definition → Answer → Type 0) (root : Path) (h : History) (place : ℕ) (now new : List KeptRuns)
    → new ≡ now → IsTurned (RunsOrStays has_run root) h place now new
turn_stays has_run root h place now new same o after os is count = (o, inr refl, same ∙ is)

pub on_ok : {A B E : Type 0} (r : Result (Unit {0}) E) → OnOk r A → (A → B) → OnOk r B
on_ok (Ok done) a f = f a
on_ok (Err refusal) a f = tt

pub refused_ok : {E : Type 0} (A : Type 0) (refusal : E) (r : Result (Unit {0}) E) → r ≡ Err refusal → OnOk r A
refused_ok A refusal r e = subst (λ t. OnOk t A) (sym e) tt

-- ---- a round on a list that begins with an earlier one

pub from_earlier : (Turn : History → KeptRuns → KeptRuns → Type 0) (seen mid last : PublishedList) (olds news : List KeptRuns)
    → Begins seen mid → EachInTurn Turn mid olds news last → EachInTurn Turn seen olds news last
from_earlier Turn seen mid last [] [] on h = longer seen mid last on h
from_earlier Turn seen mid last [] (n ∷ news) on h = absurd h
from_earlier Turn seen mid last (o ∷ olds) [] on h = absurd h
from_earlier Turn seen mid last (o ∷ olds) (n ∷ news) on h = (h.0, longer seen mid h.0 on h.1, h.2, h.3)

-- ---- the triggers that were defined at some moment

pub each_defined : (Turn : History → KeptRuns → KeptRuns → Type 0) (seen mid last : PublishedList) (defined : List DefinedTrigger) (old news : List KeptRuns)
    → Begins seen mid → (news ≡ old) ⊎ EachInTurn Turn mid (map (kept_for old) defined) news last → (news ≡ old) ⊎ RunsDefined Turn seen old news last
each_defined Turn seen mid last defined old news on (inl same) = inl same
each_defined Turn seen mid last defined old news on (inr each) = inr (defined, from_earlier Turn seen mid last (map (kept_for old) defined) news on each)

pub ok_defined : {E : Type 0} (Turn : History → KeptRuns → KeptRuns → Type 0) (seen mid last : PublishedList) (defined : List DefinedTrigger) (old news : List KeptRuns) (ended : Result (Unit {0}) E)
    → Begins seen mid → OnOk ended (EachInTurn Turn mid (map (kept_for old) defined) news last) → OnOk ended (RunsDefined Turn seen old news last)
ok_defined Turn seen mid last defined old news ended on ok =
    on_ok ended ok (λ each. (defined, from_earlier Turn seen mid last (map (kept_for old) defined) news on each))
