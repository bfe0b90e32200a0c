-- Runs that go on, line by line.
use Rattle.std.proofs.Common.{◌≡◌, ◌≢◌, ℕ, ◌+◌, ◌<◌, ◌≤◌, List, [], ◌∷◌, ◌++◌, length, Bool, true, false, cond, Option, Some, None, Result, Ok, Err, refl, sym, ap, ◌∙◌, arith, append_assoc, subst}
use Rattle.std.proofs.lemmas.List.{append-nil, length-append}
use Rattle.std.specs.Prelude.{OnErr}
use Rattle.std.specs.Io.BufRead.{take_through, drop_through}
use Rattle.std.specs.Io.KnownBytes.{Appends}
use Rattle.wm_disk.specs.Counters.{max_counter}
use Rattle.wm_session.specs.session.Inputs.{lines_of}
use Rattle.wm_registry.specs.declared.command.Command.{Command}
use Rattle.wm_session.specs.session.Asked.{asked_by, asked_in}
use Rattle.wm_lines.specs.Lines.{request_of_line}
use Rattle.wm_lines.specs.Replies.{reply_bytes}
use Rattle.wm_session.specs.session.Sessions.{SessionState, WithSubscriptions, SubscriptionList, line_met, subscriptions_after}
use Rattle.wm_session.specs.session.Dues.{after_due_lines, after_line, after_telling, after_told, are_all_found, due_in, due_line, due_lines, line_bytes, told_lines}
use Rattle.wm_session.specs.session.Faults.{FrontState, Meeting, faults_at, seen, subscriptions_told, told_by, Way, Defined, Device, Memory, Spent, HasCause, Lasts, RepliesTo, faults_of, state_or}
use Rattle.wm_session.specs.session.Runs.{RunsLines, HandlesPrefix, Served, ServedCleanly, Serves, Untold, output_of, state_after, faults_in}
use Rattle.wm_session.specs.declared.session.input.LineRead.{LineRead}
use Rattle.wm_session.specs.declared.session.input.LineRead.TheVariants as reads
use Rattle.wm_session.specs.session.Reading.{ReadsLine, IsReadOf}
use Rattle.wm_session.proofs.lemmas.session.LongLines.{lines_of-next}
use Rattle.wm_session.specs.session.RunLaws.{appends-then, asked_behind}

appends-none : (a : Option (List ℕ)) → Appends a a []
appends-none None = tt
appends-none (Some a) = sym (append-nil a)

-- ---- a run without faults is the defined one

lasts : (way : Way) (accepts : Bool) (old new : FrontState) → HasCause way accepts old new → Lasts old new
lasts Defined accepts old new c = c
lasts Device accepts old new c = c.2
lasts Memory accepts old new c = c.0
lasts Spent accepts old new c = c.1

-- no line takes the slot's number back
rises : (old : WithSubscriptions FrontState) (moment : ℕ → ℕ) (k : ℕ) (lines : List (List ℕ)) (ways : List Meeting) (bytes : List ℕ) (new : WithSubscriptions FrontState) → RunsLines old moment k lines ways bytes new → old.front.number ≤ new.front.number
rises old moment k [] [] bytes new r = omega (arith, ap (λ (s : WithSubscriptions FrontState). s.front.number) r.1)
rises old moment k [] (way ∷ ways) bytes new r = absurd r
rises old moment k (line ∷ lines) [] bytes new r = absurd r
rises old moment k (line ∷ lines) (way ∷ ways) bytes new r =
    let here : Lasts old.front r.2.front = lasts way.way (line_met (seen old) (moment k) line).accepts old.front r.2.front r.4.cause in
    omega (arith, here.number, rises r.2 moment (k + 1) lines ways r.1 new r.5)

-- without a fault, and where the number isn't spent, a line was answered as it is defined
no_faults : (way : Way) (accepts : Bool) (old new : FrontState) → faults_of way ≡ 0 → HasCause way accepts old new → new.number < max_counter → way ≡ Defined
no_faults Defined accepts old new e c below = refl
no_faults Device accepts old new e c below = absurd (omega arith)
no_faults Memory accepts old new e c below = absurd (omega arith)
no_faults Spent accepts old new e c below = absurd (omega (arith, c.3, below))

-- and each line that was due after it was told
no_fault_at : (way : Way) (found : Bool) → cond found (faults_of way) 1 ≡ 0 → (faults_of way ≡ 0) × (found ≡ true)
no_fault_at way true e = (e, refl)
no_fault_at way false e = absurd (omega (arith, e))

all_lines : (s : SessionState) (finds : List Bool) (xs : SubscriptionList) → length finds ≡ length xs → are_all_found finds ≡ true → told_lines s finds xs ≡ due_lines s xs
all_lines s [] [] n e = refl
all_lines s [] (x ∷ xs) n e = absurd (omega (arith, n))
all_lines s (b ∷ finds) [] n e = absurd (omega (arith, n))
all_lines s (true ∷ finds) (x ∷ xs) n e = ap (λ (l : List ℕ). due_line x (due_in s x) ++ l) (all_lines s finds xs (omega (arith, n)) e)
all_lines s (false ∷ finds) (x ∷ xs) n e = absurd cc

all_after : (s : SessionState) (finds : List Bool) (xs : SubscriptionList) → length finds ≡ length xs → are_all_found finds ≡ true → after_told s finds xs ≡ after_due_lines s xs
all_after s [] [] n e = refl
all_after s [] (x ∷ xs) n e = absurd (omega (arith, n))
all_after s (b ∷ finds) [] n e = absurd (omega (arith, n))
all_after s (true ∷ finds) (x ∷ xs) n e = ap (λ (l : SubscriptionList). after_telling x (due_in s x) ∷ l) (all_after s finds xs (omega (arith, n)) e)
all_after s (false ∷ finds) (x ∷ xs) n e = absurd cc

clean_line : (meeting : Meeting) (old next : WithSubscriptions FrontState) (moment : ℕ) (line prefix : List ℕ) → meeting.way ≡ Defined → are_all_found meeting.finds ≡ true → RepliesTo meeting old moment line prefix next
    → (prefix ≡ line_bytes (seen old) moment line) × (seen next ≡ after_line (seen old) moment line)
clean_line meeting old next moment line prefix e all a =
    let here = line_met (seen old) moment line in
    let left : SubscriptionList = subscriptions_after here.reply (seen old) (request_of_line line) in
    let state : next.front.state ≡ here.state = a.state_is ∙ ap (λ (w : Way). state_or w here.state old.front.state) e in
    let subs : subscriptions_told meeting.way old moment line ≡ left = ap (λ (w : Way). subscriptions_told w old moment line) e in
    let lines = all_lines next.front.state meeting.finds (subscriptions_told meeting.way old moment line) a.marks all in
    let after = all_after next.front.state meeting.finds (subscriptions_told meeting.way old moment line) a.marks all in (
      a.bytes_are ∙ ap (λ (l : List ℕ). reply_bytes (told_by meeting.way old moment line) ++ l) lines
          ∙ ap (λ (w : Way). reply_bytes (told_by w old moment line) ++ due_lines next.front.state (subscriptions_told w old moment line)) e
          ∙ ap (λ (s : SessionState). reply_bytes here.reply ++ due_lines s left) state,
      λ i. record { front = state i; subscriptions = (a.subscriptions_are ∙ after ∙ ap (λ (l : SubscriptionList). after_due_lines next.front.state l) subs ∙ ap (λ (s : SessionState). after_due_lines s left) state) i },
    )

clean : (old : WithSubscriptions FrontState) (moment : ℕ → ℕ) (k : ℕ) (lines : List (List ℕ)) (ways : List Meeting) (bytes : List ℕ) (new : WithSubscriptions FrontState) → faults_in ways ≡ 0 → new.front.number < max_counter → RunsLines old moment k lines ways bytes new
    → (bytes ≡ output_of (seen old) moment k lines) × (seen new ≡ state_after (seen old) moment k lines)
clean old moment k [] [] bytes new none below r = (r.0, ap (λ (s : WithSubscriptions FrontState). seen s) r.1)
clean old moment k [] (way ∷ ways) bytes new none below r = absurd r
clean old moment k (line ∷ lines) [] bytes new none below r = absurd r
clean old moment k (line ∷ lines) (way ∷ ways) bytes new none below r =
    let next : r.2.front.number < max_counter = omega (arith, below, rises r.2 moment (k + 1) lines ways r.1 new r.5) in
    let fine = no_fault_at way.way (are_all_found way.finds) (omega (arith, none)) in
    let here = clean_line way old r.2 (moment k) line r.0 (no_faults way.way (line_met (seen old) (moment k) line).accepts old.front r.2.front fine.0 r.4.cause next) fine.1 r.4 in
    let rest = clean r.2 moment (k + 1) lines ways r.1 new (omega (arith, none)) below r.5 in (
      r.3 ∙ ap (λ (t : List ℕ). t ++ r.1) here.0 ∙ ap (λ (t : List ℕ). line_bytes (seen old) (moment k) line ++ t) (rest.0 ∙ ap (λ (s : WithSubscriptions SessionState). output_of s moment (k + 1) lines) here.1),
      rest.1 ∙ ap (λ (s : WithSubscriptions SessionState). state_after s moment (k + 1) lines) here.1,
    )

-- ---- the loop

-- what holds in any case holds of an error
pub on_err : {T E P : Type 0} (r : Result T E) → P → OnErr r P
on_err (Ok t) p = tt
on_err (Err e) p = p

-- a run of one line more
run_more : (old : WithSubscriptions FrontState) (moment : ℕ → ℕ) (k : ℕ) (met : List (List ℕ)) (ways : List Meeting) (bytes : List ℕ) (now : WithSubscriptions FrontState) (line : List ℕ) (way : Meeting) (prefix : List ℕ) (next : WithSubscriptions FrontState)
    → RunsLines old moment k met ways bytes now → RepliesTo way now (moment (k + length met)) line prefix next
    → RunsLines old moment k (met ++ line ∷ []) (ways ++ way ∷ []) (bytes ++ prefix) next
run_more old moment k [] [] bytes now line way prefix next r a =
    let at_k : RepliesTo way now (moment k) line prefix next = subst (λ (m : ℕ). RepliesTo way now (moment m) line prefix next) (omega arith) a in
    let from_old : RepliesTo way old (moment k) line prefix next = subst (λ (s : WithSubscriptions FrontState). RepliesTo way s (moment k) line prefix next) r.1 at_k in
    (prefix, [], next, ap (λ (t : List ℕ). t ++ prefix) r.0 ∙ sym (append-nil prefix), from_old, (refl, refl))
run_more old moment k [] (w ∷ ways) bytes now line way prefix next r a = absurd r
run_more old moment k (l ∷ met) [] bytes now line way prefix next r a = absurd r
run_more old moment k (l ∷ met) (w ∷ ways) bytes now line way prefix next r a =
    let later : RepliesTo way now (moment (k + 1 + length met)) line prefix next = subst (λ (m : ℕ). RepliesTo way now (moment m) line prefix next) (omega arith) a in
    (r.0, r.1 ++ prefix, r.2, ap (λ (t : List ℕ). t ++ prefix) r.3 ∙ append_assoc r.0 r.1 prefix, r.4, run_more r.2 moment (k + 1) met ways r.1 now line way prefix next r.5 later)

-- the lines of the input in front of the rest were met
pub record Underway (old : WithSubscriptions FrontState) (moment : ℕ → ℕ) (input : List ℕ) (asked : List Command) (ways : List Meeting) (now : WithSubscriptions FrontState) (place : ℕ) (rest written : List ℕ) : Type 0 where
  pub met : List (List ℕ)
  pub asked_is : asked ≡ asked_in met
  pub lines : lines_of input ≡ met ++ lines_of rest
  pub place_is : place ≡ length met
  pub run : RunsLines old moment 0 met ways written now

-- one line more is asked
asked_next : (met : List (List ℕ)) (line : List ℕ) → asked_in (met ++ line ∷ []) ≡ asked_in met ++ asked_by (request_of_line line)
asked_next met line = asked_behind met (line ∷ []) ∙ ap (λ (l : List Command). asked_in met ++ l) (append-nil (asked_by (request_of_line line)))

one_more : (old : WithSubscriptions FrontState) (moment : ℕ → ℕ) (input : List ℕ) (asked : List Command) (ways : List Meeting) (now next : WithSubscriptions FrontState) (place : ℕ) (rest written prefix : List ℕ) (way : Meeting)
    → Underway old moment input asked ways now place rest written → rest ≢ [] → RepliesTo way now (moment place) (take_through 10 rest) prefix next
    → Underway old moment input (asked ++ asked_by (request_of_line (take_through 10 rest))) (ways ++ way ∷ []) next (place + 1) (drop_through 10 rest) (written ++ prefix)
one_more old moment input asked ways now next place rest written prefix way u ne a =
    let line : List ℕ = take_through 10 rest in
    let here : RepliesTo way now (moment (0 + length u.met)) line prefix next = subst (λ (m : ℕ). RepliesTo way now (moment m) line prefix next) (omega (arith, u.place_is)) a in
    record {
      met = u.met ++ line ∷ [];
      asked_is = ap (λ (l : List Command). l ++ asked_by (request_of_line line)) u.asked_is ∙ sym (asked_next u.met line);
      lines = u.lines ∙ ap (λ (ls : List (List ℕ)). u.met ++ ls) (lines_of-next rest ne) ∙ sym (append_assoc u.met (line ∷ []) (lines_of (drop_through 10 rest)));
      place_is = omega (arith, u.place_is, length-append u.met (line ∷ []));
      run = run_more old moment 0 u.met ways written now line way prefix next u.run here;
    }

-- a run that is underway is cut
cut : (old : WithSubscriptions FrontState) (moment : ℕ → ℕ) (input : List ℕ) (asked : List Command) (ways : List Meeting) (now : WithSubscriptions FrontState) (place : ℕ) (rest written : List ℕ) → Underway old moment input asked ways now place rest written → HandlesPrefix old moment input asked now
cut old moment input asked ways now place rest written u = record { met = u.met; more = lines_of rest; lines = u.lines; asked_is = u.asked_is; meetings = ways; bytes = written; run = u.run }

sum-one : (ways : List Meeting) (way : Meeting) → faults_in (ways ++ way ∷ []) ≡ faults_in ways + faults_at way
sum-one [] way = omega arith
sum-one (w ∷ ways) way = omega (arith, sum-one ways way)

-- one turn
pub record Loop (old : WithSubscriptions FrontState) (moment : ℕ → ℕ) (input : List ℕ) (asked : List Command) (held : Option (List ℕ)) (faults : ℕ) (now : WithSubscriptions FrontState) (place : ℕ) (left holds : Option (List ℕ)) : Type 0 where
  pub meetings : List Meeting
  pub rest : List ℕ
  pub written : List ℕ
  pub faults_are : faults ≡ faults_in meetings
  pub left_is : left ≡ Some rest
  pub appends : Appends held holds written
  pub underway : Underway old moment input asked meetings now place rest written

pub begins : (old : WithSubscriptions FrontState) (moment : ℕ → ℕ) (input : List ℕ) (held left : Option (List ℕ)) (place : ℕ) → place ≡ 0 → left ≡ Some input → Loop old moment input [] held 0 old place left held
begins old moment input held left place first e = record {
  meetings = [];
  rest = input;
  written = [];
  faults_are = refl;
  left_is = e;
  appends = appends-none held;
  underway = record { met = []; asked_is = refl; lines = refl; place_is = first; run = (refl, refl) };
}

-- what was read of a line that is there, and the rest
some_line : (reading : LineRead) (kept rest : List ℕ) (left' : Option (List ℕ)) → reading ≢ reads.End → ReadsLine rest reading kept left'
    → (rest ≢ []) × IsReadOf reading kept (take_through 10 rest) × (left' ≡ Some (drop_through 10 rest))
some_line reads.Kept kept rest left' more r = r
some_line reads.Lost kept rest left' more r = (r.0, tt, r.1)
some_line reads.End kept rest left' more r = absurd (more refl)

pub turns : (old : WithSubscriptions FrontState) (moment now_moment : ℕ → ℕ) (input : List ℕ) (asked : List Command) (held : Option (List ℕ)) (faults : ℕ) (now next : WithSubscriptions FrontState) (place place' m n : ℕ) (left left' holds holds' : Option (List ℕ)) (reading : LineRead) (kept : List ℕ)
    → Loop old moment input asked held faults now place left holds
    → reading ≢ reads.End → ((rest : List ℕ) → left ≡ Some rest → ReadsLine rest reading kept left')
    → now_moment ≡ moment → m ≡ now_moment place → place' ≡ place + 1
    → ((whole : List ℕ) → IsReadOf reading kept whole → Serves now m whole n holds holds' next)
    → (Leads : List Command → Type 0) → ((whole : List ℕ) → IsReadOf reading kept whole → Leads (asked ++ asked_by (request_of_line whole)))
    → (next_asked : List Command) × Loop old moment input next_asked held (faults + n) next place' left' holds' × Leads next_asked
turns old moment now_moment input asked held faults now next place place' m n left left' holds holds' reading kept l more read same m_is place_is serves Leads leads =
    let r = some_line reading kept l.rest left' more (read l.rest l.left_is) in
    let s = serves (take_through 10 l.rest) r.1 in
    let m_at : m ≡ moment place = m_is ∙ ap (λ (f : ℕ → ℕ). f place) same in
    let a : RepliesTo s.meeting now (moment place) (take_through 10 l.rest) s.bytes next = rw (← m_at) s.answers in (
      asked ++ asked_by (request_of_line (take_through 10 l.rest)),
      record {
        meetings = l.meetings ++ s.meeting ∷ [];
        rest = drop_through 10 l.rest;
        written = l.written ++ s.bytes;
        faults_are = omega (arith, l.faults_are, s.faults_are, sum-one l.meetings s.meeting);
        left_is = r.2;
        appends = appends-then held holds holds' l.written s.bytes l.appends s.appends;
        underway = rw place_is (one_more old moment input asked l.meetings now next place l.rest l.written s.bytes s.meeting l.underway r.0 a);
      },
      leads (take_through 10 l.rest) r.1,
    )

pub ends : (old : WithSubscriptions FrontState) (moment : ℕ → ℕ) (input : List ℕ) (asked : List Command) (held : Option (List ℕ)) (faults : ℕ) (now : WithSubscriptions FrontState) (place : ℕ) (left holds : Option (List ℕ)) (reading : LineRead) (kept : List ℕ) (left' : Option (List ℕ))
    → Loop old moment input asked held faults now place left holds → reading ≡ reads.End → ((rest : List ℕ) → left ≡ Some rest → ReadsLine rest reading kept left')
    → Served old moment 0 input faults held holds now
ends old moment input asked held faults now place left holds reading kept left' l end read =
    let none : l.rest ≡ [] = rw end at (read l.rest l.left_is) in
    let all : lines_of input ≡ l.underway.met = l.underway.lines ∙ ap (λ (t : List ℕ). l.underway.met ++ lines_of t) none ∙ append-nil l.underway.met in
    record {
      meetings = l.meetings;
      bytes = l.written;
      run = subst (λ (ls : List (List ℕ)). RunsLines old moment 0 ls l.meetings l.written now) (sym all) l.underway.run;
      faults_are = l.faults_are;
      appends = l.appends;
    }

-- a prefix of the lines was met
pub breaks : (old : WithSubscriptions FrontState) (moment : ℕ → ℕ) (input : List ℕ) (asked : List Command) (held : Option (List ℕ)) (faults : ℕ) (now : WithSubscriptions FrontState) (place : ℕ) (left holds : Option (List ℕ)) → Loop old moment input asked held faults now place left holds → HandlesPrefix old moment input asked now
breaks old moment input asked held faults now place left holds l = cut old moment input asked l.meetings now place l.rest l.written l.underway

-- the writer failed
pub breaks_untold : (old : WithSubscriptions FrontState) (moment now_moment : ℕ → ℕ) (input : List ℕ) (asked : List Command) (held : Option (List ℕ)) (faults : ℕ) (now next : WithSubscriptions FrontState) (place m : ℕ) (left left' holds : Option (List ℕ)) (reading : LineRead) (kept : List ℕ)
    → Loop old moment input asked held faults now place left holds
    → reading ≢ reads.End → ((rest : List ℕ) → left ≡ Some rest → ReadsLine rest reading kept left')
    → now_moment ≡ moment → m ≡ now_moment place
    → ((whole : List ℕ) → IsReadOf reading kept whole → Untold now m whole next)
    → (Leads : List Command → Type 0) → ((whole : List ℕ) → IsReadOf reading kept whole → Leads (asked ++ asked_by (request_of_line whole)))
    → (next_asked : List Command) × HandlesPrefix old moment input next_asked next × Leads next_asked
breaks_untold old moment now_moment input asked held faults now next place m left left' holds reading kept l more read same m_is untold Leads leads =
    let r = some_line reading kept l.rest left' more (read l.rest l.left_is) in
    let u = untold (take_through 10 l.rest) r.1 in
    let m_at : m ≡ moment place = m_is ∙ ap (λ (f : ℕ → ℕ). f place) same in
    let a : RepliesTo u.meeting now (moment place) (take_through 10 l.rest) u.bytes next = rw (← m_at) u.answers in
    let here = asked ++ asked_by (request_of_line (take_through 10 l.rest)) in (
      here,
      cut old moment input here (l.meetings ++ u.meeting ∷ []) next (place + 1) (drop_through 10 l.rest) (l.written ++ u.bytes) (one_more old moment input asked l.meetings now next place l.rest l.written u.bytes u.meeting l.underway r.0 a),
      leads (take_through 10 l.rest) r.1,
    )

pub cleanly : (old : WithSubscriptions FrontState) (moment : ℕ → ℕ) (input : List ℕ) (held : Option (List ℕ)) (faults : ℕ) (now : WithSubscriptions FrontState) (holds : Option (List ℕ))
    → Served old moment 0 input faults held holds now → faults ≡ 0 → now.front.number < max_counter → ServedCleanly (seen old) moment 0 input held holds (seen now)
cleanly old moment input held faults now holds s none below =
    let c = clean old moment 0 (lines_of input) s.meetings s.bytes now (sym s.faults_are ∙ none) below s.run in
    record { appends = subst (λ (t : List ℕ). Appends held holds t) c.0 s.appends; state_is = c.1 }

few_by_way : (way : Way) → faults_of way ≤ 1
few_by_way Defined = omega arith
few_by_way Device = omega arith
few_by_way Memory = omega arith
few_by_way Spent = omega arith

pub few_faults : (meeting : Meeting) → faults_at meeting ≤ 1
few_faults meeting =
    elim (are_all_found meeting.finds) as (λ b. cond b (faults_of meeting.way) 1 ≤ 1) [
      | true ↦ few_by_way meeting.way
      | false ↦ omega arith
    ]
