use Rattle.std.proofs.Common.{◌≡◌, [], ap}
use Rattle.wm_session.specs.local.LocalLaws.{later_then}
use Rattle.wm_session.specs.local.Locals.{front_state_of}
use Rattle.wm_session.specs.session.Streams.{reader_of}
use Rattle.wm_server.proofs.lemmas.program.ProgramLemmas.{Course, by_close, close_refused, cuts_lines, keeps, lines_broken, lines_served, session_anytime, start_anytime, start_refused, untouched}
use Rattle.wm_server.proofs.program.lines.serve_lines.Goals as goal

pub returns-in-Err-clause-refused : goal.returns-in-Err-clause-refused
returns-in-Err-clause-refused g c = start_refused g.D.Disk (g.R.Read.remaining (reader_of c.args.reader.now)) c.args.disk c.in-Err.disk c.in-Err.refusal c.in-Err.ensures.refused c.in-Err.ensures.cut

pub returns-in-Err-clause-any_moment : goal.returns-in-Err-clause-any_moment
returns-in-Err-clause-any_moment g c = start_anytime g.D.Disk (g.R.Read.remaining (reader_of c.args.reader.now)) c.args.disk c.in-Err.disk c.in-Err.ensures.cut

pub returns-clause-served : goal.returns-clause-served
returns-clause-served g c = λ served h input e.
    let begun = c.new-session.result.front in
    let left = c.run-ran.new.session.front in
    let new = c.close-closed.result.1 in
    let found = rw (← c.new-session.ensures.front) at c.in-Ok.ensures in
    let none : c.new-session.result.subscriptions ≡ [] = ap (λ s. s.subscriptions) (c.new-session.ensures.first (front_state_of g.D.Disk)) in
    let course : Course g.D.Disk c.args.disk begun.store left.store new = record {
      works = found.working.0;
      start = λ h. found.begun (c.run-ran.ensures.later.1.later.honest (c.close-closed.ensures.later.honest h));
      honest = c.close-closed.ensures.later.honest;
      still = c.close-closed.ensures.still;
      closing = c.close-closed.ensures.any_moment;
    } in
    lines_served g.D.Disk c.args.disk begun.store left.store new course begun.views.items left.views.items c.run-ran.new.session.subscriptions found.views _ input _ _ (rw c.in-Ok-Ok.is-0 at c.close-closed.ensures.ok) ((rw c.in-Ok-Ok.is-0 at c.close-closed.ensures.kept) h) h (rw none at (c.run-ran.ensures.met input e))
    (rw none at ((rw c.in-Ok-Ok.is-1 at c.run-ran.ensures.served) input e))

pub returns-clause-answered : goal.returns-clause-answered
returns-clause-answered g c = λ served input e.
    let found = rw (← c.new-session.ensures.front) at c.in-Ok.ensures in
    let none : c.new-session.result.subscriptions ≡ [] = ap (λ s. s.subscriptions) (c.new-session.ensures.first (front_state_of g.D.Disk)) in
    let s = rw none at ((rw c.in-Ok-Ok.is-1 at c.run-ran.ensures.served) input e) in
    record { begun = _; works = found.working.0; views = found.views; meetings = s.meetings; bytes = s.bytes; left = _; run = s.run; appends = s.appends }

pub returns-clause-refused : goal.returns-clause-refused
returns-clause-refused g c = λ h.
    let begun = c.new-session.result.front in
    let left = c.run-ran.new.session.front in
    let new = c.close-closed.result.1 in
    let found = rw (← c.new-session.ensures.front) at c.in-Ok.ensures in
    let course : Course g.D.Disk c.args.disk begun.store left.store new = record {
      works = found.working.0;
      start = λ h. found.begun (c.run-ran.ensures.later.1.later.honest (c.close-closed.ensures.later.honest h));
      honest = c.close-closed.ensures.later.honest;
      still = c.close-closed.ensures.still;
      closing = c.close-closed.ensures.any_moment;
    } in
    let some = c.run-ran.ensures.later in (
      (course.start h).found,
      left.store.registry,
      some.0,
      keeps g.D.Disk c.args.disk begun.store left.store new course some.0 some.1 some.0 (λ part p. p) (rw c.in-Ok-Ok.is-0 at c.close-closed.ensures.ok) ((rw c.in-Ok-Ok.is-0 at c.close-closed.ensures.kept) h) h,
    )

pub returns-in-Ok-Err-clause-refused : goal.returns-in-Ok-Err-clause-refused
returns-in-Ok-Err-clause-refused g c =
    let begun = c.new-session.result.front in
    let left = c.run-ran.new.session.front in
    let new = c.close-closed.result.1 in
    let found = rw (← c.new-session.ensures.front) at c.in-Ok.ensures in
    let none : c.new-session.result.subscriptions ≡ [] = ap (λ s. s.subscriptions) (c.new-session.ensures.first (front_state_of g.D.Disk)) in
    let course : Course g.D.Disk c.args.disk begun.store left.store new = record {
      works = found.working.0;
      start = λ h. found.begun (c.run-ran.ensures.later.1.later.honest (c.close-closed.ensures.later.honest h));
      honest = c.close-closed.ensures.later.honest;
      still = c.close-closed.ensures.still;
      closing = c.close-closed.ensures.any_moment;
    } in
    let some = c.run-ran.ensures.later in
    let worked = rw c.in-Ok-Err.is-0 at c.close-closed.ensures.ok in
    let kept = rw c.in-Ok-Err.is-0 at c.close-closed.ensures.kept in (
      λ h. ((course.start h).found, left.store.registry, some.0, keeps g.D.Disk c.args.disk begun.store left.store new course some.0 some.1 some.0 (λ part p. p) worked (kept h) h),
      λ h input e. lines_broken g.D.Disk c.args.disk begun.store left.store new course begun.views.items left.views.items c.run-ran.new.session.subscriptions found.views input worked (kept h) h (rw none at (c.run-ran.ensures.met input e)),
    )

pub returns-in-Err-default-clause-refused : goal.returns-in-Err-default-clause-refused
returns-in-Err-default-clause-refused g c =
    let begun = c.new-session.result.front in
    let left = c.run-ran.new.session.front in
    let new = c.close-closed.result.1 in
    let found = rw (← c.new-session.ensures.front) at c.in-Ok.ensures in
    let none : c.new-session.result.subscriptions ≡ [] = ap (λ s. s.subscriptions) (c.new-session.ensures.first (front_state_of g.D.Disk)) in
    let course : Course g.D.Disk c.args.disk begun.store left.store new = record {
      works = found.working.0;
      start = λ h. found.begun (c.run-ran.ensures.later.1.later.honest (c.close-closed.ensures.later.honest h));
      honest = c.close-closed.ensures.later.honest;
      still = c.close-closed.ensures.still;
      closing = c.close-closed.ensures.any_moment;
    } in
    let some = c.run-ran.ensures.later in
    let cuts = cuts_lines g.D.Disk c.args.disk begun.store left.store new course begun.views.items left.views.items c.run-ran.new.session.subscriptions found.views g.met.D.Disk.counts_now (g.R.Read.remaining (reader_of c.args.reader.now)) some (λ input e. rw none at (c.run-ran.ensures.met input e)) in
    close_refused g.D.Disk (g.R.Read.remaining (reader_of c.args.reader.now)) c.args.disk begun.store some.0 left new c.in-Err-default.refusal found.later found.working.0 some.1 c.close-closed.ensures.later (rw c.in-Err-default.is-0 at c.close-closed.ensures.refused) cuts

pub returns-clause-any_moment : goal.returns-clause-any_moment
returns-clause-any_moment g c =
    let begun = c.new-session.result.front in
    let left = c.run-ran.new.session.front in
    let new = c.close-closed.result.1 in
    let found = rw (← c.new-session.ensures.front) at c.in-Ok.ensures in
    let none : c.new-session.result.subscriptions ≡ [] = ap (λ s. s.subscriptions) (c.new-session.ensures.first (front_state_of g.D.Disk)) in
    let course : Course g.D.Disk c.args.disk begun.store left.store new = record {
      works = found.working.0;
      start = λ h. found.begun (c.run-ran.ensures.later.1.later.honest (c.close-closed.ensures.later.honest h));
      honest = c.close-closed.ensures.later.honest;
      still = c.close-closed.ensures.still;
      closing = c.close-closed.ensures.any_moment;
    } in
    session_anytime g.D.Disk c.args.disk begun.store left.store new course begun.views.items left.views.items c.run-ran.new.session.subscriptions found.views (g.R.Read.remaining (reader_of c.args.reader.now)) c.run-ran.ensures.later (λ input e. rw none at (c.run-ran.ensures.met input e))

pub returns-in-Ok-Err-clause-any_moment : goal.returns-in-Ok-Err-clause-any_moment
returns-in-Ok-Err-clause-any_moment g c =
    let begun = c.new-session.result.front in
    let left = c.run-ran.new.session.front in
    let new = c.close-closed.result.1 in
    let found = rw (← c.new-session.ensures.front) at c.in-Ok.ensures in
    let none : c.new-session.result.subscriptions ≡ [] = ap (λ s. s.subscriptions) (c.new-session.ensures.first (front_state_of g.D.Disk)) in
    let course : Course g.D.Disk c.args.disk begun.store left.store new = record {
      works = found.working.0;
      start = λ h. found.begun (c.run-ran.ensures.later.1.later.honest (c.close-closed.ensures.later.honest h));
      honest = c.close-closed.ensures.later.honest;
      still = c.close-closed.ensures.still;
      closing = c.close-closed.ensures.any_moment;
    } in
    session_anytime g.D.Disk c.args.disk begun.store left.store new course begun.views.items left.views.items c.run-ran.new.session.subscriptions found.views (g.R.Read.remaining (reader_of c.args.reader.now)) c.run-ran.ensures.later (λ input e. rw none at (c.run-ran.ensures.met input e))

pub returns-in-Err-default-clause-any_moment : goal.returns-in-Err-default-clause-any_moment
returns-in-Err-default-clause-any_moment g c =
    let begun = c.new-session.result.front in
    let left = c.run-ran.new.session.front in
    let new = c.close-closed.result.1 in
    let found = rw (← c.new-session.ensures.front) at c.in-Ok.ensures in
    let none : c.new-session.result.subscriptions ≡ [] = ap (λ s. s.subscriptions) (c.new-session.ensures.first (front_state_of g.D.Disk)) in
    let course : Course g.D.Disk c.args.disk begun.store left.store new = record {
      works = found.working.0;
      start = λ h. found.begun (c.run-ran.ensures.later.1.later.honest (c.close-closed.ensures.later.honest h));
      honest = c.close-closed.ensures.later.honest;
      still = c.close-closed.ensures.still;
      closing = c.close-closed.ensures.any_moment;
    } in
    session_anytime g.D.Disk c.args.disk begun.store left.store new course begun.views.items left.views.items c.run-ran.new.session.subscriptions found.views (g.R.Read.remaining (reader_of c.args.reader.now)) c.run-ran.ensures.later (λ input e. rw none at (c.run-ran.ensures.met input e))

pub returns-clause-later : goal.returns-clause-later
returns-clause-later g c =
    let found = rw (← c.new-session.ensures.front) at c.in-Ok.ensures in
    later_then g.D.Disk _ _ _ (later_then g.D.Disk _ _ _ found.later c.run-ran.ensures.later.1.later) c.close-closed.ensures.later

pub returns-in-Ok-Err-clause-later : goal.returns-in-Ok-Err-clause-later
returns-in-Ok-Err-clause-later g c =
    let found = rw (← c.new-session.ensures.front) at c.in-Ok.ensures in
    later_then g.D.Disk _ _ _ (later_then g.D.Disk _ _ _ found.later c.run-ran.ensures.later.1.later) c.close-closed.ensures.later

pub returns-in-Err-default-clause-later : goal.returns-in-Err-default-clause-later
returns-in-Err-default-clause-later g c =
    let found = rw (← c.new-session.ensures.front) at c.in-Ok.ensures in
    later_then g.D.Disk _ _ _ (later_then g.D.Disk _ _ _ found.later c.run-ran.ensures.later.1.later) c.close-closed.ensures.later

pub returns-in-Ok-Err-2-clause-refused : goal.returns-in-Ok-Err-2-clause-refused
returns-in-Ok-Err-2-clause-refused g c =
    let begun = c.new-session.result.front in
    let left = c.run-ran.new.session.front in
    let new = c.close-closed.result.1 in
    let found = rw (← c.new-session.ensures.front) at c.in-Ok.ensures in
    let none : c.new-session.result.subscriptions ≡ [] = ap (λ s. s.subscriptions) (c.new-session.ensures.first (front_state_of g.D.Disk)) in
    let course : Course g.D.Disk c.args.disk begun.store left.store new = record {
      works = found.working.0;
      start = λ h. found.begun (c.run-ran.ensures.later.1.later.honest (c.close-closed.ensures.later.honest h));
      honest = c.close-closed.ensures.later.honest;
      still = c.close-closed.ensures.still;
      closing = c.close-closed.ensures.any_moment;
    } in
    let some = c.run-ran.ensures.later in
    let worked = rw c.in-Ok-Err-2.is-0 at c.close-closed.ensures.ok in
    let kept = rw c.in-Ok-Err-2.is-0 at c.close-closed.ensures.kept in (
      λ h. ((course.start h).found, left.store.registry, some.0, keeps g.D.Disk c.args.disk begun.store left.store new course some.0 some.1 some.0 (λ part p. p) worked (kept h) h),
      λ h input e. lines_broken g.D.Disk c.args.disk begun.store left.store new course begun.views.items left.views.items c.run-ran.new.session.subscriptions found.views input worked (kept h) h (rw none at (c.run-ran.ensures.met input e)),
    )

pub returns-in-Ok-Err-2-clause-any_moment : goal.returns-in-Ok-Err-2-clause-any_moment
returns-in-Ok-Err-2-clause-any_moment g c =
    let begun = c.new-session.result.front in
    let left = c.run-ran.new.session.front in
    let new = c.close-closed.result.1 in
    let found = rw (← c.new-session.ensures.front) at c.in-Ok.ensures in
    let none : c.new-session.result.subscriptions ≡ [] = ap (λ s. s.subscriptions) (c.new-session.ensures.first (front_state_of g.D.Disk)) in
    let course : Course g.D.Disk c.args.disk begun.store left.store new = record {
      works = found.working.0;
      start = λ h. found.begun (c.run-ran.ensures.later.1.later.honest (c.close-closed.ensures.later.honest h));
      honest = c.close-closed.ensures.later.honest;
      still = c.close-closed.ensures.still;
      closing = c.close-closed.ensures.any_moment;
    } in
    session_anytime g.D.Disk c.args.disk begun.store left.store new course begun.views.items left.views.items c.run-ran.new.session.subscriptions found.views (g.R.Read.remaining (reader_of c.args.reader.now)) c.run-ran.ensures.later (λ input e. rw none at (c.run-ran.ensures.met input e))

pub returns-in-Ok-Err-2-clause-later : goal.returns-in-Ok-Err-2-clause-later
returns-in-Ok-Err-2-clause-later g c =
    let found = rw (← c.new-session.ensures.front) at c.in-Ok.ensures in
    later_then g.D.Disk _ _ _ (later_then g.D.Disk _ _ _ found.later c.run-ran.ensures.later.1.later) c.close-closed.ensures.later

pub returns-in-Err-clause-cause : goal.returns-in-Err-clause-cause
returns-in-Err-clause-cause g c = untouched c.in-Err.refusal c.args.reader.now c.args.writer.now

pub returns-in-Err-default-clause-cause : goal.returns-in-Err-default-clause-cause
returns-in-Err-default-clause-cause g c =
    by_close g.D.Disk c.in-Err-default.refusal c.run-ran.new.session.front c.close-closed.result.1 _ _ _ _ (rw c.in-Err-default.is-0 at c.close-closed.ensures.refused)
