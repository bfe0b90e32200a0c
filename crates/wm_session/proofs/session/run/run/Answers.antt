use Rattle.std.proofs.Common.{◌≡◌, ◌≢◌, ◌∙◌, [], ◌++◌, ap, refl, rules, arith}
use Rattle.wm_session.specs.declared.session.input.LineRead.TheVariants.{End}
use Rattle.wm_session.specs.session.Streams.{writer_of}
use Rattle.wm_session.specs.session.Stands.{standing}
use Rattle.wm_session.proofs.lemmas.session.RunLemmas.{begins, breaks, breaks_untold, turns, ends, cleanly}
use Rattle.wm_session.proofs.session.run.run.Goals as goal

pub loop-init : goal.loop-init
loop-init g c = (
  omega arith,
  c.count_anew.ensures.first,
  (c.count_anew.ensures.whole, refl),
  c.requires.moments,
  refl,
  ([], g.met.F.Front.stays c.args.session.now.front []),
  λ input e. (
    [],
    begins (standing g.F.OwnFront.front_state c.args.session.now) (g.M.Moments.moment c.args.moments.now) input (g.W.Write.contents (writer_of c.args.writer.now)) _ _ c.requires.moments (ap (λ r. g.R.Read.remaining r) c.count_anew.ensures.reader ∙ e),
    g.met.F.Front.stays c.args.session.now.front [],
  ),
)

pub returns-then-eq-clause-served : goal.returns-then-eq-clause-served
returns-then-eq-clause-served g c = λ input e.
    let end : c.in_ok-read.read ≡ End = search rules in
    ends _ _ input _ _ _ _ _ _ _ _ _ _ (c.loop.invariant.6 input e).1 end c.in_ok-read.ensures.read

pub returns-then-eq-clause-clean : goal.returns-then-eq-clause-clean
returns-then-eq-clause-clean g c = λ none below input e.
    let end : c.in_ok-read.read ≡ End = search rules in
    cleanly _ _ input _ _ _ _ (ends _ _ input _ _ _ _ _ _ _ _ _ _ (c.loop.invariant.6 input e).1 end c.in_ok-read.ensures.read) none below

pub returns-then-eq-clause-met : goal.returns-then-eq-clause-met
returns-then-eq-clause-met g c = λ input e. let so_far = c.loop.invariant.6 input e in (so_far.0, breaks _ _ input _ _ _ _ _ _ _ so_far.1, so_far.2)

pub returns-in_err-read-clause-met : goal.returns-in_err-read-clause-met
returns-in_err-read-clause-met g c = λ input e. let so_far = c.loop.invariant.6 input e in (so_far.0, breaks _ _ input _ _ _ _ _ _ _ so_far.1, so_far.2)

pub returns-clause-met : goal.returns-clause-met
returns-clause-met g c = λ input e. let so_far = c.loop.invariant.6 input e in (so_far.0, breaks _ _ input _ _ _ _ _ _ _ so_far.1, so_far.2)

pub returns-in_err-found-clause-met : goal.returns-in_err-found-clause-met
returns-in_err-found-clause-met g c = λ input e.
    let more : c.in_ok-read.read ≢ End = search rules in
    let so_far = c.loop.invariant.6 input e in
    let asks = rw c.deref.ensures.value at c.serve_line.ensures.asked in
    breaks_untold _ _ _ input so_far.0 _ _ _ _ _ _ _ _ _ c.in_ok-read.read c.read_line.new.line.items so_far.1 more
    c.in_ok-read.ensures.read c.loop.invariant.4 c.next-moment.ensures.value (rw c.deref.ensures.value at c.in_err-found.ensures.untold)
    (λ asked. g.F.Front.leads_to c.args.session.now.front asked c.serve_line.new.session.front)
    (λ whole stands. g.met.F.Front.goes_on _ _ _ _ _ so_far.2 (asks whole stands))

pub returns-in_err-found-clause-later : goal.returns-in_err-found-clause-later
returns-in_err-found-clause-later g c =
    let before = c.loop.invariant.5 in
    let here = c.serve_line.ensures.later in
    (before.0 ++ here.0, g.met.F.Front.goes_on _ _ _ _ _ before.1 here.1)

pub loop-preserved : goal.loop-preserved
loop-preserved g c =
    let more : c.in_ok-read.read ≢ End = search rules in
    let before = c.loop.invariant.5 in
    let here = c.serve_line.ensures.later in
    let asks = rw c.deref.ensures.value at c.serve_line.ensures.asked in (
      search rules,
      search rules,
      (c.in_ok-read.ensures.whole ∙ c.loop.invariant.2.0, c.in_ok-found.ensures.whole ∙ c.loop.invariant.2.1),
      search rules,
      c.next-moment.ensures.same ∙ c.loop.invariant.4,
      (before.0 ++ here.0, g.met.F.Front.goes_on _ _ _ _ _ before.1 here.1),
      λ input e.
          let so_far = c.loop.invariant.6 input e in
          turns _ _ _ input so_far.0 _ _ _ _ _ _ _ _ _ _ _ _ c.in_ok-read.read c.read_line.new.line.items so_far.1 more
          c.in_ok-read.ensures.read c.loop.invariant.4 c.next-moment.ensures.value c.next-moment.ensures.place (rw c.deref.ensures.value at c.in_ok-found.ensures.served)
          (λ asked. g.F.Front.leads_to c.args.session.now.front asked c.serve_line.new.session.front)
          (λ whole stands. g.met.F.Front.goes_on _ _ _ _ _ so_far.2 (asks whole stands)),
    )
