use Rattle.std.proofs.Common.{◌∙◌, arith, map, inl, inr, refl, sym, subst}
use Rattle.std.specs.String.{string_bytes}
use Rattle.wm_session.specs.session.Streams.{streams}
use Rattle.wm_program.specs.ProgramRuns.{EndsServed}
use Rattle.wm_program.specs.ProgramWords.{AsksProgram, plain, program_wanted, serve_on, shown_status}
use Rattle.wm_program.proofs.Faults.{no_fault}
use Rattle.wm_program.proofs.program.watchmand.Goals as goal

pub returns-in-Ok-Plain-clause-fault : goal.returns-in-Ok-Plain-clause-fault
returns-in-Ok-Plain-clause-fault g c all =
    let words = map (λ word. word.now) c.args.words.now in
    no_fault words plain _ (subst (λ w. AsksProgram words (program_wanted w)) c.in-Ok-Plain.field-0-is c.in-Ok-Plain.ensures) refl all

pub returns-in-Ok-clause-fault : goal.returns-in-Ok-clause-fault
returns-in-Ok-clause-fault g c all =
    let words = map (λ word. word.now) c.args.words.now in
    let wanted = serve_on (string_bytes c.in-Ok-Serve.file) (string_bytes c.in-Ok-Serve.socket) c.in-Ok-Serve.settings in
    no_fault words wanted _ (subst (λ w. AsksProgram words (program_wanted w)) c.in-Ok-Serve.field-0-is c.in-Ok-Serve.ensures) refl all

pub returns-in-Ok-clause-runs : goal.returns-in-Ok-clause-runs
returns-in-Ok-clause-runs g c =
    let words = map (λ word. word.now) c.args.words.now in
    let first = streams c.args.reader.now c.args.writer.now c.args.faults.now in
    inr (
      serve_on (string_bytes c.in-Ok-Serve.file) (string_bytes c.in-Ok-Serve.socket) c.in-Ok-Serve.settings,
      subst (λ w. AsksProgram words (program_wanted w)) c.in-Ok-Serve.field-0-is c.in-Ok-Serve.ensures,
      (
        refl,
        (
          c.serve.result,
          (c.in-Ok-Serve.file, c.in-Ok-Serve.socket, refl, refl, c.serve.ensures),
          subst (λ r. EndsServed g.E.Write.contents r first first 0) (sym c.in-Ok.is) (refl, refl),
        ),
      ),
    )

pub returns-in-Err-serve-clause-runs : goal.returns-in-Err-serve-clause-runs
returns-in-Err-serve-clause-runs g c =
    let words = map (λ word. word.now) c.args.words.now in
    let first = streams c.args.reader.now c.args.writer.now c.args.faults.now in
    let last = streams c.args.reader.now c.args.writer.now c.refuse.new.faults in
    inr (
      serve_on (string_bytes c.in-Ok-Serve.file) (string_bytes c.in-Ok-Serve.socket) c.in-Ok-Serve.settings,
      subst (λ w. AsksProgram words (program_wanted w)) c.in-Ok-Serve.field-0-is c.in-Ok-Serve.ensures,
      (
        refl,
        (
          c.serve.result,
          (c.in-Ok-Serve.file, c.in-Ok-Serve.socket, refl, refl, c.serve.ensures),
          subst (λ r. EndsServed g.E.Write.contents r first last c.refuse.result) (sym c.in-Err-serve.is) (c.refuse.ensures.status, c.refuse.ensures.told, refl, refl),
        ),
      ),
    )

pub returns-in-Ok-Shown-default-eq0-clause-fault : goal.returns-in-Ok-Shown-default-eq0-clause-fault
returns-in-Ok-Shown-default-eq0-clause-fault g c all =
    let words = map (λ word. word.now) c.args.words.now in
    no_fault words (shown_status c.in-Ok-Shown-default-eq0.field-0-1) _
    (subst (λ w. AsksProgram words (program_wanted w)) c.in-Ok-Shown-default-eq0.field-0-is c.in-Ok-Shown-default-eq0.ensures) c.in-Ok-Shown-default-eq0.field-0-1-test all

pub returns-in-Ok-Shown-clause-runs : goal.returns-in-Ok-Shown-clause-runs
returns-in-Ok-Shown-clause-runs g c =
    let words = map (λ word. word.now) c.args.words.now in
    inr (
      shown_status c.in-Ok-Shown.status,
      subst (λ w. AsksProgram words (program_wanted w)) c.in-Ok-Shown.field-0-is c.in-Ok-Shown.ensures,
      (
        refl,
        elim c.shown-in-Ok-Shown.ensures [
          | inl h ↦ inl (h.0, (c.deref-in-Ok-Shown.result.now, (λ zero. absurd (c.in-Ok-Shown.status-test.1 zero)), (λ above. (h.1, refl))))
          | inr h ↦ inr (h.0, inr h.1)
        ],
      ),
    )

pub returns-in-Ok-Shown-default-eq0-clause-runs : goal.returns-in-Ok-Shown-default-eq0-clause-runs
returns-in-Ok-Shown-default-eq0-clause-runs g c =
    let words = map (λ word. word.now) c.args.words.now in
    let is_zero = c.in-Ok-Shown-default-eq0.field-0-1-test in
    inr (
      shown_status c.in-Ok-Shown-default-eq0.field-0-1,
      subst (λ w. AsksProgram words (program_wanted w)) c.in-Ok-Shown-default-eq0.field-0-is c.in-Ok-Shown-default-eq0.ensures,
      (
        refl,
        elim c.shown.ensures [
          | inl h ↦ inl (h.0 ∙ sym is_zero, (c.deref.result.now, (λ zero. h.1), (λ above. absurd (omega (arith, is_zero, above)))))
          | inr h ↦ inr (h.0, inl h.1)
        ],
      ),
    )
