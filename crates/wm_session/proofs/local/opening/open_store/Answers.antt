use Rattle.std.proofs.Common.{◌≡◌, ◌⊎◌, false, inr, subst, sym}
use Rattle.wm_disk.specs.declared.refusal.Refusal.TheVariants as refusals
use Rattle.wm_lines.specs.KeptExpressions.{have_expressions}
use Rattle.wm_session.specs.local.Stores.{Later, StartCut, StartRefused}
use Rattle.wm_session.proofs.lemmas.local.StartLemmas.{start_refused, expressions_refused}
use Rattle.wm_session.proofs.local.opening.open_store.Goals as goal

pub returns-in-Err-clause-refused : goal.returns-in-Err-clause-refused
returns-in-Err-clause-refused g c =
    let told = c.in-Err.ensures in
    start_refused g.D.Disk c.args.disk c.in-Err.disk c.in-Err.refusal (λ h. (told.left h).cut)
    (λ h. (told.why h).damaged) (λ h. (told.why h).retired) (λ h. (told.why h).exhausted) (λ h. (told.left h).refused) told.calls.failed told.kinds

pub returns-in-Err-clause-cut : goal.returns-in-Err-clause-cut
returns-in-Err-clause-cut g c = λ h. (c.in-Err.ensures.left h).cut

pub returns-in-Err-clause-later : goal.returns-in-Err-clause-later
returns-in-Err-clause-later g c = let told = c.in-Err.ensures in record { honest = told.calls.honest.1; count = told.calls.failures_grow.1 }

pub returns-in-Err-ask_for_expressions-clause-cut : goal.returns-in-Err-ask_for_expressions-clause-cut
returns-in-Err-ask_for_expressions-clause-cut g c =
    subst (λ d. StartCut g.D.Disk c.args.disk d) (sym c.into_disk.ensures.value) (λ h. let begun = c.in-Ok.ensures.begun h in inr (begun.found, begun.opened))

pub returns-in-Err-ask_for_expressions-clause-later : goal.returns-in-Err-ask_for_expressions-clause-later
returns-in-Err-ask_for_expressions-clause-later g c =
    let told = c.in-Ok.ensures in
    subst (λ d. Later g.D.Disk c.args.disk d) (sym c.into_disk.ensures.value) (record { honest = told.calls.honest.0; count = told.calls.failures_grow.0 })

pub returns-in-Err-ask_for_expressions-clause-refused : goal.returns-in-Err-ask_for_expressions-clause-refused
returns-in-Err-ask_for_expressions-clause-refused g c =
    let e = c.in-Err-ask_for_expressions.refusal in
    let store = c.in-Ok.store in
    let why = subst (λ r. ((e ≡ refusals.Damaged) × (have_expressions r ≡ false)) ⊎ (e ≡ refusals.NoMemory)) c.registry.ensures.value c.in-Err-ask_for_expressions.ensures.refused in
    subst (λ d. StartRefused g.D.Disk e c.args.disk d) (sym c.into_disk.ensures.value)
    (expressions_refused g.D.Disk c.args.disk store e c.in-Ok.ensures.begun why)
