use Rattle.std.proofs.Common.{◌≡◌, ◌∙◌, Some, ap, is_some, sym, true≢false, refl}
use Rattle.std.proofs.lemmas.Result.{IfOk-weaker}
use Rattle.clap.specs.Words.{found_of, rows_of}
use Rattle.wm_server.specs.program.Words.{format, lines}
use Rattle.wm_server.proofs.lemmas.program.WordLemmas.{asked_by_file, asked_by_migrate, made_by}
use Rattle.wm_server.proofs.program.words.chosen.Goals as goal

pub migrating-requires : goal.migrating-requires
migrating-requires c =
    let met = asked_by_migrate _ c.in-Some.name.now (rows_of (found_of c.in-Some.inner.now)) c.in-Some.ensures (sym c.if-eq.ensures) in
    ap is_some (sym met) ∙ c.requires

pub returns-then-eq : goal.returns-then-eq
returns-then-eq c =
    let met = asked_by_migrate _ c.in-Some.name.now (rows_of (found_of c.in-Some.inner.now)) c.in-Some.ensures (sym c.if-eq.ensures) in
    IfOk-weaker c.migrating.result _ _ (λ r says. met ∙ says) c.migrating.ensures

pub unreachable-requires-in_default-word_of : goal.unreachable-requires-in_default-word_of
unreachable-requires-in_default-word_of c =
    let parts = asked_by_file _ c.in-Some.name.now (rows_of (found_of c.in-Some.inner.now)) _ c.in-Some.ensures c.in_default-word_of.ensures (sym c.if-eq.ensures) in
    true≢false (sym c.requires ∙ ap is_some parts)

pub returns-then-eq-2 : goal.returns-then-eq-2
returns-then-eq-2 c =
    let parts = asked_by_file _ c.in-Some.name.now (rows_of (found_of c.in-Some.inner.now)) _ c.in-Some.ensures c.in-Some-word_of.ensures (sym c.if-eq.ensures) in
    let made : made_by c.in-Some.name.now c.in-Some-word_of.file.now ≡ format c.in-Some-word_of.file.now = rw (sym c.if-eq-2.ensures) refl in
    parts ∙ ap Some (made ∙ ap format (sym c.in_ok-file.ensures.ok))

pub returns-else-eq-2 : goal.returns-else-eq-2
returns-else-eq-2 c =
    let parts = asked_by_file _ c.in-Some.name.now (rows_of (found_of c.in-Some.inner.now)) _ c.in-Some.ensures c.in-Some-word_of.ensures (sym c.if-eq.ensures) in
    let made : made_by c.in-Some.name.now c.in-Some-word_of.file.now ≡ lines c.in-Some-word_of.file.now = rw (sym c.if-eq-2.ensures) refl in
    parts ∙ ap Some (made ∙ ap lines (sym c.in_ok-file.ensures.ok))
