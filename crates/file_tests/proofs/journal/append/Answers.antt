use Rattle.std.proofs.Common.{◌≡◌, ◌+◌, [], ◌∷◌, ◌++◌, take, sym, ap, ◌∙◌, arith}
use Rattle.std.proofs.lemmas.List.{take_more, take_all}
use Rattle.wm_journal.specs.Records.{taken}
use Rattle.wm_journal.specs.laws.Records.{taken-append}
use Rattle.file_tests.proofs.journal.append.Goals as goal

pub loop-record-preserved : goal.loop-record-preserved
loop-record-preserved g c =
    let W = g.W.Wire in
    let i = c.loop-record.record-index in
    let records = c.args.records.now in
    let v = c.record-item.result in
    let more : take (i + 1) records ≡ take i records ++ v ∷ [] = take_more records i v c.loop-record-test.true ∙ ap (λ x. take i records ++ x ∷ []) (sym c.record-item.is) in
    omega (arith, ap (λ l. taken W.spelling l) more, taken-append W.spelling (take i records) (v ∷ []), c.loop-record.invariant, c.size-size.ensures.exact)

pub append_closed-requires-clause-fits : goal.append_closed-requires-clause-fits
append_closed-requires-clause-fits g c =
    let W = g.W.Wire in
    let records = c.args.records.now in
    omega (arith, c.loop-record.invariant, ap (λ l. taken W.spelling l) (take_all c.loop-record.record-index records c.loop-record-test.false))
