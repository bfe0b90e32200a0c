use Rattle.std.proofs.Common.{rules, ◌≡◌, ◌≢◌, ◌+◌, ◌++◌, [], ◌∷◌, List, ℕ, length, drop, get_or, subst, sym, ap, ◌∙◌, arith, length-drop, length-append}
use Rattle.std.specs.List.{AllByRecursion}
use Rattle.wm_wire.specs.Spelling.{BeginsWith, NoneBegins}
use Rattle.wm_journal.specs.Records.{gated, with_open_gates, taken}
use Rattle.wm_journal.proofs.Laying.{AllByRecursion-append}
use Rattle.wm_journal.specs.laws.Records.{taken-append}
use Rattle.wm_journal.proofs.Reading.{read_end, read_next, read_none, read_past}
use Rattle.wm_journal.specs.laws.OneList.{one_list}
use Rattle.wm_journal.proofs.read.read_records.Goals as goal

pub returns-then-bytes-at-clause-only : goal.returns-then-bytes-at-clause-only
returns-then-bytes-at-clause-only g c = λ records h.
    let bytes = c.args.bytes.now in
    let inv = c.loop-at.invariant in
    let shut : get_or bytes c.loop-at.at 0 ≢ 165 = search rules in
    let found = read_end g.W.Wire bytes c.loop-at.at c.loop-at.records.items c.loop-at-test.true shut inv.fit inv.parts in
    one_list g.W.Wire g.met.W.Wire.alone records c.loop-at.records.items bytes h found

pub returns-in_default-clause-none : goal.returns-in_default-clause-none
returns-in_default-clause-none g c = λ records h.
    let W = g.W.Wire in
    let bytes = c.args.bytes.now in
    let at = c.loop-at.at in
    let inv = c.loop-at.invariant in
    let is_open : get_or bytes at 0 ≡ 165 = search rules in
    let none : NoneBegins W.fits W.spelling (drop (at + 1) bytes) = subst (λ (l : List ℕ). NoneBegins W.fits W.spelling l) c.split_at.ensures.back (rw c.in_default.is at c.in_ok-record.ensures) in
    read_none W g.met.W.Wire.alone bytes at records c.loop-at.records.items c.loop-at-test.true is_open inv.fit inv.parts h none

pub loop-at-preserved : goal.loop-at-preserved
loop-at-preserved g c =
    let W = g.W.Wire in
    let bytes = c.args.bytes.now in
    let at = c.loop-at.at in
    let n = c.in-Some.size in
    let v = c.in-Some.record in
    let records = c.loop-at.records.items in
    let inv = c.loop-at.invariant in
    let is_open : get_or bytes at 0 ≡ 165 = search rules in
    let begins : BeginsWith W.fits W.spelling (drop (at + 1) bytes) v n = subst (λ (l : List ℕ). BeginsWith W.fits W.spelling l v n) c.split_at.ensures.back (rw c.in-Some.is at c.in_ok-record.ensures) in
    let pushed : c.push.new.self.items ≡ records ++ v ∷ [] = search rules in
    let behind : n + length (drop n (drop (at + 1) bytes)) ≡ length (drop (at + 1) bytes) = omega (arith, begins.whole, ap length begins.parts, length-append (W.spelling v) (drop n (drop (at + 1) bytes))) in
    record {
      end = omega (arith, ap (λ l. taken W.spelling l) pushed, taken-append W.spelling records (v ∷ []), inv.end, begins.whole);
      within = omega (arith, behind, length-drop (at + 1) bytes, c.loop-at-test.true);
      fit = subst (λ l. AllByRecursion W.fits l) (sym pushed) (AllByRecursion-append W.fits records (v ∷ []) inv.fit (begins.known, tt));
      parts = read_next W bytes at n v records c.loop-at-test.true is_open begins inv.parts ∙ ap (λ l. gated W.spelling (with_open_gates l) ++ drop (at + (1 + n)) bytes) (sym pushed);
    }

pub returns-clause-none : goal.returns-clause-none
returns-clause-none g c = λ records h.
    let inv = c.loop-at.invariant in
    read_past g.W.Wire g.met.W.Wire.alone c.args.bytes.now c.loop-at.at records c.loop-at.records.items (omega arith) inv.fit inv.parts h
