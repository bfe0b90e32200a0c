use Rattle.std.proofs.Common.{rules, ◌≡◌, ℕ, ◌+◌, List, [], ◌∷◌, ◌++◌, length, take, sym, ap, ◌∙◌, subst}
use Rattle.std.proofs.lemmas.List.{take_more}
use Rattle.std.specs.List.{AllByRecursion}
use Rattle.wm_journal.specs.Records.{taken, gate_places, group}
use Rattle.wm_journal.proofs.Laying.{gate_places-append, group-append, length-group, AllByRecursion-append}
use Rattle.wm_journal.proofs.group.laid_out.Goals as goal

pub loop-record-preserved : goal.loop-record-preserved
loop-record-preserved g c =
    let W = g.W.Wire in
    let i = c.loop-record.record-index in
    let inv = c.loop-record.invariant in
    let v = c.record-item.result in
    let so_far = take i c.args.records.now in
    let bytes = c.loop-record.bytes.items in
    let more : take (i + 1) c.args.records.now ≡ so_far ++ v ∷ [] = take_more c.args.records.now i v c.loop-record-test.true ∙ ap (λ x. so_far ++ x ∷ []) (sym c.record-item.is) in
    let gates_are : c.push.new.self.items ≡ c.loop-record.gates.items ++ (c.args.place + length bytes) ∷ [] = search rules in
    let bytes_are : c.push-in-loop-record.new.self.items ≡ bytes ++ W.spelling v ++ 0 ∷ [] = search rules in
    let long : length bytes ≡ taken W.spelling so_far = ap length inv.bytes ∙ length-group W.spelling so_far in
    record {
      gates = gates_are ∙ ap (λ (l : List ℕ). l ++ (c.args.place + length bytes) ∷ []) inv.gates ∙ ap (λ (n : ℕ). gate_places W.spelling c.args.place so_far ++ (c.args.place + n) ∷ []) long ∙ sym (gate_places-append W.spelling c.args.place so_far v) ∙ ap (λ l. gate_places W.spelling c.args.place l) (sym more);
      bytes = bytes_are ∙ ap (λ (l : List ℕ). l ++ W.spelling v ++ 0 ∷ []) inv.bytes ∙ sym (group-append W.spelling so_far v) ∙ ap (λ l. group W.spelling l) (sym more);
      fit = subst (λ l. AllByRecursion W.fits l) (sym more) (AllByRecursion-append W.fits so_far (v ∷ []) inv.fit (c.size.ensures.fits, tt));
    }
