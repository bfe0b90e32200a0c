use Rattle.std.proofs.Common.{rules, ◌≡◌, List, ℕ, subst, sym, arith, ap, ◌∙◌, length, take, drop}
use Rattle.std.proofs.lemmas.List.{take_at}
use Rattle.wm_journal.specs.Areas.{area}
use Rattle.wm_journal.specs.Records.{HoldsRecords}
use Rattle.wm_journal.proofs.region.Region.scan.Goals as goal

pub returns-in-None-clause-damaged : goal.returns-in-None-clause-damaged
returns-in-None-clause-damaged g c = λ h e records holds.
    let W = g.W.Wire in
    let self = c.args.self.now in
    let none : (vs : List _) → HoldsRecords W vs c.deref.result.now → ⊥ = rw c.in-None.is at c.in_ok-read_records.ensures.none in
    let long : length c.deref_mut.result.now ≡ self.len = omega (arith, c.deref_mut.ensures.len, c.in_ok-resize.ensures.len) in
    let whole : length c.read_at.new.bytes ≡ c.resize.new.self.len = search rules in
    let back : c.deref.result.now ≡ take (length c.deref_mut.result.now) (drop self.offset (g.D.Disk.seen self.disk)) = c.deref.ensures.value ∙ take_at c.read_at.new.bytes _ c.resize.new.self.len whole ∙ c.in_ok-read_at.ensures.bytes h in
    let are : c.deref.result.now ≡ area self.offset self.len (g.D.Disk.seen self.disk) = back ∙ ap (λ (n : ℕ). take n (drop self.offset (g.D.Disk.seen self.disk))) long in
    none records (subst (λ (l : List ℕ). HoldsRecords W records l) (sym are) holds)

pub returns-clause-only : goal.returns-clause-only
returns-clause-only g c = λ h held holds.
    let W = g.W.Wire in
    let self = c.args.self.now in
    let only : (vs : List _) → HoldsRecords W vs c.deref.result.now → vs ≡ c.in-Some.records.items = rw c.in-Some.is at c.in_ok-read_records.ensures.only in
    let long : length c.deref_mut.result.now ≡ self.len = omega (arith, c.deref_mut.ensures.len, c.in_ok-resize.ensures.len) in
    let whole : length c.read_at.new.bytes ≡ c.resize.new.self.len = search rules in
    let back : c.deref.result.now ≡ take (length c.deref_mut.result.now) (drop self.offset (g.D.Disk.seen self.disk)) = c.deref.ensures.value ∙ take_at c.read_at.new.bytes _ c.resize.new.self.len whole ∙ c.in_ok-read_at.ensures.bytes h in
    let are : c.deref.result.now ≡ area self.offset self.len (g.D.Disk.seen self.disk) = back ∙ ap (λ (n : ℕ). take n (drop self.offset (g.D.Disk.seen self.disk))) long in
    only held (subst (λ (l : List ℕ). HoldsRecords W held l) (sym are) holds)
