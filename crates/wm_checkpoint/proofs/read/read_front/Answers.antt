use Rattle.std.proofs.Common.{◌≡◌, ◌≤◌, List, ℕ, length, take, arith, ap, ◌∙◌, rules}
use Rattle.wm_checkpoint.proofs.Halves.{whole_read}
use Rattle.wm_checkpoint.proofs.Deciding.{take_min}
use Rattle.wm_checkpoint.proofs.read.read_front.Goals as goal

pub returns-clause-read : goal.returns-clause-read
returns-clause-read g c = λ h.
    let D = g.D.Disk in
    let h2 = c.read_at.ensures.honest h in
    let h1 = c.sync.ensures.honest h2 in
    let old = D.seen c.args.disk.now in
    let same : D.seen c.sync.new.self ≡ old = c.sync.ensures.seen h2 ∙ c.len.ensures.seen h1 in
    let size : ℕ = c.min-len.result in
    let n : c.resize.new.self.len ≡ size = search rules in
    let k : length c.deref_mut.result.now ≡ size = search rules in
    let le : size ≤ length old = omega (arith, c.in_ok-len.ensures.length h1, c.min-len.ensures) in
    let is = whole_read size c.read_at.new.bytes c.resize.new.self.items old c.resize.new.self.len (length c.deref_mut.result.now) n k (c.in_ok-read_at.ensures.bytes h ∙ ap (λ (x : List ℕ). take (length c.deref_mut.result.now) x) same) le in
    is ∙ ap (λ n. take n old) c.min-len.ensures ∙ take_min c.in_ok-len.len c.args.most old (c.in_ok-len.ensures.length h1)
