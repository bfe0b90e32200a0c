use Rattle.std.proofs.Common.{◌≡◌, ◌+◌, ◌*◌, ℕ, List, length, subst, sym, arith, ◌∙◌}
use Rattle.wm_checkpoint.specs.Layout.{file_len}
use Rattle.wm_checkpoint.specs.Formatting.{IsZeroTo, chunk_len}
use Rattle.wm_checkpoint.proofs.Formatted.{zero_more}
use Rattle.wm_checkpoint.proofs.Halves.{on_ok}
use Rattle.wm_checkpoint.proofs.format.write_zeros.Goals as goal

pub write_at-requires : goal.write_at-requires
write_at-requires g c = λ h. (c.loop-i.invariant.zero h).long

pub loop-i-preserved : goal.loop-i-preserved
loop-i-preserved g c =
    let i = c.loop-i.invariant in
    record {
      honest = λ h. i.honest (c.write_at.ensures.honest h);
      whole = c.in_ok-write_at.ensures.count.whole ∙ i.whole;
      zero = λ h.
          let next = zero_more (c.loop-i.i * chunk_len) (g.D.Disk.seen c.loop-i.disk) c.args.chunk.now (i.zero (c.write_at.ensures.honest h)) c.requires.chunk.1 in
          let e : c.loop-i.i * chunk_len + length c.args.chunk.now ≡ (c.loop-i.i + 1) * chunk_len = omega (arith, c.requires.chunk.0) in
          subst (λ (n : ℕ). IsZeroTo n (g.D.Disk.seen c.write_at.new.self)) e (subst (λ (x : List ℕ). IsZeroTo (c.loop-i.i * chunk_len + length c.args.chunk.now) x) (sym (c.in_ok-write_at.ensures.written h)) next);
    }

pub returns-clause-zero : goal.returns-clause-zero
returns-clause-zero g c = λ h.
    let i = c.loop-i.invariant in
    let seen = g.D.Disk.seen c.loop-i.disk in
    let n = c.chunks-chunks.result in
    let at : c.loop-i.i ≡ n = omega (arith, c.loop-i-test.false, c.loop-i.auto.i-end) in
    let next = zero_more (n * chunk_len) seen c.args.rest.now (subst (λ (k : ℕ). IsZeroTo (k * chunk_len) seen) at (i.zero (c.write_at-2.ensures.honest h))) c.requires.rest.1 in
    let e : n * chunk_len + length c.args.rest.now ≡ file_len g.L.Layout.sizes = omega (arith, c.requires.rest.0, c.chunks-chunks.ensures) in
    on_ok c.write_at-2.result (λ eq. subst (λ (k : ℕ). IsZeroTo k (g.D.Disk.seen c.write_at-2.new.self)) e (subst (λ (x : List ℕ). IsZeroTo (n * chunk_len + length c.args.rest.now) x) (sym eq) next)) (c.write_at-2.ensures.written h)

pub write_at-requires-2 : goal.write_at-requires-2
write_at-requires-2 g c = λ h.
    let z = (c.loop-i.invariant.zero h).long in
    omega (arith, z, c.loop-i-test.false)
