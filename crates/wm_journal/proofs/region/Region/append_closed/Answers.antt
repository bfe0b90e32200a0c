use Rattle.std.proofs.Common.{◌≡◌, ◌≤◌, ◌+◌, List, ℕ, length, get_or, refl, subst, sym, ap, ◌∙◌, arith}
use Rattle.wm_disk.specs.Contents.{Only, overwritten}
use Rattle.wm_journal.specs.Records.{taken, gate_places, group}
use Rattle.wm_journal.proofs.Laying.{length-group, gates_below}
use Rattle.wm_journal.specs.laws.Records.{taken-append}
use Rattle.wm_journal.proofs.Appending.{written_leaves, synced_leaves, group_outside, group_stages}
use Rattle.wm_journal.proofs.region.Region.append_closed.Goals as goal

pub returns-in_err-write_at-clause-any_moment : goal.returns-in_err-write_at-clause-any_moment
returns-in_err-write_at-clause-any_moment g c = λ held h rest.
    let D = g.D.Disk in
    let W = g.W.Wire in
    let self = c.args.self.now in
    let bytes = c.deref.result.now in
    let size : length bytes ≡ taken W.spelling c.args.records.now = ap length (c.deref.ensures.value ∙ c.in_ok-group.ensures.bytes) ∙ length-group W.spelling c.args.records.now in
    let within : self.end + 1 + length bytes ≤ self.len = omega (arith, size, c.requires.fits, self.within) in
    let before = c.write_at.ensures.honest h in
    written_leaves D W self held rest (length bytes) within (λ f left. g.met.D.Disk.only_now self.disk f before left) c.write_at.new.self (c.write_at.ensures.crash h) (c.write_at.ensures.time h)

pub returns-in_err-sync-clause-any_moment : goal.returns-in_err-sync-clause-any_moment
returns-in_err-sync-clause-any_moment g c = λ held h rest.
    let D = g.D.Disk in
    let W = g.W.Wire in
    let self = c.args.self.now in
    let bytes = c.deref.result.now in
    let size : length bytes ≡ taken W.spelling c.args.records.now = ap length (c.deref.ensures.value ∙ c.in_ok-group.ensures.bytes) ∙ length-group W.spelling c.args.records.now in
    let within : self.end + 1 + length bytes ≤ self.len = omega (arith, size, c.requires.fits, self.within) in
    let written = c.sync.ensures.honest h in
    let before = c.write_at.ensures.honest written in
    synced_leaves D W self held rest (length bytes) within (λ f left. g.met.D.Disk.only_now self.disk f before left) c.write_at.new.self c.sync.new.self (c.write_at.ensures.crash written) (c.write_at.ensures.time written) (c.sync.ensures.crash h) (c.sync.ensures.time h)

pub invariant_of-self-2-clause-within : goal.invariant_of-self-2-clause-within
invariant_of-self-2-clause-within g c =
    let W = g.W.Wire in
    let size : length c.in_ok-group.group.bytes.items ≡ taken W.spelling c.args.records.now = ap length c.in_ok-group.ensures.bytes ∙ length-group W.spelling c.args.records.now in
    omega (arith, size, c.requires.fits, c.args.self.now.within, c.len.ensures)

pub invariant_of-self-2-clause-inside : goal.invariant_of-self-2-clause-inside
invariant_of-self-2-clause-inside g c = λ i lt.
    let W = g.W.Wire in
    let self = c.args.self.now in
    let are = c.in_ok-group.ensures.gates in
    let below = gates_below W.spelling self.end c.args.records.now i (omega (arith, lt, ap length are)) in
    omega (arith, below, ap (λ (l : List ℕ). get_or l i 0) are, c.requires.fits, self.within)

pub returns-clause-staged : goal.returns-clause-staged
returns-clause-staged g c = λ held h rest.
    let D = g.D.Disk in
    let W = g.W.Wire in
    let self = c.args.self.now in
    let bytes = c.deref.result.now in
    let are : bytes ≡ group W.spelling c.args.records.now = c.deref.ensures.value ∙ c.in_ok-group.ensures.bytes in
    let size : length bytes ≡ taken W.spelling c.args.records.now = ap length are ∙ length-group W.spelling c.args.records.now in
    let within : self.end + 1 + length bytes ≤ self.len = omega (arith, size, c.requires.fits, self.within) in
    let written = c.sync.ensures.honest h in
    let seen : D.seen c.sync.new.self ≡ overwritten (D.seen self.disk) (self.offset + (self.end + 1)) bytes = c.sync.ensures.seen h ∙ c.in_ok-write_at.ensures.written written in
    let outside = group_outside D W self bytes (D.seen c.sync.new.self) within rest.lies seen in
    let long : c.len.result ≡ taken W.spelling c.args.records.now = omega (arith, c.len.ensures, ap length c.in_ok-group.ensures.bytes, length-group W.spelling c.args.records.now) in
    record {
      lies = omega (arith, rest.lies, outside.size);
      stages = group_stages D W self bytes (D.seen c.sync.new.self) within rest.lies seen held c.args.records.now rest are c.in_ok-group.ensures.fit;
      gates = c.in_ok-group.ensures.gates ∙ ap (λ (k : ℕ). gate_places W.spelling k c.args.records.now) rest.read.end;
      end = omega (arith, long, rest.read.end, taken-append W.spelling held c.args.records.now);
      durable = subst (λ (x : List ℕ). Only x (D.may_leave c.sync.new.self)) (sym (c.sync.ensures.seen h)) (c.in_ok-sync.ensures.durable h);
    }

pub returns-clause-place : goal.returns-clause-place
returns-clause-place g c =
    let D = g.D.Disk in
    let W = g.W.Wire in
    let self = c.args.self.now in
    let bytes = c.deref.result.now in
    let size : length bytes ≡ taken W.spelling c.args.records.now = ap length (c.deref.ensures.value ∙ c.in_ok-group.ensures.bytes) ∙ length-group W.spelling c.args.records.now in
    let within : self.end + 1 + length bytes ≤ self.len = omega (arith, size, c.requires.fits, self.within) in
    let seen = D.seen c.sync.new.self in
    record {
      place = (refl, refl);
      outside = λ h.
          let written = c.sync.ensures.honest h in
          group_outside D W self bytes seen within (c.requires.lies (c.write_at.ensures.honest written)) (c.sync.ensures.seen h ∙ c.in_ok-write_at.ensures.written written);
    }

pub returns-clause-any_moment : goal.returns-clause-any_moment
returns-clause-any_moment g c = λ held h rest.
    let D = g.D.Disk in
    let W = g.W.Wire in
    let self = c.args.self.now in
    let bytes = c.deref.result.now in
    let size : length bytes ≡ taken W.spelling c.args.records.now = ap length (c.deref.ensures.value ∙ c.in_ok-group.ensures.bytes) ∙ length-group W.spelling c.args.records.now in
    let within : self.end + 1 + length bytes ≤ self.len = omega (arith, size, c.requires.fits, self.within) in
    let written = c.sync.ensures.honest h in
    let before = c.write_at.ensures.honest written in
    synced_leaves D W self held rest (length bytes) within (λ f left. g.met.D.Disk.only_now self.disk f before left) c.write_at.new.self c.sync.new.self (c.write_at.ensures.crash written) (c.write_at.ensures.time written) (c.sync.ensures.crash h) (c.sync.ensures.time h)

pub returns-clause-room : goal.returns-clause-room
returns-clause-room g c =
    let W = g.W.Wire in
    let self = c.args.self.now in
    let long : c.len.result ≡ taken W.spelling c.args.records.now = omega (arith, c.len.ensures, ap length c.in_ok-group.ensures.bytes, length-group W.spelling c.args.records.now) in
    omega (arith, long, c.requires.fits, self.within)
