use Rattle.std.proofs.Common.{◌++◌, List, ℕ, length, refl, subst, sym, ap, ◌∙◌, arith}
use Rattle.wm_disk.specs.Contents.{Only}
use Rattle.wm_disk.specs.Moments.{goes_on}
use Rattle.wm_journal.specs.Areas.{area, SameOutside}
use Rattle.wm_journal.specs.Records.{HoldsRecords}
use Rattle.wm_journal.specs.Regions.{HoldsPrefix}
use Rattle.wm_journal.proofs.Opening.{opened_all, InRegion, staged_under, staged_crash, beginning}
use Rattle.wm_disk.specs.laws.Runs.{weaker}
use Rattle.wm_journal.proofs.region.Region.open_gates.Goals as goal

pub returns-in_err-open_each-clause-any_moment : goal.returns-in_err-open_each-clause-any_moment
returns-in_err-open_each-clause-any_moment g c = λ held added h s.
    let D = g.D.Disk in
    let W = g.W.Wire in
    let self = c.args.self.now in
    weaker D.moment D.left_since self.disk c.open_each.new.disk (InRegion D W self held added) (HoldsPrefix W self held added) (c.open_each.ensures.any_moment held added (D.seen self.disk) (c.deref.ensures.value ∙ s.gates) (staged_crash D W self held added s) h) (beginning D W self held added)

pub returns-in_err-sync-clause-any_moment : goal.returns-in_err-sync-clause-any_moment
returns-in_err-sync-clause-any_moment g c = λ held added h s.
    let D = g.D.Disk in
    let W = g.W.Wire in
    let self = c.args.self.now in
    let before = D.seen self.disk in
    let opened = c.sync.ensures.honest h in
    let gates = c.deref.ensures.value ∙ s.gates in
    let crash = staged_crash D W self held added s in
    let run = weaker D.moment D.left_since self.disk c.open_each.new.disk (InRegion D W self held added) (HoldsPrefix W self held added) (c.open_each.ensures.any_moment held added before gates crash opened) (beginning D W self held added) in
    goes_on D.moment D.left_since self.disk c.open_each.new.disk c.sync.new.self (HoldsPrefix W self held added) _ run (c.sync.ensures.time h) (λ f now. beginning D W self held added f (c.open_each.ensures.crash held added before opened gates crash f (c.sync.ensures.crash h f now)))

pub returns-clause-any_moment : goal.returns-clause-any_moment
returns-clause-any_moment g c = λ held added h s.
    let D = g.D.Disk in
    let W = g.W.Wire in
    let self = c.args.self.now in
    let before = D.seen self.disk in
    let opened = c.sync.ensures.honest h in
    let gates = c.deref.ensures.value ∙ s.gates in
    let crash = staged_crash D W self held added s in
    let run = weaker D.moment D.left_since self.disk c.open_each.new.disk (InRegion D W self held added) (HoldsPrefix W self held added) (c.open_each.ensures.any_moment held added before gates crash opened) (beginning D W self held added) in
    goes_on D.moment D.left_since self.disk c.open_each.new.disk c.sync.new.self (HoldsPrefix W self held added) _ run (c.sync.ensures.time h) (λ f now. beginning D W self held added f (c.open_each.ensures.crash held added before opened gates crash f (c.sync.ensures.crash h f now)))

pub returns-clause-place : goal.returns-clause-place
returns-clause-place g c =
    let D = g.D.Disk in
    let self = c.args.self.now in
    record {
      place = (refl, refl);
      outside = λ h. subst (λ (x : List ℕ). SameOutside self.offset self.len (D.seen self.disk) x) (sym (c.sync.ensures.seen h)) (c.in_ok-open_each.ensures.outside (c.sync.ensures.honest h));
    }

pub returns-clause-opened : goal.returns-clause-opened
returns-clause-opened g c = λ held added h s.
    let D = g.D.Disk in
    let W = g.W.Wire in
    let self = c.args.self.now in
    let before = D.seen self.disk in
    let same = c.sync.ensures.seen h in
    let o = c.in_ok-open_each.ensures.opened held added before (c.sync.ensures.honest h) (c.deref.ensures.value ∙ s.gates) (staged_under D W self held added s) in
    let done = opened_all W held added self.offset self.len before (D.seen c.open_each.new.disk) o in
    record {
      lies = omega (arith, s.lies, o.under.outside.size, ap length same);
      read = record {
        holds = subst (λ (x : List ℕ). HoldsRecords W (held ++ added) (area self.offset self.len x)) (sym same) done;
        end = s.end;
        none_staged = c.clear.ensures.items;
      };
      durable = subst (λ (x : List ℕ). Only x (D.may_leave c.sync.new.self)) (sym same) (c.in_ok-sync.ensures.durable h);
    }
