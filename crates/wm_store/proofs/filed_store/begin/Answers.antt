use Rattle.std.proofs.Common.{refl, ap, subst}
use Rattle.std.specs.Prelude.{false, Err, None}
use Rattle.wm_registry.specs.Roots.{State}
use Rattle.wm_registry.specs.MachineLaws.{watches_in}
use Rattle.wm_checkpoint.specs.Meanings.{MeansState}
use Rattle.wm_checkpoint.specs.Kept.{disk_of}
use Rattle.wm_checkpoint.specs.laws.Uncalled.{kept_numbered}
use Rattle.wm_store.proofs.Stores.{means_kept, means_up, numbered_up, up}
use Rattle.wm_store.proofs.filed_store.begin.Goals as goal

pub begin_in-requires : goal.begin_in-requires
begin_in-requires g c = c.requires

pub invariant_of-result : goal.invariant_of-result
invariant_of-result g c = up g.D.Disk g.V.Layout.sizes g.V.Filed.version g.met.V.Filed.laid_out c.begin_in.new.keeper c.in-Ok.ensures.calls.kept c.in-Ok.ensures.calls.works false

pub returns-in-Ok : goal.returns-in-Ok
returns-in-Ok g c =
    let D = g.D.Disk in
    let new = c.begin_in.new.keeper in
    let k = c.in-Ok.ensures in
    record {
      begun = record {
        registry = k.begun.state;
        changed = k.begun.changed;
        number = k.calls.calls.most;
        stays = k.begun.stays;
        moves = k.begun.moves;
        any_moment = k.any_moment;
      };
      works = record {
        up = k.calls.works;
        open_yet = refl;
        means = λ h x left. means_up D g.V.Layout.sizes g.V.Filed.version g.met.V.Filed.laid_out new k.calls.kept k.calls.works h x left;
        numbered = λ h x left. numbered_up D g.V.Layout.sizes g.V.Filed.version g.met.V.Filed.laid_out new k.calls.kept k.calls.works None (λ _. refl) h _ x (kept_numbered D (watches_in g.V.Layout.sizes g.V.Filed.version) new (k.calls.kept.kept k.calls.works h) x left);
      };
      unbegun = tt;
      calls = record {
        honest = (k.calls.device.honest, tt);
        failures_grow = (k.calls.device.failures_grow, tt);
        no_failure = k.calls.device.no_failure;
        failed = tt;
        failures_kept = tt;
      };
      kinds = tt;
    }

pub returns-in-Err : goal.returns-in-Err
returns-in-Err g c =
    let D = g.D.Disk in
    let new = c.begin_in.new.keeper in
    let k = c.in-Err.ensures in
    let there = c.into_disk.ensures in
    rw there (record {
      begun = tt;
      works = tt;
      unbegun = record {
        cut = k.any_moment;
        unbegun = λ h no x left. subst (λ (t : State). MeansState (watches_in g.V.Layout.sizes g.V.Filed.version) t x) (k.unbegun no).state (means_kept D g.V.Layout.sizes g.V.Filed.version g.met.V.Filed.laid_out new k.calls.kept (k.calls.unfailed no) h x left);
        still = λ no. (k.unbegun no).any_moment;
        exhausted = λ e. let x = k.exhausted (ap (λ y. Err y) e) in (x.0, ap (λ y. disk_of y) x.1);
        numbered = λ h n le all x left. k.calls.calls.numbered h n le all x left;
      };
      calls = record {
        honest = (tt, k.calls.device.honest);
        failures_grow = (tt, k.calls.device.failures_grow);
        no_failure = tt;
        failed = λ e. k.calls.device.failed (ap (λ y. Err y) e);
        failures_kept = k.calls.device.failures_kept;
      };
      kinds = k.kinds;
    })
