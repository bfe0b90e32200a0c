use Rattle.std.proofs.Common.{◌+◌, ◌≡◌, ◌≤◌, refl, sym, ◌∙◌, ap, subst, arith, true, false, List, Err}
use Rattle.wm_disk.specs.declared.refusal.Refusal.{Refusal}
use Rattle.wm_disk.specs.declared.refusal.Refusal.TheVariants.{DeviceFailed}
use Rattle.wm_disk.specs.Moments.{LeavesOnly}
use Rattle.wm_journal.specs.Records.{taken}
use Rattle.wm_registry.specs.Commands.{command_spelling}
use Rattle.wm_registry.specs.declared.command.Command.{Command}
use Rattle.wm_registry.specs.declared.reply.Reply.{Reply}
use Rattle.wm_registry.specs.MachineLaws.{watches_in}
use Rattle.wm_checkpoint.specs.Kept.{disk_of, state_of, room_left, slot_number_of}
use Rattle.wm_checkpoint.specs.Machines.{AllChange, replayed}
use Rattle.wm_checkpoint.specs.Meanings.{MeansPrefix}
use Rattle.wm_checkpoint.specs.laws.Numbering.{numbered_more}
use Rattle.wm_store.specs.UnderWay.{IsDone}
use Rattle.wm_store.proofs.Keepers.{commit_facts}
use Rattle.wm_store.proofs.Batching.{calls_none, whole_none, is_device_two}
use Rattle.wm_store.proofs.Finishing.{no_group, some_group, done_empty, done_committed, done_out_of_memory, cut_last}
use Rattle.wm_store.proofs.batch.Batch.finish.Goals as goal
use Rattle.wm_registry.specs.Registry.{after_command}
use Rattle.wm_registry.specs.Registry.{changes}

pub commit-requires : goal.commit-requires
commit-requires g c =
    let old = c.args.keeper.now in
    let b = c.args.self in
    let ready = c.requires.ready in
    let group : c.deref.result.now ≡ b.group.items = c.deref.ensures.value in
    record {
      kept = ready.kept;
      fits = subst (λ (l : List Command). taken (command_spelling g.V.Filed.version) l ≤ room_left old) (sym group) (omega (arith, ready.size, ready.fits));
      leads = record {
        accepted = subst (λ (l : List Command). AllChange after_command changes (state_of old) l) (sym group) ready.accepted;
        is = c.new-next.ensures ∙ c.into_registry.ensures ∙ ready.next ∙ ap (λ (l : List Command). replayed after_command (state_of old) l) (sym group);
      };
    }

pub refuse_from-requires : goal.refuse_from-requires
refuse_from-requires g c = c.requires.first

pub returns-then-is_empty : goal.returns-then-is_empty
returns-then-is_empty g c =
    let D = g.D.Disk in
    let old = c.args.keeper.now in
    let b = c.args.self in
    let none = no_group b c.if-is_empty.ensures in
    record {
      done = λ start commands p f idle slot. done_empty D g.V.Layout.sizes g.V.Filed.version start commands old b none p f idle slot;
      cut = tt;
      keeper = record {
        calls = calls_none D g.V.Layout.sizes g.V.Filed.version 0 old old refl;
        whole = whole_none D g.V.Layout.sizes g.V.Filed.version old old refl c.requires.ready.kept c.requires.ready.whole;
        down = tt;
      };
    }

pub returns-in-Ok : goal.returns-in-Ok
returns-in-Ok g c =
    let D = g.D.Disk in
    let old = c.args.keeper.now in
    let new = c.commit.new.self in
    let b = c.args.self in
    let e = c.in-Ok.ensures in
    let k = commit_facts g.V.Layout.sizes g.V.Filed.version old new c.deref.result.now c.new-next.result _ e.kept e.committed e.crash e.device e.refusals in
    let ready = c.requires.ready in
    let group : c.deref.result.now ≡ b.group.items = c.deref.ensures.value in
    record {
      done = λ start commands p f idle slot. done_committed D g.V.Layout.sizes g.V.Filed.version start commands old new b (some_group b c.if-is_empty.ensures) p f slot
          (record { number = k.slot.1; room = omega (arith, subst (λ (l : List Command). room_left new + taken (command_spelling g.V.Filed.version) l ≡ room_left old) group k.room) }) (k.state.0 ∙ c.new-next.ensures ∙ c.into_registry.ensures ∙ ready.next) k.honest
          (λ h. subst (λ (l : List Command). LeavesOnly D.moment D.left_since (disk_of old) (disk_of new) (MeansPrefix (watches_in g.V.Layout.sizes g.V.Filed.version) (state_of old) l)) group (k.any_moment ready.whole h));
      cut = tt;
      keeper = record {
        calls = record { least = omega (arith, k.slot.1); most = omega (arith, k.slot.1); honest = k.honest; later = k.later; numbered = λ h n le all x left. numbered_more g.V.Layout.sizes (slot_number_of old) (n + 0) x (omega (arith, le)) (k.numbered c.requires.ready.whole h x left) };
        whole = record { kept = k.kept; up = k.state.1; count = k.whole };
        down = tt;
      };
    }

pub returns-in-NoMemory : goal.returns-in-NoMemory
returns-in-NoMemory g c =
    let D = g.D.Disk in
    let old = c.args.keeper.now in
    let new = c.commit.new.self in
    let b = c.args.self in
    let f = c.in-Err.ensures in
    let k = commit_facts g.V.Layout.sizes g.V.Filed.version old new c.deref.result.now c.new-next.result _ f.kept f.committed f.crash f.device f.refusals in
    let still : new ≡ old = k.memory (ap (λ (x : Refusal). Err x) c.in-NoMemory.is) in
    record {
      done = λ start commands p f idle slot. subst (λ (l : List Reply). IsDone D g.V.Layout.sizes g.V.Filed.version start commands new l) (sym c.refuse_from.ensures) (done_out_of_memory D g.V.Layout.sizes g.V.Filed.version start commands old new b (some_group b c.if-is_empty.ensures) p f still);
      cut = tt;
      keeper = record {
        calls = calls_none D g.V.Layout.sizes g.V.Filed.version 0 old new still;
        whole = whole_none D g.V.Layout.sizes g.V.Filed.version old new still c.requires.ready.kept c.requires.ready.whole;
        down = tt;
      };
    }

pub returns-in_default : goal.returns-in_default
returns-in_default g c =
    let D = g.D.Disk in
    let old = c.args.keeper.now in
    let new = c.commit.new.self in
    let b = c.args.self in
    let f = c.in-Err.ensures in
    let k = commit_facts g.V.Layout.sizes g.V.Filed.version old new c.deref.result.now c.new-next.result _ f.kept f.committed f.crash f.device f.refusals in
    let group : c.deref.result.now ≡ b.group.items = c.deref.ensures.value in
    let is : c.in-Err.refusal ≡ DeviceFailed = is_device_two c.in-Err.refusal k.kinds c.in_default.not-NoMemory
    (λ e. let up : true ≡ false = sym (k.down (ap (λ (x : Refusal). Err x) e)).0 ∙ c.requires.ready.whole in absurd cc) in
    let fell = k.failed (ap (λ (x : Refusal). Err x) is) in
    record {
      done = tt;
      cut = record {
        cut = λ start commands p. cut_last D g.V.Layout.sizes g.V.Filed.version start commands old new b p k.unchanged k.honest
            (λ h. subst (λ (l : List Command). LeavesOnly D.moment D.left_since (disk_of old) (disk_of new) (MeansPrefix (watches_in g.V.Layout.sizes g.V.Filed.version) (state_of old) l)) group (k.any_moment c.requires.ready.whole h));
        some = some_group b c.if-is_empty.ensures;
      };
      keeper = record {
        calls = record { least = omega (arith, k.slot.1); most = omega (arith, k.slot.1); honest = k.honest; later = k.later; numbered = λ h n le all x left. numbered_more g.V.Layout.sizes (slot_number_of old) (n + 0) x (omega (arith, le)) (k.numbered c.requires.ready.whole h x left) };
        whole = tt;
        down = record { kept = k.kept; down = fell.1; rose = fell.0 };
      };
    }
