use Rattle.std.proofs.Common.{◌+◌, ◌≡◌, ◌≤◌, ◌⊎◌, inl, inr, refl, sym, ◌∙◌, ap, subst, arith, true, false, List, [], vec_len, vec_capacity, Err}
use Rattle.std.specs.Prelude.{Option, Some, None}
use Rattle.std.specs.Option.{unwrap_or}
use Rattle.wm_disk.specs.declared.refusal.Refusal.{Refusal}
use Rattle.wm_disk.specs.declared.refusal.Refusal.TheVariants.{DeviceFailed}
use Rattle.wm_disk.specs.Moments.{LeavesOnly}
use Rattle.wm_journal.specs.Records.{taken}
use Rattle.wm_registry.specs.Commands.{command_spelling}
use Rattle.wm_registry.specs.declared.command.Command.{Command}
use Rattle.wm_registry.specs.MachineLaws.{watches_in}
use Rattle.wm_registry.specs.Roots.{State}
use Rattle.wm_checkpoint.specs.Kept.{disk_of, state_of, room_left, slot_number_of}
use Rattle.wm_checkpoint.specs.Machines.{AllChange, replayed}
use Rattle.wm_checkpoint.specs.Meanings.{MeansPrefix}
use Rattle.wm_checkpoint.specs.laws.Numbering.{numbered_more}
use Rattle.wm_store.proofs.Keepers.{commit_facts}
use Rattle.wm_store.proofs.Batching.{past_same, past_committed, cut_committing, remembered, calls_none, whole_none, ready_same, is_device_two}
use Rattle.wm_store.proofs.batch.Batch.commit_so_far.Goals as goal
use Rattle.wm_registry.specs.Registry.{after_command}
use Rattle.wm_registry.specs.Registry.{changes}

pub commit-requires : goal.commit-requires
commit-requires g c =
    let old = c.args.keeper.now in
    let a = c.args.self.now in
    let ready = c.requires.ready in
    let group : c.deref.result.now ≡ a.group.items = c.deref.ensures.value ∙ ap (λ b. b.group.items) c.in-Ok-remember.ensures.same in
    record {
      kept = ready.kept;
      fits = subst (λ (l : List Command). taken (command_spelling g.V.Filed.version) l ≤ room_left old) (sym group) (omega (arith, ready.size, ready.fits));
      leads = record {
        accepted = subst (λ (l : List Command). AllChange after_command changes (state_of old) l) (sym group) ready.accepted;
        is = c.new.ensures ∙ c.in-Ok.ensures ∙ ready.next ∙ ap (λ (l : List Command). replayed after_command (state_of old) l) (sym group);
      };
    }

pub returns-in_default : goal.returns-in_default
returns-in_default g c =
    let D = g.D.Disk in
    let old = c.args.keeper.now in
    let a = c.args.self.now in
    record {
      goes_on = record {
        ready = ready_same D g.V.Layout.sizes g.V.Filed.version old old a _ c.requires.ready refl refl refl refl refl;
        same = (refl, refl);
        room = record { replies = omega arith; group = omega arith };
        past = λ start done p. past_same D g.V.Layout.sizes g.V.Filed.version start done old old a _ p refl refl refl refl (inl refl);
      };
      made = inr refl;
      cut = tt;
      keeper = record {
        calls = calls_none D g.V.Layout.sizes g.V.Filed.version 0 old old refl;
        whole = whole_none D g.V.Layout.sizes g.V.Filed.version old old refl c.requires.ready.kept c.requires.ready.whole;
        down = tt;
      };
    }

pub returns-in_default-remember : goal.returns-in_default-remember
returns-in_default-remember g c =
    let D = g.D.Disk in
    let old = c.args.keeper.now in
    let a = c.args.self.now in
    let r = c.remember.new.self in
    let same : r ≡ a = c.in_default-remember.ensures.err in
    record {
      goes_on = record {
        ready = ready_same D g.V.Layout.sizes g.V.Filed.version old old a _ c.requires.ready refl (ap (λ b. b.next) same) (ap (λ b. b.group) same) (ap (λ b. b.size) same) (ap (λ b. b.replies) same);
        same = (ap (λ b. b.next) same, ap (λ b. b.replies) same);
        room = record { replies = subst (λ b. vec_capacity a.replies ≤ vec_capacity b.replies) (sym same) (omega arith); group = subst (λ b. vec_capacity a.group ≤ vec_capacity b.group) (sym same) (omega arith) };
        past = λ start done p. past_same D g.V.Layout.sizes g.V.Filed.version start done old old a _ p refl (ap (λ b. b.group) same) (ap (λ b. b.replies) same) (ap (λ b. b.first) same) (inl (ap (λ b. b.before) same));
      };
      made = inr refl;
      cut = tt;
      keeper = record {
        calls = calls_none D g.V.Layout.sizes g.V.Filed.version 0 old old refl;
        whole = whole_none D g.V.Layout.sizes g.V.Filed.version old old refl c.requires.ready.kept c.requires.ready.whole;
        down = tt;
      };
    }

-- what was kept, as a state
kept_before : (a now : Option State) (s t : State) → t ≡ s → ((a ≡ None) × (now ≡ Some t)) ⊎ ((x : State) × (a ≡ Some x) × (now ≡ Some x)) → ((a ≡ None) × (now ≡ Some s)) ⊎ ((x : State) × (a ≡ Some x) × (now ≡ Some x))
kept_before a now s t same (inl h) = inl (h.0, h.1 ∙ ap (λ (x : State). Some x) same)
kept_before a now s t same (inr h) = inr h

pub returns-in-Ok-commit : goal.returns-in-Ok-commit
returns-in-Ok-commit g c =
    let D = g.D.Disk in
    let old = c.args.keeper.now in
    let new = c.commit.new.self in
    let a = c.args.self.now in
    let r = c.remember.new.self in
    let e = c.in-Ok-commit.ensures in
    let k = commit_facts g.V.Layout.sizes g.V.Filed.version old new c.deref.result.now c.new.result _ e.kept e.committed e.crash e.device e.refusals in
    let ready = c.requires.ready in
    let same = c.in-Ok-remember.ensures.same in
    let none : c.clear.new.self.items ≡ [] = c.clear.ensures.items in
    let group : c.deref.result.now ≡ a.group.items = c.deref.ensures.value ∙ ap (λ b. b.group.items) same in
    let made : state_of new ≡ a.next = k.state.0 ∙ c.new.ensures ∙ c.in-Ok.ensures in
    record {
      goes_on = record {
        ready = record {
          kept = k.kept;
          whole = k.state.1;
          version = ap (λ b. b.next.version) same ∙ ready.version;
          accepted = subst (λ (l : List Command). AllChange after_command changes (state_of new) l) (sym none) tt;
          next = ap (λ b. b.next) same ∙ sym made ∙ ap (λ (l : List Command). replayed after_command (state_of new) l) (sym none);
          size = ap (λ (l : List Command). taken (command_spelling g.V.Filed.version) l) (sym none);
          fits = omega arith;
          len = omega (arith, c.clear.ensures.len);
        };
        same = (ap (λ b. b.next) same, ap (λ b. b.replies) same);
        room = record { replies = subst (λ v. vec_capacity a.replies ≤ vec_capacity v) (sym (ap (λ b. b.replies) same)) (omega arith); group = omega (arith, c.clear.ensures.capacity, ap (λ b. vec_capacity b.group) same) };
        past = λ start done p. past_committed D g.V.Layout.sizes g.V.Filed.version start done old new a _ p (made ∙ ready.next) k.honest
            (λ h. subst (λ (l : List Command). LeavesOnly D.moment D.left_since (disk_of old) (disk_of new) (MeansPrefix (watches_in g.V.Layout.sizes g.V.Filed.version) (state_of old) l)) group (k.any_moment ready.whole h))
            none (ap (λ b. b.replies) same) (c.len-self.ensures ∙ ap (λ b. vec_len b.replies) same ∙ a.replies.ok.0)
            (remembered D g.V.Layout.sizes g.V.Filed.version start done old a r.before p (kept_before a.before r.before (state_of old) c.registry.result.now (c.registry.ensures.value ∙ c.state.ensures) c.in-Ok-remember.ensures.ok));
      };
      made = inl (
        ap (λ b. b.refused) same ∙ c.requires.open_yet,
        none,
        record {
          number = k.slot.1;
          room = omega (arith, subst (λ (l : List Command). room_left new + taken (command_spelling g.V.Filed.version) l ≡ room_left old) group k.room);
        },
      );
      cut = tt;
      keeper = record {
        calls = record { least = omega (arith, k.slot.1); most = omega (arith, k.slot.1); honest = k.honest; later = k.later; numbered = λ h n le all x left. numbered_more g.V.Layout.sizes (slot_number_of old) (n + 0) x (omega (arith, le)) (k.numbered c.requires.ready.whole h x left) };
        whole = record { kept = k.kept; up = k.state.1; count = k.whole };
        down = tt;
      };
    }

pub returns-in-NoMemory : goal.returns-in-NoMemory
returns-in-NoMemory g c =
    let D = g.D.Disk in
    let old = c.args.keeper.now in
    let new = c.commit.new.self in
    let a = c.args.self.now in
    let r = c.remember.new.self in
    let f = c.in-Err.ensures in
    let k = commit_facts g.V.Layout.sizes g.V.Filed.version old new c.deref.result.now c.new.result _ f.kept f.committed f.crash f.device f.refusals in
    let still : new ≡ old = k.memory (ap (λ (x : Refusal). Err x) c.in-NoMemory.is) in
    let same = c.in-Ok-remember.ensures.same in
    record {
      goes_on = record {
        ready = ready_same D g.V.Layout.sizes g.V.Filed.version old new a _ c.requires.ready still (ap (λ b. b.next) same) (ap (λ b. b.group) same) (ap (λ b. b.size) same) (ap (λ b. b.replies) same);
        same = (ap (λ b. b.next) same, ap (λ b. b.replies) same);
        room = record { replies = subst (λ v. vec_capacity a.replies ≤ vec_capacity v) (sym (ap (λ b. b.replies) same)) (omega arith); group = subst (λ v. vec_capacity a.group ≤ vec_capacity v) (sym (ap (λ b. b.group) same)) (omega arith) };
        past = λ start done p. past_same D g.V.Layout.sizes g.V.Filed.version start done old new a _ p still (ap (λ b. b.group) same) (ap (λ b. b.replies) same) (ap (λ b. b.first) same)
            (inr (remembered D g.V.Layout.sizes g.V.Filed.version start done old a r.before p (kept_before a.before r.before (state_of old) c.registry.result.now (c.registry.ensures.value ∙ c.state.ensures) c.in-Ok-remember.ensures.ok)));
      };
      made = inr refl;
      cut = tt;
      keeper = record {
        calls = calls_none D g.V.Layout.sizes g.V.Filed.version 0 old new still;
        whole = whole_none D g.V.Layout.sizes g.V.Filed.version old new still c.requires.ready.kept c.requires.ready.whole;
        down = tt;
      };
    }

pub returns-in_default-refusal : goal.returns-in_default-refusal
returns-in_default-refusal g c =
    let D = g.D.Disk in
    let old = c.args.keeper.now in
    let new = c.commit.new.self in
    let a = c.args.self.now in
    let r = c.remember.new.self in
    let f = c.in-Err.ensures in
    let k = commit_facts g.V.Layout.sizes g.V.Filed.version old new c.deref.result.now c.new.result _ f.kept f.committed f.crash f.device f.refusals in
    let same = c.in-Ok-remember.ensures.same in
    let group : c.deref.result.now ≡ a.group.items = c.deref.ensures.value ∙ ap (λ b. b.group.items) same in
    let is : c.in-Err.refusal ≡ DeviceFailed = is_device_two c.in-Err.refusal k.kinds c.in_default-refusal.not-NoMemory
    (λ e. let up : true ≡ false = sym (k.down (ap (λ (x : Refusal). Err x) e)).0 ∙ c.requires.ready.whole in absurd cc) in
    let fell = k.failed (ap (λ (x : Refusal). Err x) is) in
    record {
      goes_on = tt;
      made = tt;
      cut = λ start done p.
          let before = remembered D g.V.Layout.sizes g.V.Filed.version start done old a r.before p (kept_before a.before r.before (state_of old) c.registry.result.now (c.registry.ensures.value ∙ c.state.ensures) c.in-Ok-remember.ensures.ok) in
          cut_committing D g.V.Layout.sizes g.V.Filed.version start done old new a r.before p (ap (λ (o : Option State). unwrap_or o (state_of new)) before) k.honest
          (λ h. subst (λ (l : List Command). LeavesOnly D.moment D.left_since (disk_of old) (disk_of new) (MeansPrefix (watches_in g.V.Layout.sizes g.V.Filed.version) (state_of old) l)) group (k.any_moment c.requires.ready.whole h));
      keeper = record {
        calls = record { least = omega (arith, k.slot.1); most = omega (arith, k.slot.1); honest = k.honest; later = k.later; numbered = λ h n le all x left. numbered_more g.V.Layout.sizes (slot_number_of old) (n + 0) x (omega (arith, le)) (k.numbered c.requires.ready.whole h x left) };
        whole = tt;
        down = record { kept = k.kept; down = fell.1; rose = fell.0 };
      };
    }
