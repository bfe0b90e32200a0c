use Rattle.std.proofs.Common.{◌≡◌, ◌⊎◌, inl, inr, refl, sym, ◌∙◌, ap, subst, arith, ℕ, ◌+◌, length, take, List, [], true, false, vec_len}
use Rattle.std.specs.Prelude.{Option, None, Ok, Err}
use Rattle.std.specs.Option.{unwrap_or}
use Rattle.std.proofs.lemmas.List.{take_all}
use Rattle.wm_disk.specs.declared.refusal.Refusal.TheVariants.{NoMemory, StoreFailed}
use Rattle.wm_journal.specs.Records.{taken}
use Rattle.wm_registry.specs.Roots.{State}
use Rattle.wm_registry.specs.MachineLaws.{watches_in}
use Rattle.wm_registry.specs.Commands.{command_spelling}
use Rattle.wm_registry.specs.declared.command.Command.{Command}
use Rattle.wm_checkpoint.specs.Meanings.{MeansPrefix}
use Rattle.wm_checkpoint.specs.Kept.{disk_of, state_of, has_failed, slot_number_of}
use Rattle.wm_checkpoint.specs.Machines.{replayed}
use Rattle.wm_checkpoint.specs.laws.Uncalled.{kept_numbered}
use Rattle.wm_checkpoint.specs.laws.Numbering.{numbered_more}
use Rattle.wm_store.specs.Batches.{accepted_of}
use Rattle.wm_store.specs.UnderWay.{AreIdle, AreMet, IsNew}
use Rattle.wm_store.proofs.Replying.{out_of_memory_replies}
use Rattle.wm_store.proofs.Runs.{stood, unbegun}
use Rattle.wm_store.proofs.Stores.{IsInside, fallen, means_up, not_over, numbered_up, stored, uncalled, up}
use Rattle.wm_disk.specs.laws.Runs.{left_after_run}
use Rattle.wm_store.proofs.Endings.{cut_batch, cut_registry, done_batch, done_idle, done_registry, done_slot, none_met, registry_is, still_met}
use Rattle.wm_store.proofs.filed_store.FiledStore.commit_batch.Goals as goal
use Rattle.wm_store.proofs.filed_store.FiledStore.commit_batch.Goals.{then-self-via-then-self, then-self-via-else-self+then-has_failed}
use Rattle.wm_store.specs.Meant.{MeansRegistry}
use Rattle.wm_registry.specs.Registry.{after_command}

pub run-requires : goal.run-requires
run-requires g c =
    let D = g.D.Disk in
    let k = c.self.inside.keeper in
    let alive : has_failed k ≡ false = sym c.if-has_failed.ensures in
    let commands = c.args.commands in
    let replies = c.in-Ok.replies in
    let batch = c.in-Ok-new.batch in
    let idle : AreIdle (state_of k) commands.items replies =
    subst (λ (s : State). AreIdle s commands.items replies) (c.registry-registry.ensures.value ∙ c.state.ensures) (subst (λ (l : List Command). AreIdle c.registry-registry.result.now l replies) c.deref.ensures.value c.in-Ok.ensures) in
    let new : IsNew (state_of k) replies (vec_len commands) batch =
    subst (λ (n : ℕ). IsNew (state_of k) replies n batch) c.len-3.ensures (subst (λ (s : State). IsNew s replies c.len-3.result batch) (c.registry-registry.ensures.value ∙ c.state.ensures) c.in-Ok-new.ensures) in
    record {
      kept = c.self.invariant.0;
      whole = alive;
      version = (ap (λ (s : State). s.version) (sym c.state.ensures) ∙ c.registry-registry.ensures.version);
      idle = subst (λ v. AreIdle (state_of k) commands.items v) (sym new.replies) idle;
      new = subst (λ v. IsNew (state_of k) v (length commands.items) batch) (sym new.replies) (subst (λ (n : ℕ). IsNew (state_of k) replies n batch) commands.ok.0 new);
      standing = λ h. unbegun D g.V.Layout.sizes g.V.Filed.version (disk_of k) (disk_of k) (state_of k) [] (stood D g.V.Layout.sizes g.V.Filed.version g.met.D.Disk.only_now k c.self.invariant.0 alive h);
    }

pub invariant_of-self : goal.invariant_of-self
invariant_of-self g c =
    let D = g.D.Disk in
    let i = c.self.inside in
    let new = c.run.new.keeper in
    let none : i.before ≡ None = c.self.invariant.1 (sym c.if-has_failed.ensures) in
    let m = c.in-Ok-run.ensures in
    subst (λ (b : Option State). IsInside D g.V.Layout.sizes g.V.Filed.version g.met.V.Filed.laid_out new b i.closed) (sym none) (up D g.V.Layout.sizes g.V.Filed.version g.met.V.Filed.laid_out new m.keeper.whole.kept m.keeper.whole.up i.closed)

pub invariant_of-self-in-Err : goal.invariant_of-self-in-Err
invariant_of-self-in-Err g c =
    let D = g.D.Disk in
    let i = c.self.inside in
    let old = i.keeper in
    let new = c.run.new.keeper in
    let m = c.in-Err.ensures in
    let accepted : List _ = accepted_of c.args.commands.items m.cut.replies in
    fallen D g.V.Layout.sizes g.V.Filed.version g.met.V.Filed.laid_out new m.keeper.down.kept m.keeper.down.down c.in-Err.before i.closed (state_of old) m.cut.cut.was accepted
    (λ h x left. left_after_run D g.met.D.Disk.counts_now (disk_of old) (disk_of new) (MeansPrefix (watches_in g.V.Layout.sizes g.V.Filed.version) (state_of old) accepted) h (m.cut.cut.run h) x left)

pub returns-then-self : goal.returns-then-self
returns-then-self g c =
    let D = g.D.Disk in
    let i = c.self.inside in
    let commands = c.args.commands.items in
    let why : (has_failed i.keeper ≡ true) ⊎ (i.closed ≡ true) = elim c.then-self.branch [
      | then-self-via-then-self w ↦ inr w.if-self.true
      | then-self-via-else-self+then-has_failed w ↦ inl (sym w.if-has_failed.ensures)
    ] in
    rw (← c.self.view_is) (record {
      committed = tt;
      cut = λ alive. (out_of_memory_replies commands, none_met D g.V.Layout.sizes g.V.Filed.version g.met.V.Filed.laid_out i.keeper i.before i.closed (c.self.invariant.1 alive) g.met.D.Disk.only_now c.self.invariant.0 alive commands, λ e. absurd cc);
      unchanged = refl;
      numbered = λ alive h x left. numbered_up D g.V.Layout.sizes g.V.Filed.version g.met.V.Filed.laid_out i.keeper c.self.invariant.0 alive i.before c.self.invariant.1 h _ x (numbered_more g.V.Layout.sizes (slot_number_of i.keeper) (slot_number_of i.keeper + length commands) x (omega arith) (kept_numbered D (watches_in g.V.Layout.sizes g.V.Filed.version) i.keeper (c.self.invariant.0.kept alive h) x left));
      number = (omega arith, omega arith);
      calls = uncalled D (Err StoreFailed) (stored D i.keeper i.before i.closed) (λ e. absurd cc) tt (λ e. why) (λ over. refl);
      kinds = inr (inr refl);
    })

pub returns-in_default : goal.returns-in_default
returns-in_default g c =
    let D = g.D.Disk in
    let i = c.self.inside in
    let commands = c.args.commands.items in
    let alive : has_failed i.keeper ≡ false = sym c.if-has_failed.ensures in
    rw (← c.self.view_is) (record {
      committed = tt;
      cut = λ _. (out_of_memory_replies commands, none_met D g.V.Layout.sizes g.V.Filed.version g.met.V.Filed.laid_out i.keeper i.before i.closed (c.self.invariant.1 alive) g.met.D.Disk.only_now c.self.invariant.0 alive commands, λ e. absurd cc);
      unchanged = refl;
      numbered = λ alive h x left. numbered_up D g.V.Layout.sizes g.V.Filed.version g.met.V.Filed.laid_out i.keeper c.self.invariant.0 alive i.before c.self.invariant.1 h _ x (numbered_more g.V.Layout.sizes (slot_number_of i.keeper) (slot_number_of i.keeper + length commands) x (omega arith) (kept_numbered D (watches_in g.V.Layout.sizes g.V.Filed.version) i.keeper (c.self.invariant.0.kept alive h) x left));
      number = (omega arith, omega arith);
      calls = uncalled D (Err NoMemory) (stored D i.keeper i.before i.closed) (λ e. absurd cc) tt (λ e. absurd cc) (λ over. absurd (not_over D i.keeper i.before i.closed alive c.if-self.false over));
      kinds = inr (inl refl);
    })

pub returns-in_default-new : goal.returns-in_default-new
returns-in_default-new g c =
    let D = g.D.Disk in
    let i = c.self.inside in
    let commands = c.args.commands.items in
    let alive : has_failed i.keeper ≡ false = sym c.if-has_failed.ensures in
    rw (← c.self.view_is) (record {
      committed = tt;
      cut = λ _. (out_of_memory_replies commands, none_met D g.V.Layout.sizes g.V.Filed.version g.met.V.Filed.laid_out i.keeper i.before i.closed (c.self.invariant.1 alive) g.met.D.Disk.only_now c.self.invariant.0 alive commands, λ e. absurd cc);
      unchanged = refl;
      numbered = λ alive h x left. numbered_up D g.V.Layout.sizes g.V.Filed.version g.met.V.Filed.laid_out i.keeper c.self.invariant.0 alive i.before c.self.invariant.1 h _ x (numbered_more g.V.Layout.sizes (slot_number_of i.keeper) (slot_number_of i.keeper + length commands) x (omega arith) (kept_numbered D (watches_in g.V.Layout.sizes g.V.Filed.version) i.keeper (c.self.invariant.0.kept alive h) x left));
      number = (omega arith, omega arith);
      calls = uncalled D (Err NoMemory) (stored D i.keeper i.before i.closed) (λ e. absurd cc) tt (λ e. absurd cc) (λ over. absurd (not_over D i.keeper i.before i.closed alive c.if-self.false over));
      kinds = inr (inl refl);
    })

pub returns-then-len : goal.returns-then-len
returns-then-len g c =
    let D = g.D.Disk in
    let i = c.self.inside in
    let k = i.keeper in
    let commands = c.args.commands in
    let all = commands.items in
    let replies = c.in-Ok.replies in
    let alive : has_failed k ≡ false = sym c.if-has_failed.ensures in
    let none : i.before ≡ None = c.self.invariant.1 alive in
    let idle : AreIdle (state_of k) all replies =
    subst (λ (s : State). AreIdle s all replies) (c.registry-registry.ensures.value ∙ c.state.ensures) (subst (λ (l : List Command). AreIdle c.registry-registry.result.now l replies) c.deref.ensures.value c.in-Ok.ensures) in
    let each : take (vec_len replies) all ≡ all = take_all (vec_len replies) all (omega (arith, c.if-len.true, c.len.ensures, c.len-2.ensures, commands.ok.0)) in
    let met : AreMet (state_of k) all replies.items = subst (λ (cs : List Command). AreMet (state_of k) cs replies.items) each idle.met in
    let accepted : accepted_of all replies.items ≡ [] = subst (λ (cs : List Command). accepted_of cs replies.items ≡ []) each idle.none in
    rw (← c.self.view_is) (record {
      committed = record {
        batch = still_met D g.V.Layout.sizes g.V.Filed.version g.met.V.Filed.laid_out k i.before i.closed none g.met.D.Disk.only_now c.self.invariant.0 alive all replies.items (subst (λ (s : State). AreMet s all replies.items) (sym (registry_is D g.V.Layout.sizes g.V.Filed.version g.met.V.Filed.laid_out k i.before i.closed none)) met);
        registry = ap (λ (l : List Command). replayed after_command (unwrap_or i.before (state_of k)) l) (sym accepted);
        open_yet = c.if-self.false;
        means = λ h x left. c.self.invariant.2.means alive h x left;
        idle = λ e. inl refl;
        slot = inr (λ fits. (refl, omega (arith, ap (λ (l : List Command). taken (command_spelling (unwrap_or i.before (state_of k)).version) l) accepted)));
      };
      cut = tt;
      unchanged = tt;
      numbered = λ _ h x left. numbered_up D g.V.Layout.sizes g.V.Filed.version g.met.V.Filed.laid_out k c.self.invariant.0 alive i.before c.self.invariant.1 h _ x (numbered_more g.V.Layout.sizes (slot_number_of k) (slot_number_of k + length all) x (omega arith) (kept_numbered D (watches_in g.V.Layout.sizes g.V.Filed.version) k (c.self.invariant.0.kept alive h) x left));
      number = (omega arith, omega arith);
      calls = uncalled D (Ok c.in-Ok.replies) (stored D k i.before i.closed) (λ e. absurd cc) alive (λ e. absurd cc) (λ over. absurd (not_over D k i.before i.closed alive c.if-self.false over));
      kinds = tt;
    })

pub returns-in-Ok-run : goal.returns-in-Ok-run
returns-in-Ok-run g c =
    let D = g.D.Disk in
    let i = c.self.inside in
    let old = i.keeper in
    let new = c.run.new.keeper in
    let commands = c.args.commands.items in
    let replies = c.in-Ok-run.replies.items in
    let alive : has_failed old ≡ false = sym c.if-has_failed.ensures in
    let none : i.before ≡ None = c.self.invariant.1 alive in
    let m = c.in-Ok-run.ensures in
    rw (← c.self.view_is) (record {
      committed = record {
        batch = done_batch D g.V.Layout.sizes g.V.Filed.version g.met.V.Filed.laid_out old i.before i.closed none (ap (λ (s : State). s.version) (sym c.state.ensures) ∙ c.registry-registry.ensures.version) new commands replies m.done;
        registry = done_registry D g.V.Layout.sizes g.V.Filed.version g.met.V.Filed.laid_out old i.before i.closed none (ap (λ (s : State). s.version) (sym c.state.ensures) ∙ c.registry-registry.ensures.version) new commands replies m.done;
        open_yet = c.if-self.false;
        means = λ h x left. subst (λ (b : Option State). MeansRegistry (unwrap_or b (state_of new)) x) (sym none) (means_up D g.V.Layout.sizes g.V.Filed.version g.met.V.Filed.laid_out new m.keeper.whole.kept m.keeper.whole.up h x left);
        idle = λ e. done_idle D g.V.Layout.sizes g.V.Filed.version g.met.V.Filed.laid_out old i.before i.closed none (ap (λ (s : State). s.version) (sym c.state.ensures) ∙ c.registry-registry.ensures.version) new commands replies m.done e;
        slot = done_slot D g.V.Layout.sizes g.V.Filed.version g.met.V.Filed.laid_out old i.before i.closed none (ap (λ (s : State). s.version) (sym c.state.ensures) ∙ c.registry-registry.ensures.version) new commands replies m.done;
      };
      cut = tt;
      unchanged = tt;
      numbered = λ _ h x left. numbered_up D g.V.Layout.sizes g.V.Filed.version g.met.V.Filed.laid_out old c.self.invariant.0 alive i.before c.self.invariant.1 (m.keeper.calls.honest h) _ x (m.keeper.calls.numbered h (slot_number_of old) (omega arith) (kept_numbered D (watches_in g.V.Layout.sizes g.V.Filed.version) old (c.self.invariant.0.kept alive (m.keeper.calls.honest h))) x left);
      number = (m.keeper.calls.least, m.keeper.calls.most);
      calls = record {
        device = record { honest = m.keeper.calls.honest; failures_grow = m.keeper.calls.later; no_failure = m.keeper.whole.count; failed = λ e. absurd cc; failures_kept = tt };
        works = m.keeper.whole.up;
        failed = λ e. absurd cc;
        memory = λ e. absurd cc;
        down = λ e. absurd cc;
        stays_down = λ over. absurd (not_over D old i.before i.closed alive c.if-self.false over);
      };
      kinds = tt;
    })

pub returns-in-Err : goal.returns-in-Err
returns-in-Err g c =
    let D = g.D.Disk in
    let i = c.self.inside in
    let old = i.keeper in
    let new = c.run.new.keeper in
    let commands = c.args.commands.items in
    let alive : has_failed old ≡ false = sym c.if-has_failed.ensures in
    let none : i.before ≡ None = c.self.invariant.1 alive in
    let m = c.in-Err.ensures in
    let was = c.in-Err.before in
    rw (← c.self.view_is) (record {
      committed = tt;
      cut = λ _. (m.cut.replies, cut_batch D g.V.Layout.sizes g.V.Filed.version g.met.V.Filed.laid_out old i.before i.closed none new commands m.cut.replies was m.cut.cut m.cut.met, λ _ e. m.cut.some e);
      unchanged = cut_registry D g.V.Layout.sizes g.V.Filed.version g.met.V.Filed.laid_out old i.before i.closed none new commands m.cut.replies was m.cut.cut;
      numbered = λ _ h x left. numbered_up D g.V.Layout.sizes g.V.Filed.version g.met.V.Filed.laid_out old c.self.invariant.0 alive i.before c.self.invariant.1 (m.keeper.calls.honest h) _ x (m.keeper.calls.numbered h (slot_number_of old) (omega arith) (kept_numbered D (watches_in g.V.Layout.sizes g.V.Filed.version) old (c.self.invariant.0.kept alive (m.keeper.calls.honest h))) x left);
      number = (m.keeper.calls.least, m.keeper.calls.most);
      calls = record {
        device = record { honest = m.keeper.calls.honest; failures_grow = m.keeper.calls.later; no_failure = tt; failed = λ e. m.keeper.down.rose; failures_kept = λ no. absurd (no refl) };
        works = tt;
        failed = λ e. m.keeper.down.down;
        memory = λ e. absurd cc;
        down = λ e. absurd cc;
        stays_down = λ over. absurd (not_over D old i.before i.closed alive c.if-self.false over);
      };
      kinds = inl refl;
    })
