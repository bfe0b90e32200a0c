use Rattle.std.proofs.Common.{◌≡◌, ◌≤◌, ◌<◌, ◌^◌, ℕ, true, List, length, Result, Ok, Err, OnErr, sym, ap, subst, ◌∙◌, arith}
use Rattle.wm_disk.specs.declared.refusal.NoMemory.{NoMemory}
use Rattle.wm_wire.specs.Spelling.{list_spelling}
use Rattle.wm_registry.specs.Limits.{max_triggers}
use Rattle.wm_registry.specs.declared.command.Command.TheVariants as commands
use Rattle.wm_registry.specs.declared.root.Root.{Root}
use Rattle.wm_registry.specs.Registry.{is_change, reply_to}
use Rattle.wm_registry.specs.Roots.{State}
use Rattle.wm_registry.specs.Spelling.{IsState, state_spelling, trigger_spelling}
use Rattle.wm_registry.specs.declared.version.Version.TheVariants.{Two}
use Rattle.wm_registry.specs.Triggers.{Definition, defined}
use Rattle.wm_registry.proofs.Changing.{IsState-defined, changed_triggers, defined_fits, placed_then, root_placed, same_triggers}
use Rattle.wm_registry.proofs.Lengths.{length-triggers}
use Rattle.wm_registry.proofs.registry.Registry.define.Goals as goal

-- the copy of the trigger may be defined as the trigger itself may
accepted : (s old : State) (path : List ℕ) (copy trigger : Definition) → s ≡ old → copy ≡ trigger → is_change (reply_to old (commands.Trigger path trigger)) ≡ true → is_change (reply_to s (commands.Trigger path copy)) ≡ true
accepted s old path copy trigger same is h = ap (λ (t : Definition). is_change (reply_to s (commands.Trigger path t))) is ∙ ap (λ (st : State). is_change (reply_to st (commands.Trigger path trigger))) same ∙ h

-- and it leaves the triggers within their limits
fits : (c : goal.After-define-arg-1) → (length (defined c.in_ok-trigger.trigger c.in-Some.root.now.triggers) ≤ max_triggers) × (length (list_spelling (trigger_spelling Two) (defined c.in_ok-trigger.trigger c.in-Some.root.now.triggers)) < 2 ^ 32)
fits c =
    let s : State = record { version = c.self.inside.version; incarnation = c.self.inside.incarnation; next = c.self.inside.next; roots = c.self.inside.roots.entries } in
    let may = accepted s c.args.self.now c.args.path.now c.in_ok-trigger.trigger c.args.trigger.now c.self.view_is c.in_ok-trigger.ensures c.requires in
    defined_fits s c.args.path.now c.in_ok-trigger.trigger c.in-Some.root.now (sym c.in-Some.ensures.value) c.self.invariant.0 may

pub define-requires-clause-count : goal.define-requires-clause-count
define-requires-clause-count c = (fits c).0

pub define-requires-clause-short : goal.define-requires-clause-short
define-requires-clause-short c = (fits c).1

on_err : {P : Type 0} (r : Result (Unit {0}) NoMemory) → P → OnErr r P
on_err (Ok u) p = tt
on_err (Err e) p = p

-- where there was no memory the roots are as they were
same_roots : (c : goal.After-from_residual-in_err-define) → (c.get_mut.follows.lender (record { number = c.in-Some.root.now.number; triggers = c.define.new.triggers })).entries ≡ c.self.inside.roots.entries
same_roots c =
    let s : State = record { version = c.self.inside.version; incarnation = c.self.inside.incarnation; next = c.self.inside.next; roots = c.self.inside.roots.entries } in
    same_triggers s c.args.path.now c.in-Some.root.now c.define.new.triggers _ (sym c.in-Some.ensures.value) c.in_err-define.ensures.err (c.get_mut.follows.holds _).0

pub invariant_of-self : goal.invariant_of-self
invariant_of-self c =
    subst (λ (roots : List (List ℕ × Root)). IsState (record { version = c.self.inside.version; incarnation = c.self.inside.incarnation; next = c.self.inside.next; roots = roots }) × (c.self.inside.size ≡ length (state_spelling (record { version = c.self.inside.version; incarnation = c.self.inside.incarnation; next = c.self.inside.next; roots = roots }))))
    (sym (same_roots c)) c.self.invariant

pub returns-in_err-define-clause-err : goal.returns-in_err-define-clause-err
returns-in_err-define-clause-err c =
    on_err c.from_residual-in_err-define.result
    (ap (λ (roots : List (List ℕ × Root)). record { version = c.self.inside.version; incarnation = c.self.inside.incarnation; next = c.self.inside.next; roots = roots }) (same_roots c) ∙ c.self.view_is)

pub overflow_sub-self : goal.overflow_sub-self
overflow_sub-self c =
    let s : State = record { version = c.self.inside.version; incarnation = c.self.inside.incarnation; next = c.self.inside.next; roots = c.self.inside.roots.entries } in
    omega (arith, c.self.invariant.1, c.triggers_size-before.ensures.exact, length-triggers s c.args.path.now c.in-Some.root.now (sym c.in-Some.ensures.value))

pub invariant_of-self-in-Some : goal.invariant_of-self-in-Some
invariant_of-self-in-Some c =
    let s : State = record { version = c.self.inside.version; incarnation = c.self.inside.incarnation; next = c.self.inside.next; roots = c.self.inside.roots.entries } in
    let at = sym c.in-Some.ensures.value in
    let may = accepted s c.args.self.now c.args.path.now c.in_ok-trigger.trigger c.args.trigger.now c.self.view_is c.in_ok-trigger.ensures c.requires in
    changed_triggers s c.args.path.now c.in-Some.root.now c.define.new.triggers _ c.self.inside.size c.triggers_size-before.result c.triggers_size.result c.self.invariant.1 at
    (IsState-defined s c.args.path.now c.in_ok-trigger.trigger c.in-Some.root.now c.define.new.triggers at c.self.invariant.0 may c.in_ok-define.ensures.ok c.triggers_size.ensures.fits)
    c.triggers_size-before.ensures.exact c.triggers_size.ensures.exact (c.get_mut.follows.holds _).0

pub triggers_size-before-requires : goal.triggers_size-before-requires
triggers_size-before-requires c =
    let s : State = record { version = c.self.inside.version; incarnation = c.self.inside.incarnation; next = c.self.inside.next; roots = c.self.inside.roots.entries } in
    root_placed s c.args.path.now c.in-Some.root.now (sym c.in-Some.ensures.value) c.self.invariant.0

pub triggers_size-requires : goal.triggers_size-requires
triggers_size-requires c =
    let s : State = record { version = c.self.inside.version; incarnation = c.self.inside.incarnation; next = c.self.inside.next; roots = c.self.inside.roots.entries } in
    let may = accepted s c.args.self.now c.args.path.now c.in_ok-trigger.trigger c.args.trigger.now c.self.view_is c.in_ok-trigger.ensures c.requires in
    placed_then s c.args.path.now c.in_ok-trigger.trigger c.in-Some.root.now c.define.new.triggers (sym c.in-Some.ensures.value) c.self.invariant.0 may c.in_ok-define.ensures.ok
