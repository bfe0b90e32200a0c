-- A command never changes the version, and one that is accepted has a place in a file of it.
-- For proofs: a reader of definitions may skip it.
use Rattle.std.proofs.Common.{◌≡◌, ◌∙◌, ℕ, Bool, true, false, true≢false, cond, List, [], ◌∷◌, Option, Some, None, refl, sym}
use Rattle.std.specs.Option.{option_map_or}
use Rattle.wm_checkpoint.specs.Machines.{replayed}
use Rattle.wm_disk.specs.declared.refusal.Refusal.TheVariants.{NotWatched, OldVersion}
use Rattle.wm_registry.specs.Commands.{FitsVersion}
use Rattle.wm_registry.specs.Endings.{count_fits}
use Rattle.wm_registry.specs.declared.command.Command.{Command}
use Rattle.wm_registry.specs.declared.command.Command.TheVariants.{Begin, Watch, WatchDel, Trigger, TriggerDel}
use Rattle.wm_registry.specs.declared.reply.Reply.{Reply}
use Rattle.wm_registry.specs.declared.reply.Reply.TheVariants.{Refused}
use Rattle.wm_registry.specs.declared.root.Root.{Root}
use Rattle.wm_registry.specs.Registry.{after_command, changed, changes, is_change, reply_to_trigger}
use Rattle.wm_registry.specs.Roots.{State, root_at, with_triggers}
use Rattle.wm_registry.specs.Triggers.{Definition, defined, without}

same_at : (s : State) (f : Root → State) → ((root : Root) → (f root).version ≡ s.version) → (o : Option Root) → (option_map_or f o s).version ≡ s.version
same_at s f h None = refl
same_at s f h (Some root) = h root

same_changed : (s : State) (c : Command) → (changed s c).version ≡ s.version
same_changed s Begin = refl
same_changed s (Watch path) = refl
same_changed s (WatchDel path) = refl
same_changed s (Trigger path trigger) = same_at s (λ root. with_triggers s path root (defined trigger root.triggers)) (λ root. refl) (root_at path s)
same_changed s (TriggerDel path name) = same_at s (λ root. with_triggers s path root (without name root.triggers)) (λ root. refl) (root_at path s)

pub same_version : (s : State) (c : Command) → (after_command s c).version ≡ s.version
same_version s c = by (changes s c)
  where
    by : (b : Bool) → (cond b (changed s c) s).version ≡ s.version
    by true = same_changed s c
    by false = refl

pub same_version_after : (s : State) (cs : List Command) → (replayed after_command s cs).version ≡ s.version
same_version_after s [] = refl
same_version_after s (c ∷ cs) = same_version_after (after_command s c) cs ∙ same_version s c

if_placed : (b : Bool) (x : Reply) → is_change (cond b x (Refused OldVersion)) ≡ true → b ≡ true
if_placed true x h = refl
if_placed false x h = absurd (true≢false (sym h))

trigger_placed : (s : State) (path : List ℕ) (t : Definition) (o : Option Root) → is_change (option_map_or (reply_to_trigger s path t) o (Refused NotWatched)) ≡ true → count_fits s.version t.max_files_stdin ≡ true
trigger_placed s path t None h = absurd (true≢false (sym h))
trigger_placed s path t (Some root) h = if_placed (count_fits s.version t.max_files_stdin) _ h

pub accepted_placed : (s : State) (c : Command) → changes s c ≡ true → FitsVersion s.version c
accepted_placed s Begin h = tt
accepted_placed s (Watch path) h = tt
accepted_placed s (WatchDel path) h = tt
accepted_placed s (Trigger path t) h = trigger_placed s path t (root_at path s) h
accepted_placed s (TriggerDel path name) h = tt
