-- What a reply says of its command: an accepted one changes the registry, a refusal is no change.
use Rattle.std.proofs.Common.{◌≡◌, inl, inr, refl, sym, ◌∙◌, ap, Bool, true, false}
use Rattle.std.specs.Prelude.{if◌then◌else◌}
use Rattle.wm_disk.specs.declared.refusal.Refusal.{Refusal}
use Rattle.wm_disk.specs.declared.refusal.Refusal.TheVariants.{BadArguments, NoMemory}
use Rattle.wm_registry.specs.declared.command.Command.{Command}
use Rattle.wm_registry.specs.declared.reply.Reply.{Reply}
use Rattle.wm_registry.specs.declared.reply.Reply.TheVariants.{Refused}
use Rattle.wm_registry.specs.Registry.{changes, is_change, reply_to}
use Rattle.wm_registry.specs.Roots.{State}
use Rattle.wm_store.specs.Batches.{IsMet, is_begin, unless_begin}

in_case : (b : Bool) (r y : Reply) → r ≡ (if b then Refused BadArguments else y) → is_change r ≡ true → is_change y ≡ true
in_case true r y e h = let clash : true ≡ false = sym h ∙ ap is_change e in absurd cc
in_case false r y e h = sym (ap is_change e) ∙ h

-- a command that is accepted changes the registry
pub changes_met : (s : State) (c : Command) (r : Reply) → IsMet s c r → is_change r ≡ true → changes s c ≡ true
changes_met s c r (inl e) h = in_case (is_begin c) r (reply_to s c) e h
changes_met s c r (inr e) h = let clash : false ≡ true = in_case (is_begin c) r (Refused NoMemory) e h in absurd cc

refused_stays : (b : Bool) (x : Refusal) → is_change (if b then Refused BadArguments else Refused x) ≡ false
refused_stays true x = refl
refused_stays false x = refl

pub refusal_stays : (c : Command) (x : Refusal) → is_change (unless_begin c (Refused x)) ≡ false
refusal_stays c x = refused_stays (is_begin c) x
