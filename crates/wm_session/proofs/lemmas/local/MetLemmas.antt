-- Calls of a front that nobody else changes.
use Rattle.std.proofs.Common.{◌≡◌, Bool, false, true, refl}
use Rattle.wm_registry.specs.declared.command.Command.{Command}
use Rattle.wm_registry.specs.declared.reply.Reply.{Reply}
use Rattle.wm_session.specs.session.Faults.{FrontState, Submits, Way}
use Rattle.wm_session.specs.session.Fronts.{MetAt, Part, SubmittedAt}
use Rattle.wm_session.specs.session.Sessions.{SessionState}

pub no_look : {A : Type 0} → false ≡ true → A
no_look bad = absurd cc

module _ {F : Type 0} (state : F → FrontState) where
  abbrev pub met_at : F → Part → Way → Bool → SessionState → SessionState → F → Type 0
  met_at a part way accepts s t b = MetAt part (state a) way accepts s t (state b)

  -- a command was met
  pub submitted : (a b : F) (command : Command) (r : Reply) → Submits (state a) command r (state b) → SubmittedAt met_at a command r b
  submitted a b command r s = record { way = s.way; found = (state a).state; at = (refl, s.state_is, s.cause, (λ look. no_look look), tt); reply_is = s.reply_is }
