-- Receipts: where an answered command stands.
use Rattle.std.specs.Prelude.{◌≡◌, ◌≤◌, ◌<◌, ◌+◌, ◌-◌, ℕ, Option, Some, None, List, length, slice_get, if◌then◌else◌}
use Rattle.wm_registry.specs.declared.command.Command.{Command}
use Rattle.wm_registry.specs.declared.reply.Reply.{Reply}
use Rattle.wm_registry.specs.Registry.{is_change}
use Rattle.wm_groupcommit.specs.declared.queued.Call.{Call}
use Rattle.wm_groupcommit.specs.declared.receipt.Standing.{Standing}
use Rattle.wm_groupcommit.specs.declared.receipt.Standing.TheVariants.{Stands, Unchanged}

-- what a contract sees of a receipt: where the command stands, the seat and the call that were answered, and the list that the seat knew then
pub record ReceiptState : Type 0 where
  pub standing : Standing
  pub seat : ℕ
  pub count : ℕ
  pub list : List Call

-- what a receipt shows
abbrev pub shown : ReceiptState → Standing
shown r = r.standing

-- the standing that a reply after so many commands gives
abbrev pub standing_for : Reply → ℕ → Command → Standing
standing_for reply at c = if is_change reply then Stands (at + 1) c else Unchanged at

-- the greatest number of commands that a standing tells of
abbrev pub mark_of : Standing → ℕ
mark_of (Stands n c) = n
mark_of (Unchanged n) = n

-- the command that was accepted
abbrev pub accepted_command : Standing → Option Command
accepted_command (Stands n c) = Some c
accepted_command (Unchanged n) = None

-- the command stands at its number in the list, with the seat and the call that were answered; of one that changed nothing, the list has the commands after which it did
abbrev pub StandsIn : List Call → ℕ → ℕ → Standing → Type 0
StandsIn list seat count (Stands n c) = (0 < n) × (slice_get list (n - 1) ≡ Some (record { seat = seat; count = count; command = c }))
StandsIn list seat count (Unchanged n) = n ≤ length list

-- a receipt's command stands at its number, with the seat and the call that were answered
pub record StandsInBook (r : ReceiptState) (list : List Call) (c : Command) : Type 0 where
  pub number : ℕ
  pub standing : r.standing ≡ Stands number c
  pub counted : 0 < number
  pub stands : slice_get list (number - 1) ≡ Some (record { seat = r.seat; count = r.count; command = c })
