-- A seat of a desk goes on.
use Rattle.std.proofs.Common.{◌≡◌, ◌∙◌, ◌≤◌, ◌+◌, ℕ, Bool, true, false, refl, ap, arith}
use Rattle.std.specs.Prelude.{Result, Ok, Err, IfOk, IfErr, if◌then◌else◌}
use Rattle.wm_disk.specs.declared.refusal.Refusal.{Refusal}
use Rattle.wm_registry.specs.Registry.{is_change}
use Rattle.wm_registry.specs.Roots.{State}
use Rattle.wm_registry.specs.declared.command.Command.{Command}
use Rattle.wm_registry.specs.declared.reply.Reply.{Reply}
use Rattle.wm_groupcommit.specs.Receipts.{ReceiptState, mark_of, standing_for}
use Rattle.wm_groupcommit.specs.Seats.{HasLooked, IsAnswered, IsSameSeat, IsTurned}
use Rattle.wm_groupcommit.specs.declared.receipt.Standing.TheVariants.{Stands, Unchanged}
use Rattle.wm_groupcommit.specs.declared.seat.Seat.{Seat}
use Rattle.wm_front.specs.Commands.{SeatGoesOn}
use Rattle.wm_front.specs.Looks.{IsLookedAt}

marked : (b : Bool) (at : ℕ) (c : Command) → at ≤ mark_of (if b then Stands (at + 1) c else Unchanged at)
marked true at c = omega arith
marked false at c = omega arith

seen_more : (old new : Seat) (c : Command) (reply : Reply) (receipt : ReceiptState) → IsAnswered old new c reply receipt → old.seen ≤ new.seen
seen_more old new c reply receipt a =
    let is : new.seen ≡ mark_of (standing_for reply a.at c) = a.seen ∙ ap mark_of a.standing in
    omega (arith, is, a.later.0, marked (is_change reply) a.at c)

pub submit_goes : (old new : Seat) (c : Command) (result : Result (Reply × ReceiptState) Refusal) → IsSameSeat old new → IfOk result (λ r. IsAnswered old new c r.0 r.1) → IfErr result (λ e. IsTurned old new c e) → SeatGoesOn old new
submit_goes old new c (Ok r) same ok err = (same, seen_more old new c r.0 r.1 ok)
submit_goes old new c (Err e) same ok err = (same, let is : new.seen ≡ old.seen = err.seen in omega (arith, is))

pub looked_at : (old new : Seat) (r : State) (count : ℕ) → HasLooked old new r count → IsLookedAt old r count new
looked_at old new r count h = record { after = record { base = h.base; at = count; found = h.found; later = h.later; registry_is = h.registry_is }; at = refl; seen = h.seen }
