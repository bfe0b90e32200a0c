-- What a viewer shows, if its keeper may be gone.
use Rattle.std.proofs.Common.{◌≡◌, ◌⊎◌, inl, inr, ℕ, List, true, false, refl, sym, subst}
use Rattle.std.specs.Prelude.{Result, Ok, Err, IfOk, IfErr}
use Rattle.wm_disk.specs.declared.refusal.Refusal.{Refusal}
use Rattle.wm_disk.specs.declared.refusal.Refusal.TheVariants.{NoMemory, NoPlace, NotReady}
use Rattle.wm_clock.specs.declared.clock_id.ClockId.{ClockId}
use Rattle.wm_view.specs.Histories.{is_ready}
use Rattle.wm_since.specs.Answers.{clock_of}
use Rattle.wm_since.specs.Cursors.{CursorList}
use Rattle.wm_lines.specs.declared.query.Inquiry.{Inquiry}
use Rattle.wm_share.specs.PublishedLists.{ViewerState, disconnected, history}
use Rattle.wm_root.specs.Inquired.{IsInquired}
use Rattle.wm_front.specs.RootsSeen.{IsAnswerSeen, IsClockSeen, unless_gone}

pub inquired_still : (q : Inquiry) (cursors : CursorList) (old new : ViewerState) (before after : List ℕ) (result : Result (Unit {0}) Refusal)
    → IsInquired q cursors old before result new after → IsAnswerSeen q new before (unless_gone result) after
inquired_still q cursors old new before after (Ok u) met = (cursors, met.0, met.1, met.2)
inquired_still q cursors old new before after (Err e) (same, why) =
    elim why [
      | inl is ↦ subst (λ x. IsAnswerSeen q new before (unless_gone (Err x)) after) (sym is) (same, inl refl)
      | inr (inl (is, gone)) ↦ subst (λ x. IsAnswerSeen q new before (unless_gone (Err x)) after) (sym is) (same, inl refl)
      | inr (inr (inl (is, unready))) ↦ subst (λ x. IsAnswerSeen q new before (unless_gone (Err x)) after) (sym is) (same, inr (inl (refl, unready)))
      | inr (inr (inr (is, ready, full))) ↦ subst (λ x. IsAnswerSeen q new before (unless_gone (Err x)) after) (sym is) (same, inr (inr (cursors, refl, ready, full)))
    ]

pub clock_still : (old new : ViewerState) (result : Result ClockId Refusal) → IfOk result (λ clock. (is_ready (history new.list) ≡ true) × (clock ≡ clock_of (history new.list)))
    → IfErr result (λ e. (e ≡ NoMemory) ⊎ ((e ≡ NoPlace) × (new ≡ disconnected old)) ⊎ ((e ≡ NotReady) × (is_ready (history new.list) ≡ false))) → IsClockSeen new (unless_gone result)
clock_still old new (Ok clock) ok refused = ok
clock_still old new (Err e) ok refused =
    elim refused [
      | inl is ↦ subst (λ x. IsClockSeen new (unless_gone (Err x))) (sym is) (inl refl)
      | inr (inl (is, gone)) ↦ subst (λ x. IsClockSeen new (unless_gone (Err x))) (sym is) (inl refl)
      | inr (inr (is, unready)) ↦ subst (λ x. IsClockSeen new (unless_gone (Err x))) (sym is) (inr (refl, unready))
    ]
