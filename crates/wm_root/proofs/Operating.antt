-- With what an operation that was published ends, and how it is reported.
use Rattle.std.proofs.Common.{◌≡◌, Bool, true, false, subst, inl, inr, ℕ, Option, None, Some, Result, Ok, Err, ◌∷◌, [], ◌++◌, sym, ap, ◌∙◌, append_assoc}
use Rattle.std.specs.Prelude.{MatchBool}
use Rattle.wm_disk.specs.declared.refusal.Refusal.{Refusal}
use Rattle.wm_disk.specs.declared.refusal.Refusal.TheVariants.{BadClock, NoMemory}
use Rattle.wm_view.specs.Listings.{Found}
use Rattle.wm_view.specs.declared.op.Op.{Op}
use Rattle.wm_view.specs.declared.op.Op.TheVariants.{Recrawl}
use Rattle.wm_lines.specs.declared.progress.Progress.{Progress}
use Rattle.wm_share.specs.Operations.{Operations, MayRefuse}
use Rattle.wm_share.specs.PublishedLists.{EndsWith, PublishedList}
use Rattle.wm_root.specs.AgeOuts.{moment_of}
use Rattle.wm_root.specs.ChangeSeen.{IsEnded, IsUnpublished}
use Rattle.wm_root.specs.Overlays.{IsOverlaid, Noted}
use Rattle.wm_root.specs.ReadingSeen.{IsReadingEnd, IsReadingSeen, IsUnpublishedReading}
use Rattle.wm_root.specs.Readings.{IsUnread, Read}
use Rattle.wm_root.specs.RootStates.{IsOperated, IsUnperformed, RootState, with_age_out, with_backlog, with_operation}
use Rattle.wm_root.specs.declared.retention.Retention.{Retention}

ends_with : (op : Op) (mid after : RootState) → after ≡ with_operation op mid → EndsWith after.operations.published.operations op
ends_with op mid after e =
    let before = mid.operations.published.operations in
    (before ++ mid.operations.pending, ap (λ (r : RootState). r.operations.published.operations) e ∙ sym (append_assoc before mid.operations.pending (op ∷ [])))

for_want : (operations : Operations) (e : Refusal) → MayRefuse operations e → IsUnpublished (Err e)
for_want operations e (inl is) = inl (ap (λ x. Err x) is)
for_want operations e (inr is) = inr (ap (λ x. Err x) is.0)

unperformed : (retention : Retention) (op : Op) (before after : RootState) (e : Refusal) → IsUnperformed retention op NoMemory before after e → IsUnpublished (Err e)
unperformed retention op before after e (inl is) = inl (ap (λ x. Err x) is.0)
unperformed retention op before after e (inr (inl is)) = inl (ap (λ x. Err x) is.0)
unperformed retention op before after e (inr (inr (inl is))) = for_want after.operations e is.0
unperformed retention op before after e (inr (inr (inr is))) = for_want after.operations e is.0

pub is_ended : (retention : Retention) (op : Op) (before after : RootState) (last : Option PublishedList) (is_published : Bool) (ended : Result Progress Refusal)
    → IsOperated retention op NoMemory before after last is_published ended → IsEnded op last is_published ended
is_ended retention op before after last true (Ok p) ((is, late, shown), progress) = (after.operations.published, shown, (ends_with op (with_age_out retention (moment_of op) (with_backlog before)) after is, progress))
is_ended retention op before after last true (Err e) ((is, late, shown), out) = (after.operations.published, shown, (ends_with op (with_age_out retention (moment_of op) (with_backlog before)) after is, out))
is_ended retention op before after last false ended (e, is, un) = subst IsUnpublished (sym is) (unperformed retention op before after e un)

-- a reading that isn't published
unread : (retention : Retention) (op : Op) (before after : RootState) (e : Refusal) → IsUnperformed retention op BadClock before after e → IsUnpublishedReading (Err e)
unread retention op before after e (inl is) = inl (inl (ap (λ x. Err x) is.0))
unread retention op before after e (inr (inl is)) = inr (ap (λ x. Err x) is.0)
unread retention op before after e (inr (inr (inl is))) = inl (for_want after.operations e is.0)
unread retention op before after e (inr (inr (inr is))) = inl (for_want after.operations e is.0)

-- a reading that is published is the last of the list
pub reading_ends : (retention : Retention) (moment : ℕ) (found : Read) (noted : Noted) (listing : Found) (before after : RootState) (last : Option PublishedList) (is_published : Bool) (ended : Result Progress Refusal)
    → IsOverlaid noted found.listing listing → IsOperated retention (Recrawl moment found.begun_at listing) BadClock before after last is_published ended
    → MatchBool is_published (IsReadingEnd moment found after.operations.published ended) (IsUnpublishedReading ended)
reading_ends retention moment found noted listing before after last true (Ok p) over ((is, late, shown), progress) =
    (noted, listing, over, (ends_with (Recrawl moment found.begun_at listing) (with_age_out retention moment (with_backlog before)) after is, progress))
reading_ends retention moment found noted listing before after last true (Err e) over ((is, late, shown), out) =
    (noted, listing, over, (ends_with (Recrawl moment found.begun_at listing) (with_age_out retention moment (with_backlog before)) after is, out))
reading_ends retention moment found noted listing before after last false ended over (e, is, un) = subst IsUnpublishedReading (sym is) (unread retention (Recrawl moment found.begun_at listing) before after e un)

-- a reading that isn't handed in
pub unread_ends : (noted : Option Noted) (e : Refusal) → IsUnread noted e → IsUnpublishedReading (Err e)
unread_ends None e is = inr (ap (λ x. Err x) is)
unread_ends (Some noted) e (inl is) = inr (ap (λ x. Err x) is.0)
unread_ends (Some noted) e (inr is) = inl (inl (ap (λ x. Err x) is.0))

-- what is seen of a reading that ended so, at a second that may be read
pub reading_seen : (MayRead : ℕ → Type 0) (moment : ℕ) (found : Read) (list : PublishedList) (is_published : Bool) (ended : Result Progress Refusal)
    → MayRead moment → MatchBool is_published (IsReadingEnd moment found list ended) (IsUnpublishedReading ended) → IsReadingSeen MayRead found is_published ended
reading_seen MayRead moment found list true ended may end = (list, moment, may, end)
reading_seen MayRead moment found list false ended may un = un
