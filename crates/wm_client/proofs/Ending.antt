-- With which status a program ends by its words.
use Rattle.std.proofs.Common.{◌≡◌, ◌≢◌, ◌⊎◌, ℕ, zero, suc, Bool, true, false, List, Option, ap, inl, inr, refl, sym, true≢false}
use Rattle.wm_client.specs.ClientWords.{AsksFor, shown_status}
use Rattle.wm_client.specs.Ends.{EndsAsAsked, MayEnd, Stops}
use Rattle.wm_client.specs.FeedWords.{FeedAsksFor, feed_shown, feed_to}
use Rattle.wm_client.specs.Statuses.{EndsAsWanted}

printed_or_failed : {A : Type 0} {status : ℕ} → ((status ≡ 0) × A) ⊎ (status ≡ 1) → (status ≡ 1) ⊎ (status ≡ 0)
printed_or_failed (inl printed) = inr printed.0
printed_or_failed (inr failed) = inl failed

abbrev is_zero : ℕ → Bool
is_zero zero = true
is_zero (suc n) = false

-- a text is shown: on the printer with 0, unless that fails with 1, and else with its own status
pub shows : {A B : Type 0} (told status : ℕ) → (told ≡ 0 → ((status ≡ 0) × A) ⊎ (status ≡ 1)) → (told ≢ 0 → (status ≡ told) × B) → (status ≡ 1) ⊎ (status ≡ told)
shows zero status printed fault = printed_or_failed (printed refl)
shows (suc n) status printed fault = inr (fault (λ is. true≢false (sym (ap is_zero is)))).0

module _ (may_stop : Stops) (words : List (List ℕ)) (status : ℕ) where
  pub shown_ends : (told : ℕ) → FeedAsksFor words (feed_shown told) → (status ≡ 1) ⊎ (status ≡ told) → EndsAsAsked may_stop words status
  shown_ends told asks (inl is) = inl is
  shown_ends told asks (inr is) = inr (feed_shown told, asks, is)

  pub feed_ends : (socket : List ℕ) (root : Option (List ℕ)) (is_every_event : Bool) → FeedAsksFor words (feed_to socket root is_every_event)
      → (status ≡ 1) ⊎ MayEnd may_stop (feed_to socket root is_every_event) status → EndsAsAsked may_stop words status
  feed_ends socket root is_every_event asks (inl is) = inl is
  feed_ends socket root is_every_event asks (inr ends) = inr (feed_to socket root is_every_event, asks, ends)

pub talk_shown_ends : (gone_in : List ℕ → Type 0) (words : List (List ℕ)) (told status : ℕ) (held holds : Option (List ℕ)) → AsksFor words (shown_status told)
    → (status ≡ 1) ⊎ (status ≡ told) → EndsAsWanted gone_in words status held holds
talk_shown_ends gone_in words told status held holds asks (inl is) = inl is
talk_shown_ends gone_in words told status held holds asks (inr is) = inr (shown_status told, asks, is)
