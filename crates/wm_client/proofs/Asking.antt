-- What the question about a root's number came to.
use Rattle.std.proofs.Common.{◌≡◌, ◌∙◌, ℕ, zero, suc, true, List, [], ◌∷◌, Option, Some, refl, ap, subst}
use Rattle.std.specs.Io.BufRead.{drop_through, take_through}
use Rattle.wm_disk.specs.declared.refusal.Refusal.TheVariants.{NotReady}
use Rattle.wm_client.specs.Asks.{Asks, AsksWhole, TellsRoot}
use Rattle.wm_client.specs.RefusalLines.{is_refused_by}
use Rattle.wm_client.specs.Syncs.{IsAfterWaits}
use Rattle.wm_client.specs.Talks.{PrintsLines}
use Rattle.wm_client.specs.declared.syncing.Asked.{Asked}
use Rattle.wm_client.specs.declared.syncing.Asked.TheVariants.{Root, Unreadable, Ended}
use Rattle.wm_client.specs.declared.talking.TalkEnd.TheVariants as talk

-- a line that was read and is no refusal tells the root, or has no clock
pub asks_root : (input line : List ℕ) (held left : Option (List ℕ)) (asked : Asked) → line ≡ take_through 10 input → left ≡ Some (drop_through 10 input) → TellsRoot line asked
    → Asks input held held left asked
asks_root input line held left (Root n) is behind tells = (subst (λ (l : List ℕ). TellsRoot l (Root n)) is tells, behind, refl)
asks_root input line held left Unreadable is behind tells = (subst (λ (l : List ℕ). TellsRoot l Unreadable) is tells, refl)
asks_root input line held left (Ended end) is behind tells = absurd tells

-- one more refusal for now
pub after_more : (k : ℕ) (input rest : List ℕ) → IsAfterWaits k input rest → is_refused_by NotReady (take_through 10 rest) ≡ true → IsAfterWaits (suc k) input (drop_through 10 rest)
after_more zero input rest is refused = (subst (λ (l : List ℕ). is_refused_by NotReady (take_through 10 l) ≡ true) is refused, ap (drop_through 10) is)
after_more (suc k) input rest (first, more) refused = (first, after_more k (drop_through 10 input) rest more refused)

-- what is known of the end of the time may be more
pub whole_there : (over later : Type 0) (held mid holds : Option (List ℕ)) (asked : Asked) → (over → later) → mid ≡ held → AsksWhole over mid holds asked → AsksWhole later held holds asked
whole_there over later held mid holds (Root n) so same whole = whole ∙ same
whole_there over later held mid holds Unreadable so same whole = tt
whole_there over later held mid holds (Ended talk.Told) so same whole = whole
whole_there over later held mid holds (Ended talk.Refused) so same (reply, printed, late) =
    (reply, subst (λ (o : Option (List ℕ)). PrintsLines (reply ∷ []) o holds) same printed, λ is. so (late is))
whole_there over later held mid holds (Ended talk.NoReply) so same whole = whole
whole_there over later held mid holds (Ended talk.ReadFailed) so same whole = whole
whole_there over later held mid holds (Ended talk.Unsent) so same whole = whole
whole_there over later held mid holds (Ended talk.Unprinted) so same whole = whole
