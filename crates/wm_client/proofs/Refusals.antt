-- A line that begins as that of none of the refusals, one after the other.
use Rattle.std.proofs.Common.{◌≡◌, ◌∷◌, ◌++◌, [], ℕ, Bool, true, false, ◌||◌, List, take, drop, refl, true≢false, Option, None, Some, MatchOption}
use Rattle.std.specs.List.{list_any}
use Rattle.wm_client.specs.RefusalLines.{IsRefusalOf, is_refused_by}
use Rattle.wm_disk.specs.declared.refusal.Refusal.{Refusal}
use Rattle.wm_disk.specs.declared.refusal.Refusal.TheVariants.{BadLine, BadCommand, BadArguments, BadPath, NotWatched, NotReady, BadClock, BadExpression, BadField, BadTrigger, Full, StoreFailed, DeviceFailed, Damaged, Exhausted, NoMemory, TooMany, NoPlace, NoQuestion, Retired, OldVersion}

abbrev pub every_refusal : List Refusal
every_refusal = BadLine ∷ BadCommand ∷ BadArguments ∷ BadPath ∷ NotWatched ∷ NotReady ∷ BadClock ∷ BadExpression ∷ BadField ∷ BadTrigger ∷ Full ∷ StoreFailed ∷ DeviceFailed ∷ Damaged ∷ Exhausted ∷ NoMemory ∷ TooMany ∷ NoPlace ∷ NoQuestion ∷ Retired ∷ OldVersion ∷ []

left_false : (a b : Bool) → (a || b) ≡ false → a ≡ false
left_false true b either = either
left_false false b either = refl

right_false : (a b : Bool) → (a || b) ≡ false → b ≡ false
right_false true b either = absurd (true≢false either)
right_false false b either = either

none_at : {X : Type 0} (p : X → Bool) (before : List X) (x : X) (after : List X) → list_any p (before ++ x ∷ after) ≡ false → p x ≡ false
none_at p [] x after none = left_false (p x) (list_any p after) none
none_at p (y ∷ ys) x after none = none_at p ys x after (right_false (p y) (list_any p (ys ++ x ∷ after)) none)

pub none_of : (line : List ℕ) → list_any (λ r. is_refused_by r line) every_refusal ≡ false → (r : Refusal) → is_refused_by r line ≡ false
none_of line none BadLine = none_at (λ r. is_refused_by r line) (take 0 every_refusal) BadLine (drop 1 every_refusal) none
none_of line none BadCommand = none_at (λ r. is_refused_by r line) (take 1 every_refusal) BadCommand (drop 2 every_refusal) none
none_of line none BadArguments = none_at (λ r. is_refused_by r line) (take 2 every_refusal) BadArguments (drop 3 every_refusal) none
none_of line none BadPath = none_at (λ r. is_refused_by r line) (take 3 every_refusal) BadPath (drop 4 every_refusal) none
none_of line none NotWatched = none_at (λ r. is_refused_by r line) (take 4 every_refusal) NotWatched (drop 5 every_refusal) none
none_of line none NotReady = none_at (λ r. is_refused_by r line) (take 5 every_refusal) NotReady (drop 6 every_refusal) none
none_of line none BadClock = none_at (λ r. is_refused_by r line) (take 6 every_refusal) BadClock (drop 7 every_refusal) none
none_of line none BadExpression = none_at (λ r. is_refused_by r line) (take 7 every_refusal) BadExpression (drop 8 every_refusal) none
none_of line none BadField = none_at (λ r. is_refused_by r line) (take 8 every_refusal) BadField (drop 9 every_refusal) none
none_of line none BadTrigger = none_at (λ r. is_refused_by r line) (take 9 every_refusal) BadTrigger (drop 10 every_refusal) none
none_of line none Full = none_at (λ r. is_refused_by r line) (take 10 every_refusal) Full (drop 11 every_refusal) none
none_of line none StoreFailed = none_at (λ r. is_refused_by r line) (take 11 every_refusal) StoreFailed (drop 12 every_refusal) none
none_of line none DeviceFailed = none_at (λ r. is_refused_by r line) (take 12 every_refusal) DeviceFailed (drop 13 every_refusal) none
none_of line none Damaged = none_at (λ r. is_refused_by r line) (take 13 every_refusal) Damaged (drop 14 every_refusal) none
none_of line none Exhausted = none_at (λ r. is_refused_by r line) (take 14 every_refusal) Exhausted (drop 15 every_refusal) none
none_of line none NoMemory = none_at (λ r. is_refused_by r line) (take 15 every_refusal) NoMemory (drop 16 every_refusal) none
none_of line none TooMany = none_at (λ r. is_refused_by r line) (take 16 every_refusal) TooMany (drop 17 every_refusal) none
none_of line none NoPlace = none_at (λ r. is_refused_by r line) (take 17 every_refusal) NoPlace (drop 18 every_refusal) none
none_of line none NoQuestion = none_at (λ r. is_refused_by r line) (take 18 every_refusal) NoQuestion (drop 19 every_refusal) none
none_of line none Retired = none_at (λ r. is_refused_by r line) (take 19 every_refusal) Retired (drop 20 every_refusal) none
none_of line none OldVersion = none_at (λ r. is_refused_by r line) (take 20 every_refusal) OldVersion (drop 21 every_refusal) none

pub named_of : (line : List ℕ) (found : Option Refusal) → MatchOption found (list_any (λ r. is_refused_by r line) every_refusal ≡ false) (λ r. is_refused_by r line ≡ true) → IsRefusalOf line found
named_of line None none = none_of line none
named_of line (Some r) is = is
