-- What is printed where the reply was printed, and where it wasn't.
use Rattle.std.proofs.Common.{◌≡◌, ◌≢◌, ◌<◌, ◌≤◌, ◌+◌, ◌∷◌, [], ℕ, List, Option, Result, Ok, Err, IfErr, IfOk, true, false, refl, sym, subst, arith}
use Rattle.std.specs.Io.BufRead.{drop_through, take_through}
use Rattle.std.specs.Io.KnownBytes.{Appends}
use Rattle.wm_client.specs.Talks.{HasLines, Prints, PrintsBefore, PrintsLines, PrintsReply, PrintsSome, has_come_whole, lines_first}
use Rattle.wm_protocol.specs.Protocol.{is_refusal_line}
use Rattle.wm_client.specs.declared.talking.TalkEnd.{TalkEnd}
use Rattle.wm_client.specs.declared.talking.TalkEnd.TheVariants.{Told, Refused, NoReply, ReadFailed, Unsent, Unprinted}
use Rattle.wm_client.proofs.Lines.{grown_twice, reply_first, rest_whole, whole_first}
use Rattle.wm_client.proofs.Printing.{PrintsCount, lines_joined}

one_more_below : (k n : ℕ) → k < n → k + 1 ≤ n
one_more_below k n below = omega arith

-- the reply was printed, and some lines behind it
one_before : (follow : ℕ) (input : List ℕ) (held mid holds : Option (List ℕ)) → has_come_whole (take_through 10 input) ≡ true → Appends held mid (take_through 10 input)
    → PrintsBefore follow (drop_through 10 input) mid holds → PrintsSome follow input held holds
one_before follow input held mid holds whole printed (k, below, has, rest) = (
  k + 1,
  one_more_below k follow below,
  whole_first k input whole has,
  subst (Appends held holds) (sym (reply_first k input)) (grown_twice held mid holds _ _ printed rest),
)

-- whatever the error is
pub any_error : {A E Q : Type 0} (result : Result A E) → Q → IfErr result (λ _. Q)
any_error (Ok a) q = tt
any_error (Err e) q = q

-- What comes begins with this line, which is whole and no refusal; it was printed, and so much is left behind it.
abbrev pub BeginsPlain : (List ℕ → Type 0) → List ℕ → (held mid : Option (List ℕ)) → Type 0
BeginsPlain behind input held mid =
    (has_come_whole (take_through 10 input) ≡ true) × Appends held mid (take_through 10 input) × (is_refusal_line (take_through 10 input) ≡ false) × behind (drop_through 10 input)

pub begins_plain : (behind : List ℕ → Type 0) (line input : List ℕ) (held mid : Option (List ℕ)) → line ≡ take_through 10 input → has_come_whole line ≡ true → Appends held mid line
    → is_refusal_line line ≡ false → behind (drop_through 10 input) → BeginsPlain behind input held mid
begins_plain behind line input held mid is whole printed plain rest = subst (λ l. (has_come_whole l ≡ true) × Appends held mid l × (is_refusal_line l ≡ false) × behind (drop_through 10 input)) is (whole, printed, plain, rest)

-- The reply was printed and was no refusal, and memory ran out behind it.
pub then_short : {A E : Type 0} (follow : ℕ) (held mid holds : Option (List ℕ)) (known behind : List ℕ → Type 0) (result : Result A E)
    → ((input : List ℕ) → known input → BeginsPlain behind input held mid)
    → IfErr result (λ _. (rest : List ℕ) → behind rest → PrintsBefore follow rest mid holds) → IfErr result (λ _. (input : List ℕ) → known input → PrintsSome follow input held holds)
then_short follow held mid holds known behind (Ok a) first some = tt
then_short follow held mid holds known behind (Err e) first some = λ input knows.
    let begins = first input knows in one_before follow input held mid holds begins.0 begins.1 (some (drop_through 10 input) begins.3)

-- The reply was printed and was no refusal.
pub then_more : {E : Type 0} (follow : ℕ) (held mid holds : Option (List ℕ)) (known behind : List ℕ → Type 0) (result : Result TalkEnd E)
    → ((input : List ℕ) → known input → BeginsPlain behind input held mid)
    → (result ≡ Ok Told → (rest : List ℕ) → behind rest → HasLines follow rest × Appends mid holds (lines_first follow rest))
    → IfOk result (λ end. end ≢ Told → end ≢ Unprinted → (rest : List ℕ) → behind rest → PrintsBefore follow rest mid holds)
    → (result ≡ Ok NoReply → (rest : List ℕ) → behind rest → HasLines follow rest → ⊥)
    → IfOk result (λ end. (end ≢ Refused) × (end ≢ Unsent)) → IfOk result (λ end. (input : List ℕ) → known input → Prints follow input held holds end)
then_more follow held mid holds known behind (Err e) first more some lacking alone = tt
then_more follow held mid holds known behind (Ok Told) first more some lacking alone = λ input knows.
    let begins = first input knows in
    let rest = more refl (drop_through 10 input) begins.3 in
    (whole_first follow input begins.0 rest.0, subst (Appends held holds) (sym (reply_first follow input)) (grown_twice held mid holds _ _ begins.1 rest.1), begins.2)
then_more follow held mid holds known behind (Ok Refused) first more some lacking alone = absurd (alone.0 refl)
then_more follow held mid holds known behind (Ok NoReply) first more some lacking alone = λ input knows.
    let begins = first input knows in (
      one_before follow input held mid holds begins.0 begins.1 (some (λ is. cc is) (λ is. cc is) (drop_through 10 input) begins.3),
      λ has. lacking refl (drop_through 10 input) begins.3 (rest_whole follow input has),
    )
then_more follow held mid holds known behind (Ok ReadFailed) first more some lacking alone = λ input knows.
    let begins = first input knows in one_before follow input held mid holds begins.0 begins.1 (some (λ is. cc is) (λ is. cc is) (drop_through 10 input) begins.3)
then_more follow held mid holds known behind (Ok Unsent) first more some lacking alone = absurd (alone.1 refl)
then_more follow held mid holds known behind (Ok Unprinted) first more some lacking alone = λ input knows. tt

-- A reply was printed, and then so many lines, where nothing was told short of them.
pub then_whole : {E : Type 0} (follow : ℕ) (reply : List ℕ) (held mid holds : Option (List ℕ)) (result : Result TalkEnd E) → PrintsLines (reply ∷ []) held mid → is_refusal_line reply ≡ false
    → (result ≡ Ok Told → PrintsCount follow mid holds) → IfOk result (λ end. (end ≢ Refused) × (end ≢ Unsent)) → IfOk result (PrintsReply follow held holds)
then_whole follow reply held mid holds (Err e) printed plain more alone = tt
then_whole follow reply held mid holds (Ok Told) printed plain more alone = (let rest = more refl in (reply, rest.0, lines_joined (reply ∷ []) rest.0 held mid holds printed rest.1, plain, rest.2))
then_whole follow reply held mid holds (Ok Refused) printed plain more alone = absurd (alone.0 refl)
then_whole follow reply held mid holds (Ok NoReply) printed plain more alone = tt
then_whole follow reply held mid holds (Ok ReadFailed) printed plain more alone = tt
then_whole follow reply held mid holds (Ok Unsent) printed plain more alone = tt
then_whole follow reply held mid holds (Ok Unprinted) printed plain more alone = tt
