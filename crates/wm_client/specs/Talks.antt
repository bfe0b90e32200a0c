-- What a talk with a server prints of the lines that come.
use Rattle.std.specs.Prelude.{◌≡◌, ◌<◌, ◌≤◌, ◌+◌, ◌++◌, ◌∷◌, ⊤, ℕ, zero, suc, nat_eq, Bool, true, false, List, [], Option, length, codes}
use Rattle.std.specs.Io.BufRead.{drop_through, take_through}
use Rattle.std.specs.Io.KnownBytes.{Appends}
use Rattle.std.specs.List.{concat, ends_with, list_all}
use Rattle.wm_protocol.specs.Protocol.{is_refusal_line}
use Rattle.wm_client.specs.declared.talking.TalkEnd.{TalkEnd}
use Rattle.wm_client.specs.declared.talking.TalkEnd.TheVariants.{Told, Refused, NoReply, ReadFailed, Unsent, Unprinted}

-- the first n lines of an input, each with its newline (10)
abbrev pub lines_first : ℕ → List ℕ → List ℕ
lines_first zero input = []
lines_first (suc n) input = take_through 10 input ++ lines_first n (drop_through 10 input)

-- a line that has come whole ends with its newline; what comes before the end of an input doesn't
abbrev pub has_come_whole : List ℕ → Bool
has_come_whole line = ends_with nat_eq line (codes "\n")

-- the first n lines of an input have come whole
abbrev pub HasLines : ℕ → List ℕ → Type 0
HasLines zero input = ⊤
HasLines (suc n) input = (has_come_whole (take_through 10 input) ≡ true) × HasLines n (drop_through 10 input)

-- these bytes are a start of a line, which may be all of it
abbrev pub IsStartOf : List ℕ → List ℕ → Type 0
IsStartOf line start = (rest : List ℕ) × (line ≡ start ++ rest)

-- a known output grew by a start of a line
abbrev pub AppendsStart : Option (List ℕ) → Option (List ℕ) → List ℕ → Type 0
AppendsStart held holds line = (start : List ℕ) × IsStartOf line start × Appends held holds start

-- just some of the first n lines of an input were printed, from the first on, each of them whole
abbrev pub PrintsSome : ℕ → List ℕ → Option (List ℕ) → Option (List ℕ) → Type 0
PrintsSome n input held holds = (k : ℕ) × (k ≤ n) × HasLines k input × Appends held holds (lines_first k input)

-- the same of fewer than n lines
abbrev pub PrintsBefore : ℕ → List ℕ → Option (List ℕ) → Option (List ℕ) → Type 0
PrintsBefore n input held holds = (k : ℕ) × (k < n) × HasLines k input × Appends held holds (lines_first k input)

-- What was printed of the lines that came, by how a talk ended. All was told: the reply, which is no refusal, and so many lines after it, each of them
-- whole. Refused: the reply alone, which is a refusal, whole. No reply: the lines that came whole, which are fewer than were awaited. A read failed: those before it.
-- The request couldn't be sent: nothing, and what came is no refusal. A line couldn't be printed: nothing is said.
abbrev pub Prints : ℕ → List ℕ → Option (List ℕ) → Option (List ℕ) → TalkEnd → Type 0
Prints follow input held holds Told = HasLines (follow + 1) input × Appends held holds (lines_first (follow + 1) input) × (is_refusal_line (take_through 10 input) ≡ false)
Prints follow input held holds Refused = HasLines 1 input × Appends held holds (lines_first 1 input) × (is_refusal_line (take_through 10 input) ≡ true)
Prints follow input held holds NoReply = PrintsSome follow input held holds × (HasLines (follow + 1) input → ⊥)
Prints follow input held holds ReadFailed = PrintsSome follow input held holds
Prints follow input held holds Unsent = (holds ≡ held) × (is_refusal_line (take_through 10 input) ≡ false)
Prints follow input held holds Unprinted = ⊤

-- Just these lines were printed, one behind the other, each of them whole.
abbrev pub PrintsLines : List (List ℕ) → Option (List ℕ) → Option (List ℕ) → Type 0
PrintsLines lines held holds = (list_all has_come_whole lines ≡ true) × Appends held holds (concat lines)

-- What was printed, whatever came. All was told: a reply, which is no refusal, and so many lines after it. Refused: a refusal alone. In the other ends
-- nothing more is said.
abbrev pub PrintsReply : ℕ → Option (List ℕ) → Option (List ℕ) → TalkEnd → Type 0
PrintsReply follow held holds Told = (reply : List ℕ) × (lines : List (List ℕ)) × PrintsLines (reply ∷ lines) held holds × (is_refusal_line reply ≡ false) × (length lines ≡ follow)
PrintsReply follow held holds Refused = (reply : List ℕ) × PrintsLines (reply ∷ []) held holds × (is_refusal_line reply ≡ true)
PrintsReply follow held holds other = ⊤
