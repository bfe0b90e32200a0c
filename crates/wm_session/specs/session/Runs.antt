-- A whole session: what is written for what is read, and where it is left.
use Rattle.std.specs.Prelude.{◌≡◌, ℕ, ◌+◌, List, [], ◌∷◌, ◌++◌, Option}
use Rattle.std.specs.Io.KnownBytes.{Appends}
use Rattle.wm_registry.specs.declared.command.Command.{Command}
use Rattle.wm_session.specs.session.Asked.{asked_in}
use Rattle.wm_session.specs.session.Inputs.{lines_of}
use Rattle.wm_session.specs.session.Sessions.{SessionState, WithSubscriptions}
use Rattle.wm_session.specs.session.Dues.{after_line, line_bytes}
use Rattle.wm_session.specs.session.Faults.{FrontState, Meeting, RepliesTo, faults_at}

-- the bytes written for lines, the first of which comes at the k-th moment
abbrev pub output_of : WithSubscriptions SessionState → (ℕ → ℕ) → ℕ → List (List ℕ) → List ℕ
output_of s moment k [] = []
output_of s moment k (line ∷ lines) = line_bytes s (moment k) line ++ output_of (after_line s (moment k) line) moment (k + 1) lines

-- where the session stands after them
abbrev pub state_after : WithSubscriptions SessionState → (ℕ → ℕ) → ℕ → List (List ℕ) → WithSubscriptions SessionState
state_after s moment k [] = s
state_after s moment k (line ∷ lines) = state_after (after_line s (moment k) line) moment (k + 1) lines

-- From old, the lines may be met in these ways, one a line, be answered with these bytes and leave new.
abbrev pub RunsLines : WithSubscriptions FrontState → (ℕ → ℕ) → ℕ → List (List ℕ) → List Meeting → List ℕ → WithSubscriptions FrontState → Type 0
RunsLines old moment k [] [] bytes new = (bytes ≡ []) × (new ≡ old)
RunsLines old moment k [] (meeting ∷ meetings) bytes new = ⊥
RunsLines old moment k (line ∷ lines) [] bytes new = ⊥
RunsLines old moment k (line ∷ lines) (meeting ∷ meetings) bytes new =
    (prefix : List ℕ) × (rest : List ℕ) × (next : WithSubscriptions FrontState) × (bytes ≡ prefix ++ rest) × RepliesTo meeting old (moment k) line prefix next × RunsLines next moment (k + 1) lines meetings rest new

-- how many of these lines met a fault
abbrev pub faults_in : List Meeting → ℕ
faults_in [] = 0
faults_in (meeting ∷ meetings) = faults_at meeting + faults_in meetings

-- an input was served, where the writer tells its bytes, and so many faults were met
pub record Served (old : WithSubscriptions FrontState) (moment : ℕ → ℕ) (k : ℕ) (input : List ℕ) (faults : ℕ) (held holds : Option (List ℕ)) (new : WithSubscriptions FrontState) : Type 0 where
  pub meetings : List Meeting
  pub bytes : List ℕ
  pub run : RunsLines old moment k (lines_of input) meetings bytes new
  pub faults_are : faults ≡ faults_in meetings
  pub appends : Appends held holds bytes

-- each line was answered as it is defined
pub record ServedCleanly (old : WithSubscriptions SessionState) (moment : ℕ → ℕ) (k : ℕ) (input : List ℕ) (held holds : Option (List ℕ)) (new : WithSubscriptions SessionState) : Type 0 where
  pub appends : Appends held holds (output_of old moment k (lines_of input))
  pub state_is : new ≡ state_after old moment k (lines_of input)

-- A prefix of the input's lines was met, and these commands are what it asks for. Where the reader or the writer failed the last reply
-- may be told in part or not at all.
pub record HandlesPrefix (old : WithSubscriptions FrontState) (moment : ℕ → ℕ) (input : List ℕ) (asked : List Command) (new : WithSubscriptions FrontState) : Type 0 where
  pub met : List (List ℕ)
  pub more : List (List ℕ)
  pub lines : lines_of input ≡ met ++ more
  pub asked_is : asked ≡ asked_in met
  pub meetings : List Meeting
  pub bytes : List ℕ
  pub run : RunsLines old moment 0 met meetings bytes new

-- ---- for private clauses

-- a line was answered to the writer, with so many faults
pub record Serves (old : WithSubscriptions FrontState) (moment : ℕ) (line : List ℕ) (faults : ℕ) (held holds : Option (List ℕ)) (new : WithSubscriptions FrontState) : Type 0 where
  pub meeting : Meeting
  pub bytes : List ℕ
  pub faults_are : faults ≡ faults_at meeting
  pub appends : Appends held holds bytes
  pub answers : RepliesTo meeting old moment line bytes new

-- a line was met, and the writer failed
pub record Untold (old : WithSubscriptions FrontState) (moment : ℕ) (line : List ℕ) (new : WithSubscriptions FrontState) : Type 0 where
  pub meeting : Meeting
  pub bytes : List ℕ
  pub answers : RepliesTo meeting old moment line bytes new
