-- What contracts see of a reader and of a writer with a note of their failures.
use Rattle.std.specs.Prelude.{◌≡◌, ◌⊎◌, ℕ, Bool, true}
use Rattle.wm_session.specs.declared.session.input.Input.{Input}
use Rattle.wm_session.specs.declared.session.output.Output.{Output}

module _ {R : Type 0} where
  abbrev pub reader_of : Input R → R
  reader_of input = input.reader

  -- how often a next line was asked for
  abbrev pub lines_read : Input R → ℕ
  lines_read input = input.lines

  abbrev pub reader_failed : Input R → Bool
  reader_failed input = input.has_failed

module _ {W : Type 0} where
  abbrev pub writer_of : Output W → W
  writer_of output = output.writer

  abbrev pub writer_failed : Output W → Bool
  writer_failed output = output.has_failed

  -- nobody reads it any more
  abbrev pub writer_closed : Output W → Bool
  writer_closed output = output.is_closed

-- the reader or the writer has failed, or no more lines can be counted
abbrev pub IsCutOff : {R W : Type 0} → Input R → Output W → Type 0
IsCutOff input output = (reader_failed input ≡ true) ⊎ (writer_failed output ≡ true) ⊎ (lines_read input ≡ 18446744073709551615)

-- neither has failed since
abbrev pub StandAsBefore : {R W : Type 0} → Input R → Input R → Output W → Output W → Type 0
StandAsBefore old new held holds = (reader_failed new ≡ reader_failed old) × (writer_failed holds ≡ writer_failed held)

-- the streams of a program: what it reads, what it answers on, and where it tells what goes wrong
pub record Streams (R W E : Type 0) : Type 0 where
  pub reader : Input R
  pub writer : Output W
  pub faults : Output E

abbrev pub streams : {R W E : Type 0} → Input R → Output W → Output E → Streams R W E
streams reader writer faults = record { reader = reader; writer = writer; faults = faults }
