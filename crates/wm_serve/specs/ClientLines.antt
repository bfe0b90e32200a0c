-- What comes next of a client.
use Rattle.std.specs.Prelude.{ℕ, List, [], Option}
use Rattle.std.specs.Result.{IsErr}
use Rattle.wm_session.specs.session.Reading.{ReadsLine}
use Rattle.wm_session.specs.declared.session.input.LineRead.TheVariants as reads
use Rattle.wm_serve.specs.declared.slots.lines.NextLine.{NextLine}
use Rattle.wm_serve.specs.declared.slots.lines.NextLine.TheVariants.{Line, Lost, End}

-- so a line was read off what was left of a reader: one that memory ran out for is answered so, and the lines end only if nothing was left
abbrev pub ReadsNext : List ℕ → NextLine → Type 0
ReadsNext rest (Line one) = (left : Option (List ℕ)) × ReadsLine rest reads.Kept one.line.items left
ReadsNext rest (Lost reply) = IsErr reply.line × ((left : Option (List ℕ)) × ReadsLine rest reads.Lost [] left)
ReadsNext rest End = (left : Option (List ℕ)) × ReadsLine rest reads.End [] left
