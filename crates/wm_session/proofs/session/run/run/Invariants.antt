use Rattle.std.proofs.Common.{◌≡◌, ◌≤◌, List, ℕ, Some}
use Rattle.wm_registry.specs.declared.command.Command.{Command}
use Rattle.wm_session.specs.session.Streams.{StandAsBefore, lines_read, reader_of, writer_of}
use Rattle.wm_session.specs.session.Stands.{standing}
use Rattle.wm_session.proofs.lemmas.session.RunLemmas.{Loop}
use Rattle.wm_session.proofs.session.run.run.Given as goal

abbrev pub invariant-loop : goal.invariant-loop
invariant-loop g l = (l.faults ≤ l.counter) × (lines_read l.reader ≡ l.counter) × StandAsBefore l.fn.reader l.reader l.fn.writer l.writer × (g.M.Moments.place l.moments ≡ l.counter) × (g.M.Moments.moment l.moments ≡ g.M.Moments.moment l.fn.moments)
    × ((asked : List Command) × g.F.Front.leads_to l.fn.session.front asked l.session.front)
    × ((input : List ℕ) → g.R.Read.remaining (reader_of l.fn.reader) ≡ Some input → (asked : List Command)
    × Loop (standing g.F.OwnFront.front_state l.fn.session) (g.M.Moments.moment l.fn.moments) input asked (g.W.Write.contents (writer_of l.fn.writer))
    l.faults (standing g.F.OwnFront.front_state l.session) (g.M.Moments.place l.moments) (g.R.Read.remaining (reader_of l.reader)) (g.W.Write.contents (writer_of l.writer))
    × g.F.Front.leads_to l.fn.session.front asked l.session.front)
