use Rattle.std.proofs.Common.{◌∙◌, refl, subst, List, ℕ}
use Rattle.std.specs.Io.KnownBytes.{Appends}
use Rattle.wm_session.specs.session.Streams.{writer_of}
use Rattle.wm_session.proofs.lemmas.session.LongLines.{no_memory_line}
use Rattle.wm_session.proofs.session.run.answer_no_memory.Goals as goal

pub returns-clause-told : goal.returns-clause-told
returns-clause-told g c =
    (refl, subst (λ (t : List ℕ). Appends (g.W.Write.contents (writer_of c.args.writer.now)) (g.W.Write.contents (writer_of c.put.new.self)) t) (c.as_bytes.ensures.value ∙ no_memory_line) c.in_ok-put.ensures.bytes)
