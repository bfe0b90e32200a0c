use Rattle.std.proofs.Common.{◌≡◌, ◌∙◌, ℕ, List, codes, refl, subst}
use Rattle.std.specs.Prelude.{OnOk}
use Rattle.std.specs.Io.KnownBytes.{Appends}
use Rattle.serde_json.proofs.OnLiterals.{serde_json_on_literals}
use Rattle.wm_lines.specs.Replies.{line_text}
use Rattle.wm_serve.specs.SentLines.{no_memory_bytes}
use Rattle.wm_serve.proofs.slots.lines.send_no_memory.Goals as goal

no_memory_line : codes "{\"error\":\"16 NoMemory\",\"version\":\"w1\"}\n" ≡ no_memory_bytes
unfolding line_text serde_json_on_literals
no_memory_line = refl

pub returns : goal.returns
returns g c =
    subst (λ (t : List ℕ). OnOk c.write_all.result (Appends (g.W.Write.contents c.args.writer.now) (g.W.Write.contents c.write_all.new.self) t))
    (c.as_bytes.ensures.value ∙ no_memory_line) c.write_all.ensures.bytes
