use Rattle.std.proofs.Common.{◌≡◌, ◌∙◌, ℕ, List, codes, refl, subst}
use Rattle.std.specs.Prelude.{Err, OnOk}
use Rattle.std.specs.Io.KnownBytes.{Appends}
use Rattle.serde_json.proofs.OnLiterals.{serde_json_on_literals}
use Rattle.wm_disk.specs.declared.refusal.Refusal.TheVariants.{TooMany}
use Rattle.wm_lines.specs.Replies.{line_text, reply_bytes}
use Rattle.wm_serve.proofs.socket.admission_lines.send_too_many.Goals as goal

too_many_line : codes "{\"error\":\"17 TooMany\",\"version\":\"w1\"}\n" ≡ reply_bytes (Err TooMany)
unfolding line_text serde_json_on_literals
too_many_line = refl

pub returns : goal.returns
returns g c =
    subst (λ (t : List ℕ). OnOk c.write_all.result (Appends (g.W.Write.contents c.args.writer.now) (g.W.Write.contents c.write_all.new.self) t))
    (c.as_bytes.ensures.value ∙ too_many_line) c.write_all.ensures.bytes
