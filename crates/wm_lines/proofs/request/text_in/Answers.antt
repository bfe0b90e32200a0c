use Rattle.std.proofs.Common.{rules, refl, sym, ◌∙◌}
use Rattle.serde_json.specs.Errors.{IsMemory}
use Rattle.wm_lines.proofs.Texts.{text_of-read, text_of-refused, text_of-cut}
use Rattle.wm_lines.proofs.request.text_in.Goals as goal

pub returns-then-not-is_whole-clause-refused : goal.returns-then-not-is_whole-clause-refused
returns-then-not-is_whole-clause-refused c = λ ne. (refl, text_of-cut _ (sym c.is_whole.ensures ∙ c.if-not-is_whole.true))

pub returns-in-Ok-clause-ok : goal.returns-in-Ok-clause-ok
returns-in-Ok-clause-ok c = text_of-read _ _ (sym c.is_whole.ensures ∙ c.if-not-is_whole.false) c.in-Ok.ensures.ok.0 c.in-Ok.ensures.ok.1

pub returns-else-is_memory-clause-refused : goal.returns-else-is_memory-clause-refused
returns-else-is_memory-clause-refused c =
    let other : ¬ (IsMemory c.in-Err.error) = search rules in
    λ ne. (refl, text_of-refused _ (c.in-Err.ensures.err other))
