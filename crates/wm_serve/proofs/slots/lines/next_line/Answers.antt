use Rattle.std.proofs.Common.{rules, subst}
use Rattle.wm_session.specs.session.Reading.{ReadsLine}
use Rattle.wm_serve.proofs.slots.lines.next_line.Goals as goal

pub returns-in-Ok-End : goal.returns-in-Ok-End
returns-in-Ok-End g c rest is =
    let left = g.R.Read.remaining c.read_line.new.input.reader.now in
    (left, subst (λ read. ReadsLine rest read c.read_line.new.line.items left) c.in-Ok-End.field-0-is (c.in-Ok-End.ensures.read rest (search (is, c.new.ensures.reader, rules))))

pub returns-in-Ok-Lost : goal.returns-in-Ok-Lost
returns-in-Ok-Lost g c rest is =
    let left = g.R.Read.remaining c.read_line.new.input.reader.now in
    (c.lost.ensures, (left, subst (λ read. ReadsLine rest read c.read_line.new.line.items left) c.in-Ok-Lost.field-0-is (c.in-Ok-Lost.ensures.read rest (search (is, c.new.ensures.reader, rules)))))

pub returns-in-Ok-Kept : goal.returns-in-Ok-Kept
returns-in-Ok-Kept g c rest is =
    let left = g.R.Read.remaining c.read_line.new.input.reader.now in
    (left, subst (λ read. ReadsLine rest read c.read_line.new.line.items left) c.in-Ok-Kept.field-0-is (c.in-Ok-Kept.ensures.read rest (search (is, c.new.ensures.reader, rules))))
