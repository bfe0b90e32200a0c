use Rattle.std.proofs.Common.{◌≡◌, ◌∙◌, List, ℕ, Some, ap, sym, subst, rules}
use Rattle.std.specs.Io.KnownBytes.{Appends}
use Rattle.wm_protocol.specs.Protocol.{is_refusal_line}
use Rattle.wm_client.proofs.Printing.{one_line}
use Rattle.wm_client.proofs.Telling.{BeginsPlain, begins_plain, then_more, then_short, then_whole}
use Rattle.wm_client.proofs.talking.talk.Given.{Over}
use Rattle.wm_client.proofs.talking.talk.Goals as goal

-- the reply was read, is no refusal, and was printed
begins : (g : Over) (c : goal.After-drop-line-2 g) (input : List ℕ) → g.R.Read.remaining c.args.replies.now ≡ Some input
    → BeginsPlain (λ rest. g.R.Read.remaining c.read_line.new.replies ≡ Some rest) input (g.W.Write.contents c.args.printer.now) (g.W.Write.contents c.print.new.printer)
begins g c input known =
    let told = c.read_line.ensures.told (search rules) input known in
    begins_plain (λ rest. g.R.Read.remaining c.read_line.new.replies ≡ Some rest) c.read_line.new.line.items input _ _ told.0 (c.read_line.ensures.whole (search rules))
    (subst (Appends (g.W.Write.contents c.args.printer.now) (g.W.Write.contents c.print.new.printer)) c.deref-2.ensures.value (c.print.ensures (search rules)))
    (ap is_refusal_line (sym c.deref.ensures.value) ∙ sym c.is_refusal-is_refused.ensures ∙ c.if-is_refused.false) told.1

pub returns-clause-told : goal.returns-clause-told
returns-clause-told g c =
    then_more c.args.follow _ _ _ (λ input. g.R.Read.remaining c.args.replies.now ≡ Some input) (λ rest. g.R.Read.remaining c.read_line.new.replies ≡ Some rest) c.print_lines.result
    (begins g c) c.print_lines.ensures.told c.print_lines.ensures.some c.print_lines.ensures.lacking c.print_lines.ensures.alone

pub returns-clause-short : goal.returns-clause-short
returns-clause-short g c =
    then_short c.args.follow _ _ _ (λ input. g.R.Read.remaining c.args.replies.now ≡ Some input) (λ rest. g.R.Read.remaining c.read_line.new.replies ≡ Some rest) c.print_lines.result
    (begins g c) c.print_lines.ensures.short

pub returns-clause-whole : goal.returns-clause-whole
returns-clause-whole g c =
    then_whole c.args.follow c.read_line.new.line.items _ _ _ c.print_lines.result
    (one_line c.read_line.new.line.items _ _ (c.read_line.ensures.whole (search rules))
    (subst (Appends (g.W.Write.contents c.args.printer.now) (g.W.Write.contents c.print.new.printer)) c.deref-2.ensures.value (c.print.ensures (search rules))))
    (ap is_refusal_line (sym c.deref.ensures.value) ∙ sym c.is_refusal-is_refused.ensures ∙ c.if-is_refused.false) c.print_lines.ensures.whole c.print_lines.ensures.alone
