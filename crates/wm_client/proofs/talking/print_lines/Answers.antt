use Rattle.std.proofs.Common.{◌∙◌, Some, ap, subst, sym, rules, true≢false}
use Rattle.wm_client.specs.Talks.{lines_first}
use Rattle.wm_client.proofs.Telling.{any_error}
use Rattle.std.specs.Io.KnownBytes.{Appends}
use Rattle.wm_client.proofs.Lines.{grown_twice, line_whole, lines_behind, next_behind, next_line, one_more_whole}
use Rattle.wm_client.proofs.Printing.{one_line_more}
use Rattle.wm_client.proofs.talking.print_lines.Goals as goal

pub loop-preserved : goal.loop-preserved
loop-preserved g c = (
  one_line_more c.loop.counter c.print_line.new.line.items _ _ _ c.loop.invariant.0 (c.print_line.ensures.whole (search rules)),
  λ input known.
      let before = c.loop.invariant.1 input known in
      let told = c.print_line.ensures.told (search rules) (lines_behind c.loop.counter input) before.2 in (
        one_more_whole c.loop.counter input before.0 told.0,
        subst (Appends (g.W.Write.contents c.args.printer.now) (g.W.Write.contents c.print_line.new.printer)) (sym (next_line c.loop.counter input))
            (grown_twice _ _ _ _ _ before.1 told.1),
        told.2 ∙ ap (λ rest. Some rest) (sym (next_behind c.loop.counter input)),
      ),
)

pub returns-in_default : goal.returns-in_default
returns-in_default g c = record {
  whole = λ is. absurd (c.in_default.not-Told (cc is));
  told = λ is. absurd (c.in_default.not-Told (cc is));
  alone = c.in_ok-other.ensures.alone;
  some = λ no_end no_fault input known.
      let before = c.loop.invariant.1 input known in (
        c.loop.counter,
        search rules,
        before.0,
        subst (λ o. Appends (g.W.Write.contents c.args.printer.now) o (lines_first c.loop.counter input)) (sym (c.in_ok-other.ensures.quiet no_end no_fault)) before.1,
      );
  lacking = λ is input known has.
      let before = c.loop.invariant.1 input known in
      true≢false (sym (line_whole c.args.count c.loop.counter input (search rules) has) ∙ c.in_ok-other.ensures.lacking is (lines_behind c.loop.counter input) before.2);
  short = tt;
}

pub returns-in_err-other-clause-short : goal.returns-in_err-other-clause-short
returns-in_err-other-clause-short g c = any_error c.from_residual.result (λ input known.
    let before = c.loop.invariant.1 input known in (
      c.loop.counter,
      search rules,
      before.0,
      subst (λ o. Appends (g.W.Write.contents c.args.printer.now) o (lines_first c.loop.counter input)) (sym c.in_err-other.ensures.short) before.1,
    ))
