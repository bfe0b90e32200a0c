use Rattle.std.proofs.Common.{◌≡◌, ◌++◌, ◌∙◌, List, ℕ, ap, sym, append_assoc, codes, rules}
use Rattle.wm_clock.specs.Clocks.{clock_text}
use Rattle.wm_lines.proofs.ReplyTexts.{clock_line}
use Rattle.wm_lines.proofs.reply.put_clock.Goals as goal

pub returns-clause-value : goal.returns-clause-value
returns-clause-value c =
    let old = c.args.out.now.items in
    let head = codes "{\"clock\":\"" in
    let text = clock_text c.args.clock in
    let tail = codes "\",\"version\":\"w1\"}\n" in
    let first : c.extend_from_slice.new.self.items ≡ old ++ head = search rules in
    let second : c.put.new.out.items ≡ c.extend_from_slice.new.self.items ++ text = c.put.ensures.value in
    let third : c.extend_from_slice-2.new.self.items ≡ c.put.new.out.items ++ tail = search rules in
    third ∙ ap (λ (t : List ℕ). t ++ tail) (second ∙ ap (λ (t : List ℕ). t ++ text) first ∙ append_assoc old head text)
    ∙ append_assoc old (head ++ text) tail ∙ ap (λ (t : List ℕ). old ++ t) (sym (clock_line c.args.clock))
