use Rattle.std.proofs.Common.{◌≡◌, ◌++◌, ◌∙◌, rules, ap, sym, append_assoc, codes, List, ℕ}
use Rattle.wm_disk.specs.Refusals.{refusal_text}
use Rattle.wm_lines.proofs.ReplyTexts.{refusal_line}
use Rattle.wm_lines.proofs.reply.put_refusal.Goals as goal

pub returns : goal.returns
returns c =
    let old = c.args.out.now.items in
    let head = codes "{\"error\":\"" in
    let text = refusal_text c.args.refusal in
    let tail = codes "\",\"version\":\"w1\"}\n" in
    let first : c.extend_from_slice.new.self.items ≡ old ++ head = search rules in
    let second : c.extend_from_slice-2.new.self.items ≡ c.extend_from_slice.new.self.items ++ text = search rules in
    let third : c.extend_from_slice-3.new.self.items ≡ c.extend_from_slice-2.new.self.items ++ tail = search rules in
    third ∙ ap (λ (t : List ℕ). t ++ tail) (second ∙ ap (λ (t : List ℕ). t ++ text) first ∙ append_assoc old head text)
    ∙ append_assoc old (head ++ text) tail ∙ ap (λ (t : List ℕ). old ++ t) (sym (refusal_line c.args.refusal))
