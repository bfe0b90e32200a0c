use Rattle.std.proofs.Common.{◌≡◌, ◌++◌, ◌∙◌, List, ℕ, ap, sym, append_assoc, codes, cond, decimal, is_ok, rules}
use Rattle.wm_lines.proofs.ReplyTexts.{floor_line}
use Rattle.wm_lines.proofs.reply.put_floor.Goals as goal

pub returns-clause-value : goal.returns-clause-value
returns-clause-value c =
    let old = c.args.out.now.items in
    let head = codes "{\"floor\":" in
    let text = decimal c.args.floor in
    let tail = codes ",\"version\":\"w1\"}\n" in
    let first : c.extend_from_slice.new.self.items ≡ old ++ head = search rules in
    let second : c.put_number.new.out.items ≡ c.extend_from_slice.new.self.items ++ text = c.put_number.ensures.value in
    let third : c.extend_from_slice-2.new.self.items ≡ c.put_number.new.out.items ++ tail =
    c.extend_from_slice-2.ensures.items ∙ ap (λ r. cond (is_ok r) (c.put_number.new.out.items ++ tail) c.put_number.new.out.items) c.unwrap-2.ensures in
    third ∙ ap (λ (t : List ℕ). t ++ tail) (second ∙ ap (λ (t : List ℕ). t ++ text) first ∙ append_assoc old head text)
    ∙ append_assoc old (head ++ text) tail ∙ ap (λ (t : List ℕ). old ++ t) (sym (floor_line c.args.floor))
