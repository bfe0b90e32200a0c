use Rattle.std.proofs.Common.{◌≡◌, ◌≤◌, ◌++◌, ◌-◌, ◌∙◌, ap, rules, min, take, length, List, ℕ}
use Rattle.wm_session.specs.session.Inputs.{max_kept}
use Rattle.wm_session.proofs.lemmas.session.InputLemmas.{kept_part, keeps_part}
use Rattle.wm_session.proofs.session.input.keep.Goals as goal

pub returns-else-is_err-clause-kept : goal.returns-else-is_err-clause-kept
returns-else-is_err-clause-kept c =
    let old = c.args.line.now.items in
    let part = c.args.part.now in
    let short : length old ≤ max_kept = search rules in
    let appended : c.extend_from_slice.new.self.items ≡ old ++ c.split_at.result.0.now = search rules in
    let cut : c.split_at.result.0.now ≡ take c.min.result part = search rules in
    let room : c.min.result ≡ min (max_kept - length old) (length part) = search rules in
    keeps_part c.args.is_lost.now old part c.extend_from_slice.new.self.items
    (appended ∙ ap (λ (t : List ℕ). old ++ t) (cut ∙ ap (λ (k : ℕ). take k part) room) ∙ kept_part max_kept old part short)
