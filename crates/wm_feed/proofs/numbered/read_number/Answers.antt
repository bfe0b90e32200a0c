use Rattle.std.proofs.Common.{◌≡◌, ℕ, List, Some, ◌∷◌, ◌++◌, sym, ap, ap₂, ◌∙◌}
use Rattle.std.specs.Option.{unwrap_or}
use Rattle.std.specs.Fmt.{decimal}
use Rattle.wm_feed.proofs.Numerals.{some_none}
use Rattle.wm_feed.proofs.Written.{cut_joins, cut_numbered, first_part, second_part}
use Rattle.wm_feed.proofs.numbered.read_number.Goals as goal

pub returns-in_err-digits-clause-found : goal.returns-in_err-digits-clause-found
returns-in_err-digits-clause-found c = λ n rest h e.
    let cut = rw c.in_err-digits.was at (c.cut.ensures ∙ cut_numbered c.args.bytes.now n rest h e) in
    absurd (some_none (decimal n, rest) cut)

pub returns-in_err-number-clause-found : goal.returns-in_err-number-clause-found
returns-in_err-number-clause-found c = λ n rest h e.
    let cut = rw c.in_ok-digits.was at (c.cut.ensures ∙ cut_numbered c.args.bytes.now n rest h e) in
    absurd (some_none n (sym c.in_err-number.was ∙ c.number_of.ensures.found n h (ap first_part cut)))

pub returns-clause-is : goal.returns-clause-is
returns-clause-is c =
    let cut = rw c.in_ok-digits.was at c.cut.ensures in
    cut_joins c.args.bytes.now c.in_ok-digits.digits.now c.in_ok-digits.rest.now (sym cut) ∙ ap (λ ds. ds ++ 0 ∷ c.in_ok-digits.rest.now) c.in_ok-number.ensures.is

pub returns-clause-found : goal.returns-clause-found
returns-clause-found c = λ n rest h e.
    let cut = rw c.in_ok-digits.was at (c.cut.ensures ∙ cut_numbered c.args.bytes.now n rest h e) in
    let same : Some c.in_ok-number.number ≡ Some n = sym c.in_ok-number.was ∙ c.number_of.ensures.found n h (ap first_part cut) in
    ap₂ (λ (x : ℕ) (y : List ℕ). Some (x, y)) (ap (λ o. unwrap_or o 0) same) (ap second_part cut)
