use Rattle.std.proofs.Common.{◌≡◌, true, sym, ap, subst, ◌∙◌}
use Rattle.std.specs.Fmt.{decimal}
use Rattle.std.specs.Result.{result_ok}
use Rattle.std.specs.Option.{IfSome}
use Rattle.std.specs.Str.{IsUtf8}
use Rattle.std.proofs.lemmas.Fmt.{IsAscii-decimal, parse-decimal}
use Rattle.std.proofs.lemmas.Str.{IsUtf8-from_ascii}
use Rattle.wm_feed.specs.Numbers.{is_plain}
use Rattle.wm_feed.proofs.Numerals.{plain_decimal, read_ok}
use Rattle.wm_feed.proofs.numbered.number_of.Goals as goal

pub returns-then-not-is_plain-clause-found : goal.returns-then-not-is_plain-clause-found
returns-then-not-is_plain-clause-found c = λ n h e. let plain : is_plain c.args.digits.now ≡ true = ap is_plain e ∙ plain_decimal n h in cc

pub returns-in-Ok-clause-is : goal.returns-in-Ok-clause-is
returns-in-Ok-clause-is c =
    let plain : is_plain c.args.digits.now ≡ true = cc in
    let text : is_plain c.in-Ok.text.now ≡ true = ap is_plain c.in-Ok.ensures.cases.0 ∙ plain in
    subst
    (λ t. IfSome c.ok.result (λ n. t ≡ decimal n))
    c.in-Ok.ensures.cases.0
    (rw c.ok.ensures.value (read_ok c.in-Ok.text.now c.parse.result text c.parse.ensures.value.0))

pub returns-in-Ok-clause-found : goal.returns-in-Ok-clause-found
returns-in-Ok-clause-found c = λ n h e.
    c.ok.ensures.value ∙ ap result_ok (parse-decimal 64 n c.in-Ok.text.now c.parse.result h h (c.in-Ok.ensures.cases.0 ∙ e) c.parse.ensures.value.0)

pub returns-in-Err-clause-found : goal.returns-in-Err-clause-found
returns-in-Err-clause-found c = λ n h e. absurd (c.in-Err.ensures.cases.0 (subst IsUtf8 (sym e) (IsUtf8-from_ascii (decimal n) (IsAscii-decimal n h))))
