use Rattle.std.proofs.Common.{subst, ◌∙◌}
use Rattle.std.specs.Str.{IsUtf8}
use Rattle.wm_feed.proofs.Texts.{line_no_text, line_of_text}
use Rattle.wm_feed.proofs.words.Line.text.Goals as goal

pub returns-in_ok-from_str-in-Ok : goal.returns-in_ok-from_str-in-Ok
returns-in_ok-from_str-in-Ok c =
    let same = c.deref.ensures.value ∙ c.self.view_is in
    c.in_ok-from_str-in-Ok.ensures.ok ∙ c.in-Ok.ensures.cases.0 ∙ same ∙ line_of_text c.args.self.now (subst IsUtf8 same c.in-Ok.ensures.cases.1)

pub returns-in_ok-from_str-in-Err : goal.returns-in_ok-from_str-in-Err
returns-in_ok-from_str-in-Err c =
    let same = c.deref.ensures.value ∙ c.self.view_is in
    c.in_ok-from_str-in-Err.ensures.ok ∙ line_no_text c.args.self.now (subst (λ bs. ¬ IsUtf8 bs) same c.in-Err.ensures.cases.0)
