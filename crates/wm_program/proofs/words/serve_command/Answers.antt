use Rattle.std.proofs.Common.{◌∙◌, ap₂}
use Rattle.clap.specs.Words.{with_rule}
use Rattle.wm_program.proofs.words.serve_command.Goals as goal

pub returns-clause-app : goal.returns-clause-app
returns-clause-app c =
    let one = c.in_ok-arg.ensures.shape c.needed.ensures.local ∙ ap₂ with_rule c.bare_serve.ensures.app c.needed.ensures.rule in
    let two = c.in_ok-arg-2.ensures.shape c.needed-2.ensures.local ∙ ap₂ with_rule one c.needed-2.ensures.rule in
    let three = c.in_ok-arg-3.ensures.shape c.option.ensures.local ∙ ap₂ with_rule two c.option.ensures.rule in
    let four = c.in_ok-arg-4.ensures.shape c.option-2.ensures.local ∙ ap₂ with_rule three c.option-2.ensures.rule in
    let five = c.in_ok-arg-5.ensures.shape c.option-3.ensures.local ∙ ap₂ with_rule four c.option-3.ensures.rule in
    let six = c.in_ok-arg-6.ensures.shape c.option-4.ensures.local ∙ ap₂ with_rule five c.option-4.ensures.rule in
    c.in_ok-command.ensures.shape c.flag.ensures.local ∙ ap₂ with_rule six c.flag.ensures.rule
