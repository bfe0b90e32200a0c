use Rattle.std.proofs.Common.{◌∙◌, ap₂}
use Rattle.clap.specs.Words.{with_rule}
use Rattle.wm_client.proofs.words.command.Goals as goal

pub returns : goal.returns
returns c =
    let one = c.in_ok-arg.ensures.shape c.needed.ensures.local ∙ ap₂ with_rule c.in_ok-program.ensures c.needed.ensures.rule in
    let two = c.in_ok-arg-2.ensures.shape c.needed-2.ensures.local ∙ ap₂ with_rule one c.needed-2.ensures.rule in
    let three = c.in_ok-arg-3.ensures.shape c.option.ensures.local ∙ ap₂ with_rule two c.option.ensures.rule in
    let four = c.in_ok-arg-4.ensures.shape c.option-2.ensures.local ∙ ap₂ with_rule three c.option-2.ensures.rule in
    c.in_ok-command.ensures.shape c.option-3.ensures.local ∙ ap₂ with_rule four c.option-3.ensures.rule
