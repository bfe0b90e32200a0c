use Rattle.std.proofs.Common.{◌∙◌, ap₂}
use Rattle.clap.specs.Words.{with_rule}
use Rattle.wm_client.proofs.feed_words.command.Goals as goal

pub returns : goal.returns
returns c =
    let one = c.in_ok-arg.ensures.shape c.needed.ensures.local ∙ ap₂ with_rule c.in_ok-program.ensures c.needed.ensures.rule in
    let two = c.in_ok-arg-2.ensures.shape c.optional.ensures.local ∙ ap₂ with_rule one c.optional.ensures.rule in
    c.in_ok-command.ensures.shape c.flag.ensures.local ∙ ap₂ with_rule two c.flag.ensures.rule
