use Rattle.std.proofs.Common.{◌∙◌, ap, ap₂}
use Rattle.clap.specs.Words.{App, with_subcommand}
use Rattle.wm_program.proofs.words.command.Goals as goal

pub returns : goal.returns
returns c = c.in_ok-command.ensures.shape c.in_ok-serve.ensures.local ∙ ap₂ with_subcommand c.in_ok-watchmand.ensures (ap (λ (a : App). a.top) c.in_ok-serve.ensures.app)
