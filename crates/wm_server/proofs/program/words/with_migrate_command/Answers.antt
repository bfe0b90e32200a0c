use Rattle.std.proofs.Common.{◌∙◌, ap}
use Rattle.clap.specs.Words.{App, app_of, with_subcommand}
use Rattle.wm_server.proofs.program.words.with_migrate_command.Goals as goal

pub returns : goal.returns
returns c = c.in_ok-command.ensures.shape c.in_ok-inner.ensures.local ∙ ap (λ (a : App). with_subcommand (app_of c.args.command) a.top) c.in_ok-inner.ensures.app
