use Rattle.std.proofs.Common.{◌∙◌, ap, codes}
use Rattle.clap.specs.Words.{App, with_subcommand}
use Rattle.wm_server.specs.program.Words.{file_app, migrate_app}
use Rattle.wm_server.proofs.program.words.watchmand.Goals as goal

pub returns : goal.returns
returns c = c.in_ok-command.ensures ∙ ap (λ (a : App). with_subcommand a migrate_app.top)
    (c.in_ok-answering.ensures ∙ ap (λ (a : App). with_subcommand a (file_app (codes "lines")).top)
    (c.in_ok-formatting.ensures ∙ ap (λ (a : App). with_subcommand a (file_app (codes "format")).top) c.in_ok-bare.ensures))
