use Rattle.std.proofs.Common.{Option, subst, sym}
use Rattle.std.proofs.lemmas.Result.{IfOk-weaker}
use Rattle.wm_names.specs.Paths.{Path}
use Rattle.wm_commands.specs.Folders.{IsNameIn}
use Rattle.wm_commands.proofs.Named.{name_is}
use Rattle.wm_commands.proofs.folders.name_in.Goals as goal

pub returns-clause-path : goal.returns-clause-path
returns-clause-path c = IfOk-weaker c.name_behind.result _ _ (λ r is. subst (λ (o : Option Path). IsNameIn c.args.folder.now c.args.path.now o) (sym is) (name_is c.args.folder.now c.args.path.now)) c.name_behind.ensures
