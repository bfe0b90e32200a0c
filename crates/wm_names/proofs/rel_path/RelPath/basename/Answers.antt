use Rattle.std.proofs.Common.{sym, ap, ◌∙◌}
use Rattle.wm_names.specs.Paths.{basename}
use Rattle.wm_names.proofs.Basenames.{after, whole}
use Rattle.wm_names.proofs.rel_path.RelPath.basename.Goals as goal

pub returns-in-Some : goal.returns-in-Some
returns-in-Some c = sym (after c.as_str-path.result.now _ c.in-Some.name.now c.in-Some.ensures.cases) ∙ ap basename c.as_str-path.ensures.value

pub returns-in-None : goal.returns-in-None
returns-in-None c = sym (whole c.as_str-path.result.now c.in-None.ensures.cases) ∙ ap basename c.as_str-path.ensures.value
