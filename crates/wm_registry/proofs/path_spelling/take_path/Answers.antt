use Rattle.std.proofs.Common.{◌∙◌, ap, Err}
use Rattle.wm_registry.specs.PathSpelling.{no_path}
use Rattle.wm_registry.proofs.path_spelling.take_path.Goals as goal

pub returns-in-Err-BadPath : goal.returns-in-Err-BadPath
returns-in-Err-BadPath c =
    let found = rw c.in-Some.is at c.take_text.ensures in
    no_path c.in-Some.text.now c.args.bytes.now c.in-Some.size found (c.read.ensures.refused.0 (c.in-Err-BadPath.is ∙ ap Err c.in-Err-BadPath.field-0-is))
