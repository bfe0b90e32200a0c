use Rattle.std.proofs.Common.{◌∙◌, ap, ap₂}
use Rattle.wm_feed.specs.Records.{change_in, folder_alone, told_other}
use Rattle.wm_feed.specs.Records.{entry as told_entry}
use Rattle.wm_feed.proofs.Texts.{both, other_folder, other_name}
use Rattle.wm_feed.proofs.record.entry.Goals as goal

pub returns-in_default : goal.returns-in_default
returns-in_default c = c.other.ensures ∙ other_folder c.args.folder.now c.args.name.now (change_in c.args.change) c.in_default.ensures.cases.0

pub returns-in-Ok-from_utf8 : goal.returns-in-Ok-from_utf8
returns-in-Ok-from_utf8 c =
    ap₂ (λ folder name. told_entry folder name (change_in c.args.change)) c.in-Ok.ensures.cases.0 c.in-Ok-from_utf8.ensures.cases.0
    ∙ both c.args.folder.now c.args.name.now (change_in c.args.change) c.in-Ok.ensures.cases.1 c.in-Ok-from_utf8.ensures.cases.1

pub returns-in-Err : goal.returns-in-Err
returns-in-Err c =
    c.other-in-Err.ensures
    ∙ ap (λ folder. told_other (folder_alone folder) (change_in c.args.change)) c.in-Ok.ensures.cases.0
    ∙ other_name c.args.folder.now c.args.name.now (change_in c.args.change) c.in-Ok.ensures.cases.1 c.in-Err.ensures.cases.0
