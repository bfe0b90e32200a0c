use Rattle.std.proofs.Common.{ap, ◌∙◌}
use Rattle.serde_json.specs.Written.{has_float}
use Rattle.wm_lines.proofs.ReplyTexts.{triggers_no_float}
use Rattle.wm_lines.proofs.reply.put_triggers.Goals as goal

pub put_line-requires : goal.put_line-requires
put_line-requires c = ap has_float c.in_ok-trigger_list.ensures ∙ triggers_no_float c.args.triggers.now
