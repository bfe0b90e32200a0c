use Rattle.std.proofs.Common.{ap, ◌∙◌}
use Rattle.serde_json.specs.Written.{has_float}
use Rattle.wm_lines.proofs.ReplyTexts.{roots_no_float}
use Rattle.wm_lines.proofs.reply.put_watch_list.Goals as goal

pub put_line-requires : goal.put_line-requires
put_line-requires c = ap has_float c.in_ok-watch_list.ensures ∙ roots_no_float c.args.roots.now.entries
