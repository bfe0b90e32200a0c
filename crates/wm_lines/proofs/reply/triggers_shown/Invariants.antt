use Rattle.std.proofs.Common.{◌≡◌, map, take}
use Rattle.serde_json.specs.View.{view}
use Rattle.wm_lines.specs.Replies.{trigger_data}
use Rattle.wm_lines.proofs.reply.triggers_shown.Given as goal

abbrev pub invariant-loop-trigger : goal.invariant-loop-trigger
invariant-loop-trigger l = map view l.list.items ≡ map trigger_data (take l.trigger-index l.triggers)
