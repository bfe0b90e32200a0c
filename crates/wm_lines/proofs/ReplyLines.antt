-- The line of a refusal and that of each other reply, by their first bytes.
use Rattle.std.proofs.Common.{refl}
use Rattle.serde_json.proofs.OnLiterals.{serde_json_on_literals}
use Rattle.wm_lines.specs.Replies.{line_text}
use Rattle.wm_lines.specs.ReplyLaws.{RefusalsStandOut}

pub refusals_stand_out : RefusalsStandOut
unfolding line_text serde_json_on_literals
refusals_stand_out = record {
  refusals = λ r. refl;
  version = refl;
  watch = λ path. refl;
  watch_del = λ path. refl;
  roots = λ roots. refl;
  trigger = λ disposition name. refl;
  trigger_del = λ is_deleted name. refl;
  triggers = λ triggers. refl;
  clock = λ clock. refl;
  floor = λ floor. refl;
  answer = λ clock files is_fresh. refl;
  subscribe = λ name clock. refl;
  unsubscribe = λ is_deleted name. refl;
  due = λ clock files is_fresh root name. refl;
}
