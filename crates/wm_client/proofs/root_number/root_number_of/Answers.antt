use Rattle.std.proofs.Common.{rules}
use Rattle.serde_json.specs.View.{view}
use Rattle.wm_client.proofs.root_number.root_number_of.Goals as goal

pub returns-in-Ok-Clock : goal.returns-in-Ok-Clock
returns-in-Ok-Clock c = (view c.in-Ok.value, c.in-Some.text.now, c.in-Ok-Clock.clock, search rules, search rules, search rules, search rules)
