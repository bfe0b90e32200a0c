use Rattle.std.proofs.Common.{◌∙◌, ap}
use Rattle.std.specs.Prelude.{option_map}
use Rattle.serde_json.specs.Data.{Data}
use Rattle.serde_json.specs.View.{view}
use Rattle.serde_json.specs.Written.{compact_text, has_float}
use Rattle.wm_commands.specs.Questions.{subscribe_data}
use Rattle.wm_commands.proofs.Floats.{subscribe_no_float}
use Rattle.wm_commands.proofs.questions.subscribe_line.Goals as goal

pub returns : goal.returns
returns c none =
    let whole = c.in_ok-line.ensures ∙ ap (λ (d : Data). subscribe_data c.args.root.now d) c.in_ok-members.ensures in
    c.in_ok-text.ensures.text (ap has_float whole ∙ subscribe_no_float c.args.root.now (option_map (λ s. s.now) c.args.since) c.args.is_json (view c.args.expression) none) ∙ ap compact_text whole
