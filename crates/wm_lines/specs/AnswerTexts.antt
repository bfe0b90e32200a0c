-- Words of private clauses: the parts of a question's reply, and of a subscription's line.
use Rattle.std.specs.Prelude.{ℕ, Bool, true, false, List, ◌++◌, codes}
use Rattle.serde_json.specs.Data.{string}
use Rattle.serde_json.specs.Written.{compact_text}
use Rattle.wm_clock.specs.Clocks.{clock_text}
use Rattle.wm_clock.specs.declared.clock_id.ClockId.{ClockId}
use Rattle.wm_since.specs.Rendered.{files_data}
use Rattle.wm_since.specs.declared.field.Field.{Field}
use Rattle.wm_since.specs.declared.query.Answer.{Answer}
use Rattle.wm_subs.specs.declared.subscribed.Subscribed.{Subscribed}

-- up to the files
abbrev pub answer_head : ClockId → List ℕ
answer_head clock = (codes "{\"clock\":\"" ++ clock_text clock) ++ codes "\",\"files\":"

-- after the files, with the newline
abbrev pub answer_tail : Bool → List ℕ
answer_tail true = codes ",\"is_fresh_instance\":true,\"version\":\"w1\"}\n"
answer_tail false = codes ",\"is_fresh_instance\":false,\"version\":\"w1\"}\n"

abbrev pub answer_text : List Field → Answer → List ℕ
answer_text fields a = (answer_head a.clock ++ compact_text (files_data fields a)) ++ answer_tail a.fresh

-- ---- a subscription's line

-- after the files, up to the root
abbrev pub due_middle : Bool → List ℕ
due_middle true = codes ",\"is_fresh_instance\":true,\"root\":"
due_middle false = codes ",\"is_fresh_instance\":false,\"root\":"

-- after the files
abbrev pub due_tail : Bool → List ℕ → List ℕ → List ℕ
due_tail is_fresh root name =
    (((due_middle is_fresh ++ compact_text (string root)) ++ codes ",\"subscription\":") ++ compact_text (string name)) ++ codes ",\"unilateral\":true,\"version\":\"w1\"}\n"

abbrev pub due_text : {T : Type 0} → Subscribed T → Answer → List ℕ
due_text s a = (answer_head a.clock ++ compact_text (files_data s.fields a)) ++ due_tail a.fresh s.root s.subscription.name
