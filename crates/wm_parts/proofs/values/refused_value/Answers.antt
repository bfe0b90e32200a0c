use Rattle.std.proofs.Common.{◌≡◌, false, subst, sym}
use Rattle.std.specs.Prelude.{IfSome}
use Rattle.serde_json.specs.View.{view}
use Rattle.wm_parts.specs.RefusedValues.{takes_kinds}
use Rattle.wm_parts.specs.declared.keys.Asking.{Asking}
use Rattle.wm_parts.proofs.ValueKinds.{not_taken}
use Rattle.wm_parts.proofs.values.refused_value.Goals as goal

pub returns-in-Trigger-clause-refused : goal.returns-in-Trigger-clause-refused
returns-in-Trigger-clause-refused c =
    subst (λ (a : Asking). IfSome c.refused_of_trigger.result (λ _. takes_kinds a (view c.args.object.now) ≡ false)) (sym c.in-Trigger.is)
    (not_taken (λ v. (v.0, view v.1.now)) c.refused_of_trigger.result (view c.args.object.now) c.refused_of_trigger.ensures)
