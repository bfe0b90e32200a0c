use Rattle.std.proofs.Common.{◌≡◌, false, take}
use Rattle.std.specs.List.{list_any}
use Rattle.wm_client.specs.RefusalLines.{is_refused_by}
use Rattle.wm_client.proofs.refused.first_of.Given as goal

abbrev pub invariant-loop-refusal : goal.invariant-loop-refusal
invariant-loop-refusal l = list_any (λ r. is_refused_by r l.line) (take l.refusal-index l.refusals) ≡ false
