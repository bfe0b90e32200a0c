use Rattle.std.proofs.Common.{◌≡◌, ◌≤◌, ◌∙◌, Option, inl, subst}
use Rattle.std.proofs.lemmas.Result.{IfOk-weaker}
use Rattle.std.specs.Prelude.{◌*ℤ◌, MatchOption, pos}
use Rattle.jiff_core.specs.declared.timestamp.Timestamp.{Timestamp}
use Rattle.wm_log.specs.LogLines.{time_end}
use Rattle.wm_log.proofs.time.time_text.Goals as goal

pub returns-in-Some : goal.returns-in-Some
returns-in-Some c =
    let found = subst (λ (r : Option Timestamp). MatchOption r (time_end ≤ c.args.seconds) (λ instant. instant.nanosecond ≡ pos c.args.seconds *ℤ pos 1000000000)) c.in-Some.is c.instant_of.ensures in
    IfOk-weaker c.clock_text.result _ _ (λ text e. inl (c.clock_at.result, c.clock_at.ensures ∙ found, e)) c.clock_text.ensures
