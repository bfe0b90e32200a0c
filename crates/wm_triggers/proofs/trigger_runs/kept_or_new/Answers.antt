use Rattle.std.proofs.Common.{◌≡◌, Some, find, option_map, unwrap_or, sym, ap, ◌∙◌}
use Rattle.wm_triggers.specs.KeptRuns.{are_of, new_runs}
use Rattle.wm_triggers.proofs.trigger_runs.kept_or_new.Goals as goal

pub returns-in_ok-copy-in-Some-clause-ok : goal.returns-in_ok-copy-in-Some-clause-ok
returns-in_ok-copy-in-Some-clause-ok c =
    let found : find (are_of c.args.defined.now) c.args.kept.now ≡ Some c.in-Some.runs.now = sym c.kept_of.ensures ∙ ap (option_map (λ r. r.now)) c.in-Some.is in
    c.in_ok-copy-in-Some.ensures ∙ sym (ap (λ o. unwrap_or o (new_runs c.args.defined.now)) found)
