use Rattle.std.proofs.Common.{sym, option_map}
use Rattle.wm_expr.specs.Globs.{parts_of}
use Rattle.wm_expr.proofs.Cuts.{end_of_some, some_component}
use Rattle.wm_expr.proofs.pattern.at_deep.Goals as goal

pub returns-in-Some-default : goal.returns-in-Some-default
returns-in-Some-default c = rw c.in-Some-default.is-0 (sym (some_component c.in-Some-default.rest.now (parts_of (option_map (λ s. s.now) c.args.text))))

pub returns-in-None-Some : goal.returns-in-None-Some
returns-in-None-Some c = rw (c.in-None-Some.is-0, c.in-None-Some.is-1) (end_of_some c.in-None-Some.field-0-1.now)
