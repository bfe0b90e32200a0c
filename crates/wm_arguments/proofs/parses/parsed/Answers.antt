use Rattle.std.proofs.Common.{◌≡◌, ◌&&◌, Bool, true, false, refl}
use Rattle.clap.specs.Words.{app_of, is_simple}
use Rattle.wm_arguments.proofs.parses.parsed.Goals as goal

left_true : (a b : Bool) → (a && b) ≡ true → a ≡ true
left_true true b both = refl
left_true false b both = both

pub returns-in-Ok-clause-found : goal.returns-in-Ok-clause-found
returns-in-Ok-clause-found c simple =
    let found = c.in-Ok.ensures.matches (left_true (is_simple (app_of c.args.command)) _ simple) in
    (c.in-Ok.ensures.kinds simple, found.0, found.1)
