use Rattle.std.proofs.Common.{◌≡◌, map, take}
use Rattle.std.specs.Prelude.{string_bytes}
use Rattle.wm_commands.specs.CommandAnswers.{names_shown}
use Rattle.wm_commands.proofs.showing.names_shown.Given as goal

abbrev pub invariant-loop-name : goal.invariant-loop-name
invariant-loop-name l = string_bytes l.text ≡ names_shown l.ending l.root l.dir (map string_bytes (take l.name-index l.names))
