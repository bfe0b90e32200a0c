-- The commands that lines ask for.
use Rattle.std.specs.Prelude.{◌≡◌, ℕ, List, [], ◌∷◌, ◌++◌, Option, Some, None, Result, Ok}
use Rattle.wm_disk.specs.declared.refusal.Refusal.{Refusal}
use Rattle.wm_registry.specs.declared.command.Command.{Command}
use Rattle.wm_registry.specs.declared.command.Command.TheVariants as command
use Rattle.wm_lines.specs.declared.request.Request.{Request}
use Rattle.wm_lines.specs.declared.request.Request.TheVariants.{Watch, WatchDel, Trigger, TriggerDel}
use Rattle.wm_session.specs.session.Inputs.{lines_of}
use Rattle.wm_lines.specs.Lines.{request_of_line}

-- the command that a request submits, if it is one
abbrev pub asked_by : Result Request Refusal → List Command
asked_by (Ok (Watch path)) = command.Watch path ∷ []
asked_by (Ok (WatchDel path)) = command.WatchDel path ∷ []
asked_by (Ok (Trigger path trigger)) = command.Trigger path trigger ∷ []
asked_by (Ok (TriggerDel path name)) = command.TriggerDel path name ∷ []
asked_by _ = []

abbrev pub asked_in : List (List ℕ) → List Command
asked_in [] = []
asked_in (line ∷ lines) = asked_by (request_of_line line) ++ asked_in lines

-- these are asked for by a prefix of the lines; of a reader that doesn't tell what it holds nothing is known
abbrev pub AreAskedOf : Option (List ℕ) → List Command → Type 0
AreAskedOf None asked = Unit {0}
AreAskedOf (Some input) asked = (prefix : List (List ℕ)) × (more : List (List ℕ)) × (lines_of input ≡ prefix ++ more) × (asked ≡ asked_in prefix)
