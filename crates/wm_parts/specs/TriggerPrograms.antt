-- Which program a trigger's request names, where it is looked for, and what is said if it isn't there.
use Rattle.std.specs.Prelude.{◌==◌, ◌&&◌, ◌++◌, not, ℕ, Bool, List, Option, None, codes, option_and_then, option_map, if◌then◌else◌}
use Rattle.std.specs.List.{list_any, starts_with}
use Rattle.serde_json.specs.Data.{Data}
use Rattle.serde_json.specs.Find.{get}
use Rattle.wm_explain.specs.Shown.{shown_text}
use Rattle.wm_lines.specs.Arguments.{text_at}
use Rattle.wm_parts.specs.PartLines.{named_line}
use Rattle.wm_parts.specs.RefusedParts.{object_of}
use Rattle.wm_parts.specs.declared.keys.Asking.{Asking}
use Rattle.wm_parts.specs.declared.keys.Asking.TheVariants.{Query, Trigger}
use Rattle.wm_parts.specs.declared.programs.ProgramFound.{ProgramFound}
use Rattle.wm_parts.specs.declared.programs.ProgramFound.TheVariants.{OffPath, Missing, Unmarked}

-- the first word of a trigger's command
abbrev pub program_of : Asking → Data → Option (List ℕ)
program_of Query d = None
program_of Trigger d = option_and_then (text_at 0) (get (codes "command") d)

abbrev pub named_program : Data → Option (List ℕ)
named_program d = option_and_then (λ o. program_of o.0 o.1) (object_of d)

-- a path has a slash (47)
abbrev pub is_by_path : List ℕ → Bool
is_by_path program = list_any (λ b. b == 47) program

abbrev pub is_whole_path : List ℕ → Bool
is_whole_path program = starts_with (λ x y. x == y) program (codes "/")

-- a path that doesn't begin with a slash begins in the root
abbrev pub begins_in_root : List ℕ → Bool
begins_in_root program = is_by_path program && not (is_whole_path program)

-- a name, which is looked for on the PATH, or a path from the system's root
abbrev pub sought_program : (root program : List ℕ) → List ℕ
sought_program root program = if begins_in_root program then (root ++ codes "/" ++ program) else program

abbrev pub program_sought : Data → Option (List ℕ)
program_sought d = option_and_then (λ root. option_map (sought_program root) (named_program d)) (text_at 1 d)

abbrev pub program_said : ProgramFound → List ℕ
program_said OffPath = codes "is no program on this PATH: the server looks on its own PATH, and its log says if a run couldn't be started"
program_said Missing = codes "isn't there: no run of the trigger can be started until it is"
program_said Unmarked = codes "is no file that is marked as a program (chmod +x): no run of the trigger can be started until it is"

abbrev pub program_line : (program : List ℕ) → ProgramFound → List ℕ
program_line program found = named_line (shown_text program) (program_said found)
