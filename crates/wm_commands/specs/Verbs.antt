-- The commands of `wm`, by their names.
use Rattle.std.specs.Prelude.{ℕ, List, [], ◌∷◌, Option, Some, None, codes, cond}
use Rattle.std.specs.Str.{bytes_eq}
use Rattle.wm_commands.specs.declared.arguments.verb.Verb.{Verb}
use Rattle.wm_commands.specs.declared.arguments.verb.Verb.TheVariants.{Up, Down, Watch, Unwatch, List as ListRoots, Status, Files, Changes, Wait, Run, Sync}

-- what the first row with this name has
abbrev pub in_rows : {X : Type 0} → List (List ℕ × X) → List ℕ → Option X
in_rows [] name = None
in_rows (row ∷ rows) name = cond (bytes_eq name row.0) (Some row.1) (in_rows rows name)

abbrev pub verb_named : List ℕ → Option Verb
verb_named = in_rows (
    (codes "up", Up) ∷ (codes "down", Down) ∷ (codes "watch", Watch) ∷ (codes "unwatch", Unwatch)
    ∷ (codes "list", ListRoots) ∷ (codes "status", Status) ∷ (codes "files", Files) ∷ (codes "changes", Changes)
    ∷ (codes "wait", Wait) ∷ (codes "run", Run) ∷ (codes "sync", Sync) ∷ [])

-- how a PATTERN stands behind DIR; none, if the command takes none
abbrev pub pattern_example : Verb → Option (List ℕ)
pattern_example Files = Some (codes "wm files . PATTERN")
pattern_example Changes = Some (codes "wm changes . PATTERN --since CLOCK")
pattern_example Wait = Some (codes "wm wait . PATTERN")
pattern_example Run = Some (codes "wm run . PATTERN -- COMMAND")
pattern_example other = None
