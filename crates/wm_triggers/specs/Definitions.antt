-- The triggers of a root with the numbers of the commands that defined them: each name once, in the order of first definition.
use Rattle.std.specs.Prelude.{ℕ, Bool, true, not, ◌&&◌, ◌==◌, List, [], ◌∷◌, if◌then◌else◌}
use Rattle.std.specs.List.{list_any}
use Rattle.wm_registry.specs.Triggers.{is_named}
use Rattle.wm_triggers.specs.declared.defined_trigger.DefinedTrigger.{DefinedTrigger}

-- it has the name
abbrev pub has_name : List ℕ → DefinedTrigger → Bool
has_name name d = is_named name d.trigger

-- it is the definition of the name by the command of this number; its text doesn't matter
abbrev pub is_definition : List ℕ → ℕ → DefinedTrigger → Bool
is_definition name number d = has_name name d && (d.number == number)

-- one of the name is there
abbrev pub is_defined : List ℕ → List DefinedTrigger → Bool
is_defined name ds = list_any (has_name name) ds

-- this very definition is there
abbrev pub stands : List ℕ → ℕ → List DefinedTrigger → Bool
stands name number ds = list_any (is_definition name number) ds

-- with this one: in the place of that of its name, or else last
abbrev pub with_definition : DefinedTrigger → List DefinedTrigger → List DefinedTrigger
with_definition new [] = new ∷ []
with_definition new (d ∷ ds) = if has_name new.trigger.name d then new ∷ ds else d ∷ with_definition new ds

-- without that of the name
abbrev pub without_definition : List ℕ → List DefinedTrigger → List DefinedTrigger
without_definition name [] = []
without_definition name (d ∷ ds) = if has_name name d then ds else d ∷ without_definition name ds

-- no name stands there twice
abbrev pub names_are_apart : List DefinedTrigger → Bool
names_are_apart [] = true
names_are_apart (d ∷ ds) = not (is_defined d.trigger.name ds) && names_are_apart ds
