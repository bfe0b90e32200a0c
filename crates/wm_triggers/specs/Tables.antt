-- The triggers of a root, and which of them is being started.
use Rattle.std.specs.Prelude.{◌≡◌, ℕ, Bool, true, false, not, ◌&&◌, List, [], Option, Some, None, is_none, if◌then◌else◌}
use Rattle.std.specs.List.{fold, list_any}
use Rattle.wm_triggers.specs.Definitions.{names_are_apart, has_name, is_definition, stands, with_definition, without_definition}
use Rattle.wm_triggers.specs.declared.defined_trigger.DefinedTrigger.{DefinedTrigger}

pub record Table : Type 0 where
  pub defined : List DefinedTrigger
  -- the definition whose program is being started right now
  pub starting : Option DefinedTrigger
  -- the root isn't watched any longer
  pub has_ended : Bool

abbrev pub empty_table : Table
empty_table = record { defined = []; starting = None; has_ended = false }

-- the definition stands, and the root is watched
abbrev pub may_start : DefinedTrigger → Table → Bool
may_start d t = not t.has_ended && stands d.trigger.name d.number t.defined

-- and no start is under way
abbrev pub may_begin : DefinedTrigger → Table → Bool
may_begin d t = is_none t.starting && may_start d t

abbrev pub is_starting_in : DefinedTrigger → Option DefinedTrigger → Bool
is_starting_in d None = false
is_starting_in d (Some one) = is_definition d.trigger.name d.number one

-- a start of this definition is under way
abbrev pub is_starting : DefinedTrigger → Table → Bool
is_starting d t = is_starting_in d t.starting

abbrev pub may_reply_of : Option DefinedTrigger → Table → Bool
may_reply_of None t = true
may_reply_of (Some one) t = may_start one t

-- no start is under way of a definition that may not be started any more
abbrev pub may_reply : Table → Bool
may_reply t = may_reply_of t.starting t

-- ---- what happens to a table

abbrev pub table_with : DefinedTrigger → Table → Table
table_with d t = record t { defined = with_definition d t.defined }

abbrev pub table_without : List ℕ → Table → Table
table_without name t = record t { defined = without_definition name t.defined }

abbrev pub table_starting : DefinedTrigger → Table → Table
table_starting d t = record t { starting = Some d }

-- a start is under way where it may begin
abbrev pub table_begun : DefinedTrigger → Table → Table
table_begun d t = if may_begin d t then table_starting d t else t

-- no start is under way any more
abbrev pub table_idle : Table → Table
table_idle t = record t { starting = None }

abbrev pub table_ended : Table → Table
table_ended t = record t { has_ended = true }

pub data TableStep : Type 0 where
  defines : DefinedTrigger → TableStep
  removes : List ℕ → TableStep
  begins : DefinedTrigger → TableStep
  ends : TableStep
  ends_root : TableStep

abbrev pub after_step : Table → TableStep → Table
after_step t (defines d) = table_with d t
after_step t (removes name) = table_without name t
after_step t (begins d) = table_begun d t
after_step t ends = table_idle t
after_step t ends_root = table_ended t

abbrev pub after_steps : Table → List TableStep → Table
after_steps t steps = fold after_step t steps

-- the step defines what has the name and the number of this definition
abbrev pub defines_again : DefinedTrigger → TableStep → Bool
defines_again d (defines new) = is_definition d.trigger.name d.number new
defines_again d (removes name) = false
defines_again d (begins one) = false
defines_again d ends = false
defines_again d ends_root = false

-- ---- laws

-- A definition that may not be started, and of which no start is under way, is never started again, whatever happens; unless its name is
-- defined again under its number, which no later command does.
abbrev pub NeverStartedAgain : Type 0
NeverStartedAgain = (d : DefinedTrigger) (t : Table) (steps : List TableStep)
    → may_start d t ≡ false → may_reply t ≡ true → list_any (defines_again d) steps ≡ false
    → (may_begin d (after_steps t steps) ≡ false) × (is_starting d (after_steps t steps) ≡ false)

-- once a name is taken out, no definition of it may be started
abbrev pub RemovedIsGone : Type 0
RemovedIsGone = (d : DefinedTrigger) (t : Table) → names_are_apart t.defined ≡ true → may_start d (table_without d.trigger.name t) ≡ false

-- once a name is defined by another command, no earlier definition of it may be started
abbrev pub ReplacedIsGone : Type 0
ReplacedIsGone = (d new : DefinedTrigger) (t : Table)
    → names_are_apart t.defined ≡ true → has_name new.trigger.name d ≡ true → is_definition d.trigger.name d.number new ≡ false
    → may_start d (table_with new t) ≡ false

-- once the root isn't watched any longer, nothing may be started
abbrev pub EndedIsGone : Type 0
EndedIsGone = (d : DefinedTrigger) (t : Table) → may_start d (table_ended t) ≡ false

-- what was just defined may be started while the root is watched
abbrev pub DefinedMayStart : Type 0
DefinedMayStart = (d : DefinedTrigger) (t : Table) → may_start d (table_with d t) ≡ not t.has_ended

-- no change of a name touches the definitions of another
abbrev pub OthersStand : Type 0
OthersStand = (d new : DefinedTrigger) (name : List ℕ) (t : Table)
    → (has_name new.trigger.name d ≡ false → may_start d (table_with new t) ≡ may_start d t)
    × (has_name name d ≡ false → may_start d (table_without name t) ≡ may_start d t)
