-- The files of an answer as JSON. The keys of each object are in the order of their bytes, as the fields are.
use Rattle.std.specs.Prelude.{ℕ, List, [], ◌∷◌, map}
use Rattle.serde_json.specs.Data.{Data, boolean, number, unsigned, string, array, object, Members, member, no_members}
use Rattle.serde_json.specs.View.{items_of}
use Rattle.wm_names.specs.Entries.{letter_of}
use Rattle.wm_clock.specs.declared.clock_id.ClockId.{ClockId}
use Rattle.wm_clock.specs.Clocks.{clock_text}
use Rattle.wm_since.specs.declared.field.Field.{Field}
use Rattle.wm_since.specs.declared.field.Field.TheVariants.{Name, Exists, New, Size, «Type», MtimeMs, Cclock, Oclock}
use Rattle.wm_since.specs.declared.listed.Listed.{Listed}
use Rattle.wm_since.specs.declared.query.Answer.{Answer}
use Rattle.wm_since.specs.Fields.{field_name}

-- the text of a tick in the incarnation and the root of a clock
abbrev pub tick_text : ClockId → ℕ → List ℕ
tick_text c tick = clock_text (record c { tick = tick })

-- a field's value for a file of an answer with that clock
abbrev pub value_of : ClockId → Listed → Field → Data
value_of c f Name = string f.entry.path
value_of c f Exists = boolean f.entry.exists
value_of c f New = boolean f.is_new
value_of c f Size = number (unsigned f.entry.meta.size)
value_of c f «Type» = string (letter_of f.entry.meta.kind)
value_of c f MtimeMs = number (unsigned f.entry.meta.mtime_ms)
value_of c f Cclock = string (tick_text c f.created)
value_of c f Oclock = string (tick_text c f.last)

abbrev pub members_of : ClockId → Listed → List Field → Members
members_of c f [] = no_members
members_of c f (x ∷ fields) = member (field_name x) (value_of c f x) (members_of c f fields)

-- the bare value of a field that is alone, and else an object
abbrev pub file_data : List Field → ClockId → Listed → Data
file_data [] c f = object no_members
file_data (x ∷ []) c f = value_of c f x
file_data (x ∷ y ∷ fields) c f = object (members_of c f (x ∷ y ∷ fields))

abbrev pub files_data : List Field → Answer → Data
files_data fields a = array (items_of (map (file_data fields a.clock) a.files))
