-- The line that tells what stands at paths, as JSON.
use Rattle.std.specs.Prelude.{List, map, Option, Some, None, codes}
use Rattle.serde_json.specs.Data.{Data, array, item, no_items, null, number, object, member, no_members, string, unsigned}
use Rattle.serde_json.specs.View.{items_of}
use Rattle.wm_names.specs.Entries.{letter_of}
use Rattle.wm_names.specs.Paths.{Path}
use Rattle.wm_names.specs.declared.entry.Meta.{Meta}

-- the keys are in the order of their bytes
abbrev pub meta_data : Meta → Data
meta_data m =
    object (member (codes "mtime_ms") (number (unsigned m.mtime_ms))
    (member (codes "size") (number (unsigned m.size))
    (member (codes "type") (string (letter_of m.kind)) no_members)))

-- `null` where nothing is there
abbrev pub state_data : Option Meta → Data
state_data None = null
state_data (Some m) = meta_data m

abbrev pub pair_data : Path × Option Meta → Data
pair_data p = array (item (string p.0) (item (state_data p.1) no_items))

abbrev pub pairs_data : List (Path × Option Meta) → Data
pairs_data pairs = array (items_of (map pair_data pairs))

abbrev pub observe_data : Path → List (Path × Option Meta) → Data
observe_data root pairs = array (item (string (codes "observe")) (item (string root) (item (pairs_data pairs) no_items)))
