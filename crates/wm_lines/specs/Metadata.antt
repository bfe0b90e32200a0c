-- Metadata as an object of a line.
use Rattle.std.specs.Prelude.{ℕ, Option, Some, None, option_and_then, codes, if◌then◌else◌}
use Rattle.serde_json.specs.Data.{Data}
use Rattle.serde_json.specs.Find.{get, as_str}
use Rattle.wm_names.specs.Entries.{kind_of}
use Rattle.wm_names.specs.declared.entry.Kind.{Kind}
use Rattle.wm_names.specs.declared.entry.Meta.{Meta}
use Rattle.wm_lines.specs.Arguments.{count_of}
use Rattle.wm_lines.specs.Keys.{has_keys}

-- the kind whose letter stands at the key `type`
abbrev pub kind_in : Data → Option Kind
kind_in d = option_and_then kind_of (option_and_then as_str (get (codes "type") d))

abbrev pub meta_from : Option Kind → Option ℕ → Option ℕ → Option Meta
meta_from (Some kind) (Some size) (Some mtime_ms) = Some (record { kind = kind; size = size; mtime_ms = mtime_ms })
meta_from _ _ _ = None

-- the keys `type`, `size` and `mtime_ms`, and no other
abbrev pub meta_of : Data → Option Meta
meta_of d =
    if has_keys 3 d
    then meta_from (kind_in d) (option_and_then count_of (get (codes "size") d)) (option_and_then count_of (get (codes "mtime_ms") d))
    else None
