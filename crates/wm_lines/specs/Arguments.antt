-- The arguments of a line, by their places.
use Rattle.std.specs.Prelude.{ℕ, List, Option, Some, None, option_and_then, is_none, Result, Ok, Err, if◌then◌else◌, nat_le}
use Rattle.serde_json.specs.Data.{Data}
use Rattle.serde_json.specs.Find.{at, as_str, as_number, as_u64}
use Rattle.wm_disk.specs.declared.refusal.Refusal.{Refusal}
use Rattle.wm_disk.specs.declared.refusal.Refusal.TheVariants.{BadArguments, BadPath}
use Rattle.wm_disk.specs.Counters.{max_counter}
use Rattle.wm_names.specs.Paths.{is_root_path}

abbrev pub text_at : ℕ → Data → Option (List ℕ)
text_at i d = option_and_then as_str (at i d)

-- a whole number from 0 to the limit of all counters
abbrev pub within_limit : ℕ → Option ℕ
within_limit n = if nat_le n max_counter then Some n else None

abbrev pub count_of : Data → Option ℕ
count_of d = option_and_then within_limit (option_and_then as_u64 (as_number d))

abbrev pub root_named : Option (List ℕ) → Result (List ℕ) Refusal
root_named None = Err BadArguments
root_named (Some path) = if is_root_path path then Ok path else Err BadPath

-- the only argument: a root path
abbrev pub only_root : Data → Result (List ℕ) Refusal
only_root d = if is_none (at 2 d) then root_named (text_at 1 d) else Err BadArguments
