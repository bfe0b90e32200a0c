-- Lines that let a root's view forget.
use Rattle.std.specs.Prelude.{ℕ, List, Option, Some, option_and_then, is_none, Result, Ok, Err, if◌then◌else◌}
use Rattle.serde_json.specs.Data.{Data}
use Rattle.serde_json.specs.Find.{at}
use Rattle.wm_disk.specs.declared.refusal.Refusal.{Refusal}
use Rattle.wm_disk.specs.declared.refusal.Refusal.TheVariants.{BadArguments, BadPath}
use Rattle.wm_names.specs.Paths.{is_root_path}
use Rattle.wm_lines.specs.declared.request.Request.{Request}
use Rattle.wm_lines.specs.declared.request.Request.TheVariants.{AgeOut}
use Rattle.wm_lines.specs.Arguments.{text_at, count_of}

abbrev pub age_out_with : Option (List ℕ) → Option ℕ → Result Request Refusal
age_out_with (Some root) (Some age) = if is_root_path root then Ok (AgeOut root age) else Err BadPath
age_out_with _ _ = Err BadArguments

-- `age-out` with a root path and an age
abbrev pub age_out_request : Data → Result Request Refusal
age_out_request d = if is_none (at 3 d) then age_out_with (text_at 1 d) (option_and_then count_of (at 2 d)) else Err BadArguments
