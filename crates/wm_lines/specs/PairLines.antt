-- Lines that list paths with what was seen there.
use Rattle.std.specs.Prelude.{ℕ, List, ◌&&◌, Option, Some, None, option_map, option_and_then, is_none, is_some, map, Result, Ok, Err, if◌then◌else◌}
use Rattle.std.specs.Borrow.{Bor}
use Rattle.std.specs.List.{list_all}
use Rattle.serde_json.specs.Data.{Data}
use Rattle.serde_json.specs.Find.{at, as_null, as_array}
use Rattle.wm_disk.specs.declared.refusal.Refusal.{Refusal}
use Rattle.wm_disk.specs.declared.refusal.Refusal.TheVariants.{BadArguments, BadPath}
use Rattle.wm_names.specs.Paths.{Path, is_root_path, is_rel_path}
use Rattle.wm_names.specs.declared.entry.Meta.{Meta}
use Rattle.wm_lines.specs.declared.request.Request.{Request}
use Rattle.wm_lines.specs.declared.request.Request.TheVariants.{Observe}
use Rattle.wm_lines.specs.Arguments.{text_at}
use Rattle.wm_expr.specs.Readings.{each}
use Rattle.wm_lines.specs.Metadata.{meta_of}

-- a path, and its metadata where it is there
abbrev pub Pair : Type 0
Pair = Path × Option Meta

-- `null`, or metadata
abbrev pub pair_state : Data → Option (Option Meta)
pair_state d = if is_some (as_null d) then Some None else option_map (λ meta. Some meta) (meta_of d)

abbrev pub pair_from : Option Path → Option (Option Meta) → Option Pair
pair_from (Some path) (Some state) = Some (path, state)
pair_from _ _ = None

-- two items: a text, and `null` or metadata
abbrev pub pair_of : Data → Option Pair
pair_of d = if is_none (at 2 d) then pair_from (text_at 0 d) (option_and_then pair_state (at 1 d)) else None

abbrev pub pairs_of : Data → Option (List Pair)
pairs_of d = option_and_then (each pair_of) (as_array d)

abbrev pub observe_with : Option (List ℕ) → Option (List Pair) → Result Request Refusal
observe_with (Some root) (Some pairs) = if is_root_path root && list_all (λ p. is_rel_path p.0) pairs then Ok (Observe root pairs) else Err BadPath
observe_with _ _ = Err BadArguments

-- `observe` with a root path and pairs
abbrev pub observe_request : Data → Result Request Refusal
observe_request d = if is_none (at 3 d) then observe_with (text_at 1 d) (option_and_then pairs_of (at 2 d)) else Err BadArguments

-- ---- for private clauses

-- the pairs, by the texts that their references point to
abbrev pub by_text : {A : Type 0} → List (Bor (List ℕ) × A) → List (Path × A)
by_text pairs = map (λ p. (p.0.now, p.1)) pairs
