-- Lines that tell what a reading of part of a root found.
use Rattle.std.specs.Prelude.{ℕ, List, [], ◌∷◌, Bool, false, ◌&&◌, ◌||◌, ◌==◌, length, map, Option, Some, None, option_map, option_and_then, is_none, Result, Ok, Err, if◌then◌else◌}
use Rattle.std.specs.List.{fold, list_all}
use Rattle.std.specs.FinMap.{put}
use Rattle.serde_json.specs.Data.{Data, Items}
use Rattle.serde_json.specs.Find.{at, as_array}
use Rattle.wm_disk.specs.declared.refusal.Refusal.{Refusal}
use Rattle.wm_disk.specs.declared.refusal.Refusal.TheVariants.{BadArguments, BadPath}
use Rattle.wm_names.specs.Paths.{Path, is_root_path, is_rel_path, path_cmp}
use Rattle.wm_names.specs.Entries.{covers}
use Rattle.wm_names.specs.declared.entry.Meta.{Meta}
use Rattle.wm_names.specs.declared.subtree.Subtree.{Subtree}
use Rattle.wm_names.specs.declared.subtree.Subtree.TheVariants.{Whole, Below}
use Rattle.wm_view.specs.Files.{Files, is_in}
use Rattle.wm_lines.specs.declared.request.Request.{Request}
use Rattle.wm_lines.specs.declared.request.Request.TheVariants.{Listing}
use Rattle.wm_lines.specs.Arguments.{text_at, count_of}
use Rattle.wm_expr.specs.Readings.{each}
use Rattle.wm_lines.specs.PairLines.{pair_of}

-- a pair without `null`
abbrev pub file_of : Data → Option (Path × Meta)
file_of d = option_and_then (λ p. option_map (λ meta. (p.0, meta)) p.1) (pair_of d)

-- a path is listed twice
abbrev pub has_twice : List Path → Bool
has_twice [] = false
has_twice (p ∷ ps) = is_in p ps || has_twice ps

abbrev pub map_of : List (Path × Meta) → Files
map_of pairs = fold (λ files p. put path_cmp p.0 p.1 files) [] pairs

abbrev pub once : List (Path × Meta) → Option Files
once pairs = if has_twice (map (λ p. p.0) pairs) then None else Some (map_of pairs)

-- pairs without `null`, each path once
abbrev pub files_in : Items → Option Files
files_in items = option_and_then once (each file_of items)

abbrev pub files_of : Data → Option Files
files_of d = option_and_then files_in (as_array d)

-- the whole root, or what is below a path
abbrev pub subtree_of : List ℕ → Option Subtree
subtree_of text =
    if length text == 0 then Some Whole
    else (if is_rel_path text then Some (Below text)
    else None)

abbrev pub are_below : Subtree → Files → Bool
are_below subtree files = list_all (λ p. is_rel_path p.0 && covers subtree p.0) files

abbrev pub found : List ℕ → ℕ → Option Subtree → Files → Result Request Refusal
found root begun_at None files = Err BadPath
found root begun_at (Some subtree) files =
    if is_root_path root && are_below subtree files
    then Ok (Listing root begun_at (record { subtree = subtree; files = files }))
    else Err BadPath

abbrev pub listing_with : Option (List ℕ) → Option ℕ → Option (List ℕ) → Option Files → Result Request Refusal
listing_with (Some root) (Some begun_at) (Some top) (Some files) = found root begun_at (subtree_of top) files
listing_with _ _ _ _ = Err BadArguments

-- `listing` with a root path, the tick at which the reading began, a subtree and pairs
abbrev pub listing_request : Data → Result Request Refusal
listing_request d =
    if is_none (at 5 d)
    then listing_with (text_at 1 d) (option_and_then count_of (at 2 d)) (text_at 3 d) (option_and_then files_of (at 4 d))
    else Err BadArguments
