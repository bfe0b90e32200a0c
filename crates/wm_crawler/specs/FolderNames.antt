-- What a folder holds by the names that it is read as, and the order of what is listed.
use Rattle.std.specs.Prelude.{ℕ, ◌+◌, ◌-◌, ◌^◌, ◌==◌, min, Bool, true, false, cond, List, [], ◌∷◌, ◌++◌, filter}
use Rattle.std.specs.List.{slice_split}
use Rattle.std.specs.Ordering.{is_gt}
use Rattle.std.specs.Str.{is_utf8}
use Rattle.wm_names.specs.Paths.{Path, is_dots, path_cmp}
use Rattle.wm_crawler.specs.Trees.{Held}

-- a name has a byte at least
abbrev pub has_bytes : List ℕ → Bool
has_bytes [] = false
has_bytes (b ∷ name) = true

-- the names in bytes, each of which is ended by a zero byte
abbrev pub ended_names : List ℕ → List (List ℕ)
ended_names bytes = filter has_bytes (slice_split (λ b. b == 0) bytes)

-- with one more name; the folder itself and the one above it aren't held, and a name that isn't text is counted
abbrev pub with_held_name : List ℕ → Held → Held
with_held_name name held = cond (is_dots name) held
    (cond (is_utf8 name) (record { names = held.names ++ name ∷ []; others = held.others })
    (record { names = held.names; others = min (held.others + 1) (2 ^ 64 - 1) }))

-- with these names, one after another
abbrev pub with_held_names : List (List ℕ) → Held → Held
with_held_names [] held = held
with_held_names (name ∷ names) held = with_held_names names (with_held_name name held)

abbrev pub empty_folder : Held
empty_folder = record { names = []; others = 0 }

-- the path among paths in the order of their bytes, and such paths in that order
abbrev pub placed : Path → List Path → List Path
placed new [] = new ∷ []
placed new (p ∷ ps) = cond (is_gt (path_cmp new p)) (p ∷ placed new ps) (new ∷ p ∷ ps)

abbrev pub ordered : List Path → List Path
ordered [] = []
ordered (p ∷ ps) = placed p (ordered ps)

-- what a folder of these names is listed as
abbrev pub folder_of : List (List ℕ) → Held
folder_of names = let held = with_held_names names empty_folder in record { names = ordered held.names; others = held.others }
