-- The line of an observation has no float in it, and nests little.
use Rattle.std.proofs.Common.{◌≡◌, ◌≤◌, List, [], ◌∷◌, map, Option, Some, None, refl, arith, false, lit≤}
use Rattle.serde_json.specs.Data.{depth, items_depth}
use Rattle.serde_json.specs.View.{items_of}
use Rattle.serde_json.specs.Written.{has_float, items_have_float}
use Rattle.wm_names.specs.Paths.{Path}
use Rattle.wm_names.specs.declared.entry.Meta.{Meta}
use Rattle.wm_feed.specs.Observes.{observe_data, pair_data, state_data}

state_no_float : (state : Option Meta) → has_float (state_data state) ≡ false
state_no_float None = refl
state_no_float (Some m) = refl

each_no_float : (pairs : List (Path × Option Meta)) → items_have_float (items_of (map pair_data pairs)) ≡ false
each_no_float [] = refl
each_no_float (p ∷ pairs) = rw (state_no_float p.1, each_no_float pairs) refl

pub observe_no_float : (root : Path) (pairs : List (Path × Option Meta)) → has_float (observe_data root pairs) ≡ false
observe_no_float root pairs = rw (each_no_float pairs) refl

state_depth : (state : Option Meta) → depth (state_data state) ≤ 1
state_depth None = lit≤ tt
state_depth (Some m) = lit≤ tt

pair_depth : (p : Path × Option Meta) → depth (pair_data p) ≤ 2
pair_depth p = let h : depth (state_data p.1) ≤ 1 = state_depth p.1 in omega arith

each_depth : (pairs : List (Path × Option Meta)) → items_depth (items_of (map pair_data pairs)) ≤ 2
each_depth [] = lit≤ tt
each_depth (p ∷ pairs) =
    let one : depth (pair_data p) ≤ 2 = pair_depth p in
    let rest : items_depth (items_of (map pair_data pairs)) ≤ 2 = each_depth pairs in
    omega arith

pub observe_depth : (root : Path) (pairs : List (Path × Option Meta)) → depth (observe_data root pairs) ≤ 127
observe_depth root pairs = let h : items_depth (items_of (map pair_data pairs)) ≤ 2 = each_depth pairs in omega arith
