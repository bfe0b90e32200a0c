-- The order in which a batch is told.
use Rattle.std.specs.Prelude.{◌≡◌, Bool, true, false, not, ◌&&◌, ◌||◌, List, [], ◌∷◌, ◌++◌, length, map, nat_le, nat_lt, MatchBool}
use Rattle.std.specs.List.{filter, flat_map, list_all, list_any}
use Rattle.wm_names.specs.Entries.{covers}
use Rattle.wm_names.specs.Paths.{Path, is_under}
use Rattle.wm_names.specs.declared.subtree.Subtree.{Subtree}
use Rattle.wm_names.specs.declared.subtree.Subtree.TheVariants.{Below, Whole}
use Rattle.wm_feed.specs.declared.steps.Step.{Step}
use Rattle.wm_feed.specs.declared.steps.Step.TheVariants as steps
use Rattle.wm_feed.specs.Batches.{Gathered}
use Rattle.wm_feed.specs.Laws.{is_asked_path}

pub data AskedStep : Type 0 where
  crawl : Subtree → AskedStep
  observe : List Path → AskedStep

-- what a `Step` of the code says
abbrev pub step_in : Step → AskedStep
step_in (steps.Crawl part) = crawl part
step_in (steps.Observe paths) = observe paths.items

-- a path stands below one of these folders
abbrev pub is_below_any : Path → List Path → Bool
is_below_any p folders = list_any (λ folder. is_under folder p) folders

-- those of the paths that stand below none of these folders
abbrev pub outside : List Path → List Path → List Path
outside folders paths = filter (λ p. not (is_below_any p folders)) paths

-- the folders that stand below no other one of them
abbrev pub tops : List Path → List Path
tops folders = outside folders folders

-- the whole root is crawled: more than 1,024 crawls would be asked for, or all of it
abbrev pub is_wide : Gathered → Bool
is_wide a = a.is_whole || nat_lt 1024 (length (tops a.folders))

abbrev pub is_short : List Path → Bool
is_short paths = nat_lt 0 (length paths) && nat_le (length paths) 4096

-- the paths in lists of 1 to 4,096, one behind the other
abbrev pub InLists : List Path → List (List Path) → Type 0
InLists paths lists = (flat_map (λ list. list) lists ≡ paths) × (list_all is_short lists ≡ true)

-- each top folder is crawled, and then each path is observed that stands below none of the folders
abbrev pub AsksInOrder : Gathered → List AskedStep → Type 0
AsksInOrder a asked = MatchBool (is_wide a)
    (asked ≡ crawl Whole ∷ [])
    ((lists : List (List Path)) × (asked ≡ map (λ top. crawl (Below top)) (tops a.folders) ++ map (λ list. observe list) lists) × InLists (outside a.folders a.paths) lists)

-- ---- what is reached

-- a step tells of a path: it crawls a part that has it, or observes it
abbrev pub reaches : Path → AskedStep → Bool
reaches p (crawl part) = covers part p
reaches p (observe paths) = is_asked_path p paths

abbrev pub is_reached : Path → List AskedStep → Bool
is_reached p asked = list_any (λ step. reaches p step) asked

-- a step crawls a part that has the path
abbrev pub crawls : Path → AskedStep → Bool
crawls p (crawl part) = covers part p
crawls p (observe paths) = false

abbrev pub is_crawled : Path → List AskedStep → Bool
is_crawled p asked = list_any (λ step. crawls p step) asked
