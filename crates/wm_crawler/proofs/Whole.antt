-- What reading the top, and then each level below it, gave: the crawl.
use Rattle.std.proofs.Common.{◌≡◌, ℕ, Bool, true, false, cond, ◌&&◌, List, [], ◌∷◌, None, is_some, refl, sym, ap, ◌∙◌, append-nil, true≢false}
use Rattle.std.specs.List.{flat_map}
use Rattle.std.specs.List.Sorted.{IsPermutation}
use Rattle.wm_names.specs.Paths.{Path}
use Rattle.wm_names.specs.Entries.{covers}
use Rattle.wm_names.specs.declared.entry.Meta.{Meta}
use Rattle.wm_names.specs.declared.subtree.Subtree.{Subtree}
use Rattle.wm_view.specs.Files.{Files, at}
use Rattle.wm_crawler.specs.Trees.{Content}
use Rattle.wm_crawler.specs.Crawls.{ListsBelow, AreReadable, faults_below}
use Rattle.wm_crawler.specs.Levels.{counted, first_at, levels, paths_in, readable_levels, unfit_of, AreRead, AreLevels}
use Rattle.wm_crawler.proofs.Readable.{readable}
use Rattle.wm_crawler.proofs.Results.{is_crawl}
use Rattle.wm_crawler.proofs.Steps.{counted_twice}
use Rattle.wm_crawler.proofs.Unfit.{all_unfit}

top_paths : (c : Content) (top : Subtree) (ps : List Path) → ps ≡ flat_map (paths_in c) (top ∷ []) → ps ≡ paths_in c top
top_paths c top ps e = e ∙ append-nil (paths_in c top)

pub all_found : (c : Content) (top : Subtree) (ps : List Path) (above : ℕ) (raw sorted : List (Path × Meta)) (unfit : ℕ) (files : Files)
    → AreRead c (top ∷ []) ps above → AreLevels c 1024 ps above raw unfit → IsPermutation raw sorted → ((p : Path) → at files p ≡ cond (covers top p) (first_at p sorted) None) → ListsBelow c top files
all_found c top ps above raw sorted unfit files r l perm listed = is_crawl c top raw sorted files (l.found ∙ ap (levels c 1024) (top_paths c top ps r.found)) perm listed

pub all_counted : (c : Content) (top : Subtree) (ps : List Path) (above : ℕ) (raw : List (Path × Meta)) (unfit : ℕ) → AreRead c (top ∷ []) ps above → AreLevels c 1024 ps above raw unfit → unfit ≡ faults_below c top
all_counted c top ps above raw unfit r l =
    all_unfit c top above unfit ps r.left_out r.found (l.left_out (ap counted r.left_out ∙ counted_twice (unfit_of c (top ∷ [])) ∙ sym r.left_out))

first_of : (b : Bool) → (b && true) ≡ true → b ≡ true
first_of true e = refl
first_of false e = absurd (true≢false (sym e))

pub all_readable : (c : Content) (top : Subtree) (ps : List Path) (above : ℕ) (raw : List (Path × Meta)) (unfit : ℕ) → AreRead c (top ∷ []) ps above → AreLevels c 1024 ps above raw unfit → AreReadable c top
all_readable c top ps above raw unfit r l = readable c top (first_of (is_some (c.held top)) r.held) (ap (readable_levels c 1024) (sym (top_paths c top ps r.found)) ∙ l.read)
