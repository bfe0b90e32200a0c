-- What contracts see of the programs and the folders whose failures are logged.
use Rattle.std.specs.Prelude.{◌≡◌, ◌++◌, ◌∷◌, Option, Some, IfSome, MatchOption}
use Rattle.wm_names.specs.Paths.{Path}
use Rattle.wm_names.specs.declared.subtree.Subtree.{Subtree}
use Rattle.wm_names.specs.declared.subtree.Subtree.TheVariants.{Whole, Below}
use Rattle.wm_workers.specs.declared.triggers.programs.LoggedStarter.{LoggedStarter}
use Rattle.wm_workers.specs.declared.crawls.folders.NotedFolders.{NotedFolders}

-- the starter whose programs' ends are logged
abbrev pub starter_behind : {S K : Type 0} → LoggedStarter S K → S
starter_behind logged = logged.starter.now

-- the folders that are read
abbrev pub folders_behind : {R F : Type 0} → NotedFolders R F → F
folders_behind noted = noted.folders.now

-- the whole path of a place below a root: the root's own, if it is the root
abbrev pub whole_path : Path → Subtree → Path
whole_path root Whole = root
whole_path root (Below path) = root ++ 47 ∷ path

-- the first place that can't be read is noted by its whole path, if there is memory for it
abbrev pub NotesFirst : {S : Type 0} → (bytes : S → Path) → Path → Subtree → Option S → Option S → Type 0
NotesFirst bytes root place before after = MatchOption before (IfSome after (λ path. bytes path ≡ whole_path root place)) (λ path. after ≡ Some path)
