-- Which roots are to be fed from now on, and which no longer.
use Rattle.std.specs.Prelude.{List}
use Rattle.wm_names.specs.Paths.{Path}
use Rattle.wm_feed.specs.Once.{each_once, without_texts}

-- the roots of the first list that the second lacks, each once
abbrev pub only_in : List Path → List Path → List Path
only_in roots others = each_once (without_texts others roots)
