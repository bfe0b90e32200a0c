use Rattle.std.proofs.Common.{◌≡◌, ◌++◌, drop}
use Rattle.wm_triggers.specs.Starting.{path_lines, file_paths}
use Rattle.wm_triggers.proofs.starting.path_lines.Given as goal

abbrev pub invariant-loop-file : goal.invariant-loop-file
invariant-loop-file l = l.lines.items ++ path_lines (file_paths (drop l.file-index l.files)) ≡ path_lines (file_paths l.files)
