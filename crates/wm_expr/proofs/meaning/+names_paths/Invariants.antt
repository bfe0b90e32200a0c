use Rattle.std.proofs.Common.{◌≡◌, drop}
use Rattle.wm_expr.specs.Meanings.{are_path_only}
use Rattle.wm_expr.specs.Views.{terms}
use Rattle.wm_expr.proofs.meaning.+names_paths.Given as goal

abbrev pub invariant-all_name_paths-loop-part : goal.invariant-all_name_paths-loop-part
invariant-all_name_paths-loop-part l = are_path_only (terms (drop l.part-index l.parts)) ≡ are_path_only (terms l.parts)
