use Rattle.std.proofs.Common.{◌≡◌, take, true}
use Rattle.std.specs.List.{list_all}
use Rattle.wm_names.specs.Paths.{is_rel_path}
use Rattle.wm_lines.specs.PairLines.{by_text}
use Rattle.wm_lines.proofs.pairs.read_paths.Given as goal

abbrev pub invariant-loop-pair : goal.invariant-loop-pair
invariant-loop-pair l = record {
  all_good : list_all (λ p. is_rel_path p.0) (by_text (take l.pair-index l.pairs)) ≡ true;
  so_far : l.read.items ≡ by_text (take l.pair-index l.pairs);
}
