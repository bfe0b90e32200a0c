use Rattle.std.proofs.Common.{◌≡◌, ◌++◌, length, map, take}
use Rattle.std.specs.String.{string_bytes}
use Rattle.wm_crawler.proofs.folder_tree.write_paths.Given as goal

abbrev pub invariant-loop-i : goal.invariant-loop-i
invariant-loop-i l = record {
  same : length l.texts ≡ length l.initial.texts;
  written : map string_bytes (take l.i l.texts) ≡ map (λ p. l.prefix ++ p) (take l.i l.paths);
}
