use Rattle.std.proofs.Common.{◌≡◌, ◌+◌, ◌++◌, length, map}
use Rattle.std.specs.Option.{option_map}
use Rattle.std.specs.String.{string_bytes}
use Rattle.wm_names.specs.Paths.{Path}
use Rattle.wm_crawler.specs.Trees.{Among}
use Rattle.wm_crawler.specs.Stats.{meta_of_stat}
use Rattle.wm_crawler.proofs.folder_tree.metas_below.Given as goal

abbrev pub invariant-loop-rest : goal.invariant-loop-rest
invariant-loop-rest g l = record {
  each : length l.metas.items + length l.rest ≡ length l.paths;
  texts : length l.texts.items ≡ 64;
  read : g.F.FileSystem.stays l.files →
      l.metas.items ++ map (λ p. option_map meta_of_stat (g.F.FileSystem.stat_at l.files (string_bytes l.prefix ++ p))) l.rest
      ≡ map (λ p. option_map meta_of_stat (g.F.FileSystem.stat_at l.files (string_bytes l.prefix ++ p))) l.paths;
  among : (p : Path) → Among p l.rest → Among p l.paths;
}

abbrev pub decreases-loop-rest : goal.decreases-loop-rest
decreases-loop-rest g l = length l.rest
