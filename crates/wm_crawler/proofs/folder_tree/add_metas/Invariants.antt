use Rattle.std.proofs.Common.{◌≡◌, ◌+◌, ◌++◌, length, map, take}
use Rattle.std.specs.Option.{option_map}
use Rattle.std.specs.String.{string_bytes}
use Rattle.wm_crawler.specs.Stats.{meta_of_stat}
use Rattle.wm_crawler.proofs.folder_tree.add_metas.Given as goal

abbrev pub invariant-loop-text : goal.invariant-loop-text
invariant-loop-text g l = record {
  each : length l.metas.items ≡ length l.initial.metas.items + l.text-index;
  read : g.F.FileSystem.stays l.files → l.metas.items ≡ l.initial.metas.items ++ map (λ path. option_map meta_of_stat (g.F.FileSystem.stat_at l.files path)) (map string_bytes (take l.text-index l.texts));
}
