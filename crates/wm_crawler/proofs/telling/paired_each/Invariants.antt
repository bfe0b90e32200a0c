use Rattle.std.proofs.Common.{◌≡◌, ◌++◌}
use Rattle.wm_crawler.specs.Levels.{paired_each}
use Rattle.wm_crawler.proofs.telling.paired_each.Given as goal

-- what was found, and behind it what is still to come
abbrev pub invariant-loop-path : goal.invariant-loop-path
invariant-loop-path l = l.found.items ++ paired_each l.path-iterator.a.rest.items l.path-iterator.b.rest.items ≡ paired_each l.fn.paths.items l.fn.metas.items
