use Rattle.std.proofs.Common.{◌≡◌, ◌++◌, map}
use Rattle.serde_json.specs.Data.{string}
use Rattle.serde_json.specs.View.{view}
use Rattle.wm_lines.specs.Replies.{paths_of}
use Rattle.wm_lines.proofs.reply.paths.Given as goal

abbrev pub invariant-loop-path : goal.invariant-loop-path
invariant-loop-path l = paths_of l.roots.entries ≡ map view l.list.items ++ map (λ path. string path) l.path-iterator
