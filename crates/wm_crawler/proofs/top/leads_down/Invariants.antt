use Rattle.std.proofs.Common.{◌≡◌, drop, map}
use Rattle.wm_names.specs.declared.subtree.Subtree.{Subtree}
use Rattle.wm_names.specs.declared.subtree.Subtree.TheVariants.{Whole}
use Rattle.wm_crawler.specs.Trees.{Among}
use Rattle.wm_crawler.specs.Crawls.{leads_down, places_down}
use Rattle.wm_crawler.proofs.top.leads_down.Given as goal

-- what is left of the names leads on from the folder, as all of them lead from the root
abbrev pub invariant-loop-name : goal.invariant-loop-name
invariant-loop-name g l = record {
  read : g.T.Tree.stays l.tree → leads_down (g.T.Tree.content l.tree) Whole (map (λ n. n.now) l.names) ≡ leads_down (g.T.Tree.content l.tree) l.folder (map (λ n. n.now) (drop l.name-index l.names));
  on : (p : Subtree) → Among p (places_down l.folder (map (λ n. n.now) (drop l.name-index l.names))) → Among p (places_down Whole (map (λ n. n.now) l.names));
}
