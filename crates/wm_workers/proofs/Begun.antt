-- Once each root has begun, all roots of the registry have.
use Rattle.std.proofs.Common.{◌≡◌, ℕ, List, [], ◌++◌, append-nil, subst, sym}
use Rattle.wm_names.specs.Paths.{Path}
use Rattle.wm_registry.specs.declared.root.Root.{Root}
use Rattle.wm_workers.specs.BegunRoots.{AreRootsBegun}
use Rattle.wm_workers.specs.WatchedRoots.{RootId}
use Rattle.wm_workers.specs.declared.roots.table.RootRow.{RootRow}

pub all_begun : {H : Type 0} → (id : H → RootId) (incarnation : ℕ) (entries rest : List (Path × Root)) (all : List (RootRow H)) → rest ≡ []
    → ((more : List (RootRow H)) → AreRootsBegun id incarnation rest more → AreRootsBegun id incarnation entries (all ++ more)) → AreRootsBegun id incarnation entries all
all_begun id incarnation entries rest all is begun =
    subst (AreRootsBegun id incarnation entries) (append-nil all) (begun [] (subst (λ left. AreRootsBegun id incarnation left []) (sym is) tt))
