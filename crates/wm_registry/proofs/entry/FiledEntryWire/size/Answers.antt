use Rattle.std.proofs.Common.{sym, subst}
use Rattle.wm_registry.specs.Placing.{ArePlaced}
use Rattle.wm_registry.specs.Spelling.{IsRoot}
use Rattle.wm_registry.specs.declared.version.Version.{Version}
use Rattle.wm_registry.proofs.entry.FiledEntryWire.size.Goals as goal

pub root_size-requires : goal.root_size-requires
root_size-requires g c = subst (λ (v : Version). ArePlaced v c.self.inside.root.triggers) (sym c.kept_version.ensures) c.self.invariant.3

pub returns-clause-fits : goal.returns-clause-fits
returns-clause-fits g c =
    let whole : IsRoot c.kept_version.result (c.self.inside.path, c.self.inside.root) = record {
      path = c.root_size.ensures.fits;
      some = c.self.invariant.0;
      number = c.self.invariant.1;
      triggers = c.root_size.ensures.triggers;
      apart = c.self.invariant.2;
    } in
    subst (IsRoot g.V.Filed.version) c.self.view_is (subst (λ (v : Version). IsRoot v (c.self.inside.path, c.self.inside.root)) c.kept_version.ensures whole)
