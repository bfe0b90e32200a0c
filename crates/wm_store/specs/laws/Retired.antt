-- A retired file means no registry, in either version.
use Rattle.std.proofs.Common.{List, ℕ}
use Rattle.wm_checkpoint.specs.laws.Headers.{two_gates}
use Rattle.wm_registry.specs.Roots.{State}
use Rattle.wm_registry.specs.Versions.{sizes_of}
use Rattle.wm_store.specs.Meant.{IsRetiredFile, MeansRegistry}

pub not_retired : (s : State) (content : List ℕ) → MeansRegistry s content → IsRetiredFile content → ⊥
not_retired s content m retired = let header = m.means.header in header.1 (two_gates (sizes_of s.version) (sizes_of retired.0) _ header.0 165 header.2 retired.1.1)
