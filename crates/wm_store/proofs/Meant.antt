-- What a file of one version means is what one of the registry's version means.
use Rattle.std.proofs.Common.{◌≡◌, ◌≤◌, ◌∙◌, ℕ, List, [], take, refl, sym, ap, subst, arith}
use Rattle.wm_checkpoint.specs.Layout.{Sizes, header_len}
use Rattle.wm_checkpoint.specs.declared.layout.Slot.{Slot}
use Rattle.wm_checkpoint.specs.Machines.{replayed}
use Rattle.wm_checkpoint.specs.Meanings.{IsHeader, Means, MeansState, MeansPrefix}
use Rattle.wm_checkpoint.specs.laws.Headers.{one_version}
use Rattle.wm_registry.specs.declared.command.Command.{Command}
use Rattle.wm_journal.specs.Areas.{area}
use Rattle.wm_registry.specs.declared.version.Version.{Version}
use Rattle.wm_registry.specs.declared.version.Version.TheVariants.{One, Two}
use Rattle.wm_registry.specs.MachineLaws.{watches, watches_in}
use Rattle.wm_registry.specs.Registry.{after_command}
use Rattle.wm_registry.specs.Roots.{State}
use Rattle.wm_registry.specs.Versions.{max_state_bytes, sizes_of}
use Rattle.wm_registry.specs.VersionLaws.{same_version_after}
use Rattle.wm_store.specs.Meant.{MeansRegistry, MeansAfter}

-- the registry has the file's version
pub version_of : (l : Sizes) (v : Version) (s : State) (c : List ℕ) → MeansState (watches_in l v) s c → s.version ≡ v
version_of l v s c m = ap (λ (t : State). t.version) (sym m.is) ∙ same_version_after m.base m.commands ∙ m.means.chosen.fit.version

module _ (l : Sizes) (v : Version) (laid : l ≡ sizes_of v) where
  -- what a file of such sizes means in its version means it in the registry's
  pub of_registry : (u : Version) → u ≡ v → (c : List ℕ) (slot : Slot) (number : ℕ) (base : State) (commands : List Command) → Means (watches_in l v) c slot number base commands → Means (watches u) c slot number base commands
  of_registry u is c slot number base commands m =
      subst (λ (w : Version). Means (watches w) c slot number base commands) (sym is) (subst (λ (k : Sizes). Means (watches_in k v) c slot number base commands) laid m)

  -- under the same number
  pub means_numbered : (s : State) (c : List ℕ) (m : MeansState (watches_in l v) s c) → (r : MeansRegistry s c) × (r.number ≡ m.number)
  means_numbered s c m = (
    record {
      slot = m.slot;
      number = m.number;
      base = m.base;
      commands = m.commands;
      means = of_registry s.version (version_of l v s c m) c m.slot m.number m.base m.commands m.means;
      is = m.is;
    },
    refl,
  )

  pub means_registry : (s : State) (c : List ℕ) → MeansState (watches_in l v) s c → MeansRegistry s c
  means_registry s c m = (means_numbered s c m).0

  pub means_after : (s : State) (commands : List Command) (c : List ℕ) → MeansPrefix (watches_in l v) s commands c → MeansAfter s commands c
  means_after s commands c m = record {
    count = m.count;
    within = m.within;
    means = means_registry (replayed after_command s (take m.count commands)) c m.means;
  }

  -- of a slot's own state
  pub means_own : (c : List ℕ) (slot : Slot) (number : ℕ) (s : State) → Means (watches_in l v) c slot number s [] → Means (watches s.version) c slot number s []
  means_own c slot number s m = of_registry s.version m.chosen.fit.version c slot number s [] m

-- a content is of one version
versions : (u v : Version) (b : List ℕ) → IsHeader (sizes_of u) b → IsHeader (sizes_of v) b → u ≡ v
versions One One b h k = refl
versions Two Two b h k = refl
versions One Two b h k = absurd (one_version b h.0 k.0 h.2 k.2)
versions Two One b h k = absurd (one_version b k.0 h.0 k.2 h.2)

pub same_version : (s t : State) (c : List ℕ) → MeansRegistry s c → MeansRegistry t c → s.version ≡ t.version
same_version s t c m n = versions s.version t.version (area 0 header_len c) m.means.header n.means.header

pub after_none : (s : State) (commands : List Command) (c : List ℕ) → MeansRegistry s c → MeansAfter s commands c
after_none s commands c m = record { count = 0; within = omega arith; means = m }

-- a state fits the slot of its file
pub roomy : (v : Version) (sizes : Sizes) → sizes ≡ sizes_of v → max_state_bytes v ≤ sizes.max_state_bytes
roomy v sizes is = omega (arith, ap (λ (l : Sizes). l.max_state_bytes) is)

-- ---- one content means one registry

-- what holds of one version's meanings
abbrev IsOne : Version → Type 0
IsOne v = (content : List ℕ) (s t : State) → MeansState (watches v) s content → MeansState (watches v) t content → s ≡ t

each_one : IsOne One → IsOne Two → (v : Version) → IsOne v
each_one first second One = first
each_one first second Two = second

pub one_file : IsOne One → IsOne Two → (content : List ℕ) (s t : State) → MeansRegistry s content → MeansRegistry t content → s ≡ t
one_file first second content s t m k =
    each_one first second s.version content s t m (subst (λ (w : Version). MeansState (watches w) t content) (sym (same_version s t content m k)) k)
