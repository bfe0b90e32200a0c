-- The disk beside the one in use: what of it stays where the world's row or the disk itself goes on.
use Rattle.std.proofs.Common.{◌≡◌, ⊎_elim, inl, inr, false, List, ℕ, refl, sym, ap, subst, ◌∙◌}
use Rattle.wm_disk.specs.Contents.{NoMore}
use Rattle.wm_disk.specs.declared.disk.Disk as disks
use Rattle.wm_checkpoint.specs.Layout.{sizes_1}
use Rattle.wm_checkpoint.specs.Meanings.{IsRetired}
use Rattle.wm_checkpoint.specs.Numbers.{IsNumberedTo}
use Rattle.wm_registry.specs.Versions.{sizes_of}
use Rattle.wm_registry.specs.declared.version.Version.{Version}
use Rattle.wm_store.specs.Meant.{MeansAfter}
use Rattle.wm_store.specs.Migrations.{HoldsMoved}
use Rattle.wm_world.specs.declared.other.Other.{Other}
use Rattle.wm_world.specs.declared.other.Other.TheVariants.{Nothing, New, Old}
use Rattle.wm_world.specs.Worlds.{Between, World, in_version, registry, replay}
use Rattle.wm_world.specs.Steps.{reopened}
use Rattle.wm_world.specs.Refinement.{IsBeside, IsRetiredBeside, KeepsPrefix}
use Rattle.wm_world.specs.Passes.{OnOther}

-- the same commands are kept and in flight in the same file, the slot's number has the same bound, and the server is no more up
pub record SameKept (w v : World) : Type 0 where
  pub kept : v.kept ≡ w.kept
  pub pending : v.pending ≡ w.pending
  pub slot : v.slot ≡ w.slot
  pub version : v.version ≡ w.version
  pub stage : v.stage ≡ w.stage
  pub down : w.up ≡ false → v.up ≡ false

pub same_registry : (w v : World) → SameKept w v → registry v ≡ registry w
same_registry w v s = λ i. in_version (s.version i) (replay (s.kept i))

pub on_other_weaker : {D : Type 0} (R S : D → D → Type 0) → ((d e : D) → R d e → S d e) → (other later : Other D) → OnOther R other later → OnOther S other later
on_other_weaker R S f Nothing Nothing h = tt
on_other_weaker R S f Nothing (New e) h = h
on_other_weaker R S f Nothing (Old e) h = h
on_other_weaker R S f (New d) Nothing h = h
on_other_weaker R S f (New d) (New e) h = f d e h
on_other_weaker R S f (New d) (Old e) h = h
on_other_weaker R S f (Old d) Nothing h = h
on_other_weaker R S f (Old d) (New e) h = h
on_other_weaker R S f (Old d) (Old e) h = f d e h

module _ {D : Type 0} (disk : disks.Ghosts D) where
  -- a crash leaves nothing of the other disk that it might not have left before
  abbrev pub LeavesNoMore : Other D → Other D → Type 0
  LeavesNoMore other later = OnOther (λ d e. NoMore (disk.may_leave d) (disk.may_leave e)) other later

  abbrev pub FailsNoMore : Other D → Other D → Type 0
  FailsNoMore other later = OnOther (λ d e. disk.failures e ≡ disk.failures d) other later

  pub moved_same : (other : Other D) (w v : World) (c : List ℕ) → SameKept w v → IsRetiredBeside disk other w c → IsRetiredBeside disk other v c
  moved_same Nothing w v c s m = m
  moved_same (Old d) w v c s m = m
  moved_same (New d) w v c s m = record {
    stage = s.stage ∙ m.stage;
    down = s.down m.down;
    none = s.pending ∙ m.none;
    retired = m.retired;
    holds = subst (λ r. HoldsMoved disk d r) (sym (same_registry w v s)) m.holds;
  }

  pub moved_later : (other later : Other D) (w : World) (c : List ℕ) → LeavesNoMore other later → IsRetiredBeside disk other w c → IsRetiredBeside disk later w c
  moved_later Nothing later w c less m = absurd m
  moved_later (Old d) later w c less m = absurd m
  moved_later (New d) Nothing w c less m = absurd less
  moved_later (New d) (Old e) w c less m = absurd less
  moved_later (New d) (New e) w c less m = record { stage = m.stage; down = m.down; none = m.none; retired = m.retired; holds = λ x left. m.holds x (less x left) }

  pub prefix_same : (other : Other D) (w v : World) (c : List ℕ) → SameKept w v → KeepsPrefix disk other w c → KeepsPrefix disk other v c
  prefix_same other w v c s k = record {
    means = ⊎_elim (λ m. inl (subst (λ r. MeansAfter r v.pending c) (sym (same_registry w v s)) (subst (λ p. MeansAfter (registry w) p c) (sym s.pending) m))) (λ m. inr (moved_same other w v c s m)) k.means;
    numbered = subst (λ (u : Version). IsNumberedTo (sizes_of u) v.slot c) (sym s.version) (subst (λ n. IsNumberedTo (sizes_of w.version) n c) (sym s.slot) k.numbered);
  }

  pub prefix_later : (other later : Other D) (w : World) (c : List ℕ) → LeavesNoMore other later → KeepsPrefix disk other w c → KeepsPrefix disk later w c
  prefix_later other later w c less k = record { means = ⊎_elim (λ m. inl m) (λ m. inr (moved_later other later w c less m)) k.means; numbered = k.numbered }

  pub beside_same : (other : Other D) (w v : World) → v.stage ≡ w.stage → v.version ≡ w.version → v.other_faults ≡ w.other_faults → IsBeside disk other w → IsBeside disk other v
  beside_same Nothing w v stage version faults b = (stage ∙ b.0, version ∙ b.1)
  beside_same (New d) w v stage version faults (is, one, count) = (⊎_elim (λ e. inl (stage ∙ e)) (λ e. inr (stage ∙ e)) is, version ∙ one, count ∙ sym faults)
  beside_same (Old d) w v stage version faults (is, two, count, retired) = (stage ∙ is, version ∙ two, count ∙ sym faults, retired)

  pub beside_later : (other later : Other D) (w : World) → LeavesNoMore other later → FailsNoMore other later → IsBeside disk other w → IsBeside disk later w
  beside_later Nothing Nothing w less count b = b
  beside_later Nothing (New e) w less count b = absurd less
  beside_later Nothing (Old e) w less count b = absurd less
  beside_later (New d) Nothing w less count b = absurd less
  beside_later (New d) (New e) w less count b = (b.0, b.1, count ∙ b.2)
  beside_later (New d) (Old e) w less count b = absurd less
  beside_later (Old d) Nothing w less count b = absurd less
  beside_later (Old d) (New e) w less count b = absurd less
  beside_later (Old d) (Old e) w less count b = (b.0, b.1, count ∙ b.2, λ x left. b.3 x (less x left))

  pub none_later : (R : D → D → Type 0) (other later : Other D) → OnOther R other later → other ≡ Nothing → later ≡ Nothing
  none_later R other Nothing h e = refl
  none_later R other (New d) h e = let absent : OnOther R Nothing (New d) = subst (λ o. OnOther R o (New d)) e h in absurd absent
  none_later R other (Old d) h e = let absent : OnOther R Nothing (Old d) = subst (λ o. OnOther R o (Old d)) e h in absurd absent

  -- a content that is retired
  pub retired_of : (other : Other D) (w : World) (c : List ℕ) → IsRetiredBeside disk other w c → IsRetired sizes_1 c
  retired_of Nothing w c m = absurd m
  retired_of (New d) w c m = m.retired
  retired_of (Old d) w c m = absurd m

  pub between_of : (other : Other D) (w : World) (c : List ℕ) → IsRetiredBeside disk other w c → w.stage ≡ Between
  between_of Nothing w c m = absurd m
  between_of (New d) w c m = m.stage
  between_of (Old d) w c m = absurd m

  -- a file that turns out not to be retired
  pub beside_reopened : (other : Other D) (w v : World) → v.stage ≡ reopened w.stage → v.version ≡ w.version → v.other_faults ≡ w.other_faults → IsBeside disk other w → IsBeside disk other v
  beside_reopened Nothing w v stage version faults b = (stage ∙ ap reopened b.0, version ∙ b.1)
  beside_reopened (New d) w v stage version faults (is, one, count) = (inl (⊎_elim (λ e. stage ∙ ap reopened e) (λ e. stage ∙ ap reopened e) is), version ∙ one, count ∙ sym faults)
  beside_reopened (Old d) w v stage version faults (is, two, count, retired) = (stage ∙ ap reopened is, version ∙ two, count ∙ sym faults, retired)
