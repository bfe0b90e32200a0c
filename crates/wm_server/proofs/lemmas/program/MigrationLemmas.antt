-- What a look at the old file found, why it and a move are refused, and how a move ends.
use Rattle.std.proofs.Common.{◌≡◌, ◌≢◌, ◌⊎◌, ◌∙◌, ℕ, Bool, List, Option, Result, Ok, Err, MatchResult, true, false, inl, inr, refl, sym, ap, subst, true≢false}
use Rattle.wm_disk.specs.Contents.{Rose}
use Rattle.wm_disk.specs.declared.disk.Disk as disks
use Rattle.wm_disk.specs.declared.refusal.Refusal.{Refusal}
use Rattle.wm_disk.specs.declared.refusal.Refusal.TheVariants as refusals
use Rattle.wm_checkpoint.specs.Layout.{sizes_1}
use Rattle.wm_checkpoint.specs.Meanings.{IsDamaged, IsRetired}
use Rattle.wm_registry.specs.MachineLaws.{watches}
use Rattle.wm_registry.specs.Roots.{State}
use Rattle.wm_registry.specs.declared.version.Version.TheVariants.{One}
use Rattle.wm_store.specs.Meant.{MeansRegistry}
use Rattle.wm_store.specs.Migrations.{HaveNoRegistry, WritesNeither}
use Rattle.wm_server.specs.program.Migrating.{IsFoundRetired, IsShown, MoveFails, IsUnshown, LookRefused, MoveRefused, Moves}
use Rattle.wm_session.specs.declared.session.output.Output.{Output}
use Rattle.wm_server.specs.declared.program.system.System as systems

pub found_retired : (b : Bool) (content : List ℕ) → (b ≡ true → IsRetired sizes_1 content) → (b ≡ false → (s : State) × (s.version ≡ One) × MeansRegistry s content)
    → IsFoundRetired b content
found_retired true content retired means = retired refl
found_retired false content retired means = means refl

abbrev is_device : Refusal → Bool
is_device refusals.DeviceFailed = true
is_device other = false

not_device : (e other : Refusal) → e ≡ other → is_device other ≡ false → e ≢ refusals.DeviceFailed
not_device e other is other_is same = true≢false (sym (ap is_device same) ∙ (ap is_device is ∙ other_is))

module _ {D : Type 0} (disk : disks.Ghosts D) where
  pub look_refused : (before after : D) (e : Refusal) → (e ≡ refusals.DeviceFailed) ⊎ ((e ≡ refusals.NoMemory) ⊎ (e ≡ refusals.Damaged))
      → (e ≡ refusals.DeviceFailed → Rose (disk.failures before) (disk.failures after))
      → (disk.honest after → e ≡ refusals.Damaged → IsDamaged (watches One) (disk.seen before))
      → LookRefused disk e before after
  look_refused before after e (inl is) failed damaged = subst (λ r. LookRefused disk r before after) (sym is) (failed is)
  look_refused before after e (inr (inl is)) failed damaged = subst (λ r. LookRefused disk r before after) (sym is) tt
  look_refused before after e (inr (inr is)) failed damaged = subst (λ r. LookRefused disk r before after) (sym is) (λ h. damaged h is)

  pub move_refused : (old new old_after new_after : D) (e : Refusal) → (e ≡ refusals.DeviceFailed) ⊎ ((e ≡ refusals.NoMemory) ⊎ (e ≡ refusals.Damaged))
      → (e ≡ refusals.DeviceFailed → Rose (disk.failures old) (disk.failures old_after) ⊎ Rose (disk.failures new) (disk.failures new_after))
      → (disk.honest old_after → disk.honest new_after → e ≡ refusals.Damaged → HaveNoRegistry (disk.seen old) (disk.seen new))
      → (disk.honest old_after → disk.honest new_after → e ≢ refusals.DeviceFailed → WritesNeither disk old new old_after new_after)
      → MoveRefused disk e old new old_after new_after
  move_refused old new old_after new_after e (inl is) failed damaged unwritten = subst (λ r. MoveRefused disk r old new old_after new_after) (sym is) (failed is)
  move_refused old new old_after new_after e (inr (inl is)) failed damaged unwritten =
      subst (λ r. MoveRefused disk r old new old_after new_after) (sym is) (λ h k. unwritten h k (not_device e refusals.NoMemory is refl))
  move_refused old new old_after new_after e (inr (inr is)) failed damaged unwritten =
      subst (λ r. MoveRefused disk r old new old_after new_after) (sym is) (λ h k. (damaged h k is, unwritten h k (not_device e refusals.Damaged is refl)))

-- a move that was made is what is promised of its result, whatever that is
module _ {S D W : Type 0} (disk : disks.Ghosts D) (system : systems.Ghosts S D) (contents : W → Option (List ℕ)) (path : List ℕ) (old new : S) (before after : D)
    (held holds : Output W) (looked new_before new_after : D)
    (made : (Moved : (old new old_after new_after : D) → Type 0) → Moved looked new_before after new_after → Moves disk system path old new before after Moved) where
  pub moves_or_fails : {T : Type 0} (r : Result T Refusal)
      → MatchResult r (λ _. IsShown disk contents held holds looked new_before after new_after) (λ e. IsUnshown disk e held holds looked new_before after new_after)
      → MatchResult r (λ _. Moves disk system path old new before after (IsShown disk contents held holds)) (λ e. MoveFails disk system e path old new before after held holds)
  moves_or_fails (Ok x) shown = made (IsShown disk contents held holds) shown
  moves_or_fails (Err e) unshown = inr (inr (made (IsUnshown disk e held holds) unshown))
