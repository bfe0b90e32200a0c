-- Runs of calls between two moments of a keeper.
use Rattle.std.proofs.Common.{◌≡◌, ◌⊎◌, inl, inr, refl, ap, ℕ, false, List, subst}
use Rattle.std.specs.Prelude.{Result, Ok, Err, IfErr, IsErrOf, OnOk}
use Rattle.wm_disk.specs.declared.refusal.Refusal.{Refusal}
use Rattle.wm_disk.specs.declared.refusal.Refusal.TheVariants.{DeviceFailed, NoMemory, Exhausted, StoreFailed}
use Rattle.wm_disk.specs.declared.disk.Disk as disks
use Rattle.wm_disk.specs.Moments.{LeavesOnly, then_runs}
use Rattle.wm_disk.specs.laws.Runs.{weaker, OnlyNow}
use Rattle.wm_registry.specs.declared.command.Command.{Command}
use Rattle.wm_registry.specs.declared.reply.Reply.{Reply}
use Rattle.wm_registry.specs.Roots.{State}
use Rattle.wm_registry.specs.MachineLaws.{watches_in}
use Rattle.wm_checkpoint.specs.Meanings.{MeansState, MeansPrefix}
use Rattle.wm_checkpoint.specs.Kept.{disk_of, state_of, has_failed, Keeps}
use Rattle.wm_checkpoint.specs.declared.keeper.Keeper.{Keeper}
use Rattle.wm_checkpoint.specs.laws.Uncalled.{untouched, prefix_none}
use Rattle.wm_registry.specs.declared.version.Version.{Version}
use Rattle.wm_checkpoint.specs.Layout.{Sizes}

module _ {D : Type 0} (disk : disks.Ghosts D) where
  -- what a crash at a moment from old to new leaves
  abbrev pub Leaves : D → D → (List ℕ → Type 0) → Type 0
  Leaves old new P = LeavesOnly disk.moment disk.left_since old new P

module _ {D M V : Type 0} (disk : disks.Ghosts D) (sizes : Sizes) (version : Version) where
  -- no call of the disk
  pub stood : OnlyNow disk → (keeper : Keeper D M V State Command Reply disk) → Keeps (watches_in sizes version) keeper → has_failed keeper ≡ false → disk.honest (disk_of keeper) → Leaves disk (disk_of keeper) (disk_of keeper) (MeansState (watches_in sizes version) (state_of keeper))
  stood only_now keeper kp alive h = untouched disk (watches_in sizes version) keeper (kp.kept alive h) (λ c left. only_now (disk_of keeper) c h left)

module _ {D : Type 0} (disk : disks.Ghosts D) (sizes : Sizes) (version : Version) where
  -- of no command yet
  pub unbegun : (old new : D) (s : State) (cs : List Command) → Leaves disk old new (MeansState (watches_in sizes version) s) → Leaves disk old new (MeansPrefix (watches_in sizes version) s cs)
  unbegun old new s cs run = weaker disk.moment disk.left_since old new (MeansState (watches_in sizes version) s) (MeansPrefix (watches_in sizes version) s cs) run (λ c m. prefix_none (watches_in sizes version) s cs c m)

  -- first a run that leaves the state, then one of commands
  pub then_begun : (old mid new : D) (s t : State) (cs : List Command) → t ≡ s → Leaves disk old mid (MeansState (watches_in sizes version) s) → Leaves disk mid new (MeansPrefix (watches_in sizes version) t cs) → Leaves disk old new (MeansPrefix (watches_in sizes version) s cs)
  then_begun old mid new s t cs same first second =
      then_runs disk.moment disk.left_since old mid new (MeansPrefix (watches_in sizes version) s cs) (MeansPrefix (watches_in sizes version) t cs) (unbegun old mid s cs first) second
      (λ c m. subst (λ (x : State). MeansPrefix (watches_in sizes version) x cs c) same m)

-- an answer of a keeper that is up
pub kinds_up : (r : Result Unit Refusal) → IfErr r (λ e. (e ≡ DeviceFailed) ⊎ (e ≡ NoMemory) ⊎ (e ≡ Exhausted) ⊎ (e ≡ StoreFailed)) → (IsErrOf r StoreFailed → ⊥) → IfErr r (λ e. (e ≡ DeviceFailed) ⊎ (e ≡ NoMemory) ⊎ (e ≡ Exhausted))
kinds_up (Ok x) h up = tt
kinds_up (Err e) (inl h) up = inl h
kinds_up (Err e) (inr (inl h)) up = inr (inl h)
kinds_up (Err e) (inr (inr (inl h))) up = inr (inr h)
kinds_up (Err e) (inr (inr (inr h))) up = absurd (up (ap (λ x. Err x) h))

-- what a success has, where it isn't a failure
pub ok_told : {T E P : Type 0} (r : Result T E) → ((x : E) → r ≡ Err x → ⊥) → OnOk r P → P
ok_told (Ok x) none h = h
ok_told (Err e) none h = absurd (none e refl)

-- a commit's answers
pub two_kinds : (r : Result Unit Refusal) → IfErr r (λ e. (e ≡ DeviceFailed) ⊎ (e ≡ NoMemory) ⊎ (e ≡ StoreFailed)) → (IsErrOf r StoreFailed → ⊥) → IfErr r (λ e. (e ≡ DeviceFailed) ⊎ (e ≡ NoMemory) ⊎ (e ≡ Exhausted))
two_kinds (Ok x) h up = tt
two_kinds (Err e) (inl h) up = inl h
two_kinds (Err e) (inr (inl h)) up = inr (inl h)
two_kinds (Err e) (inr (inr h)) up = absurd (up (ap (λ x. Err x) h))

pub three_kinds : (r : Result Unit Refusal) → IfErr r (λ e. (e ≡ DeviceFailed) ⊎ (e ≡ NoMemory) ⊎ (e ≡ StoreFailed)) → (IsErrOf r StoreFailed → ⊥) → IsErrOf r Exhausted → ⊥
three_kinds (Ok x) h up is = absurd cc
three_kinds (Err e) (inl h) up is = absurd cc
three_kinds (Err e) (inr (inl h)) up is = absurd cc
three_kinds (Err e) (inr (inr h)) up is = absurd (up (ap (λ x. Err x) h))

pub both_ok : {T E P Q R : Type 0} (r : Result T E) → (P → Q → R) → OnOk r P → OnOk r Q → OnOk r R
both_ok (Ok x) f p q = f p q
both_ok (Err e) f p q = tt

pub told_four : (r : Result Unit Refusal) (P : Type 0) → IfErr r (λ e. (e ≡ DeviceFailed) ⊎ (e ≡ NoMemory) ⊎ (e ≡ Exhausted) ⊎ (e ≡ StoreFailed)) → (IsErrOf r NoMemory → P) → (IsErrOf r Exhausted → P) → (IsErrOf r StoreFailed → P) → IfErr r (λ e. (e ≡ DeviceFailed → ⊥) → P)
told_four (Ok x) P h m x' s = tt
told_four (Err e) P (inl h) m x' s = λ no. absurd (no h)
told_four (Err e) P (inr (inl h)) m x' s = λ no. m (ap (λ x. Err x) h)
told_four (Err e) P (inr (inr (inl h))) m x' s = λ no. x' (ap (λ x. Err x) h)
told_four (Err e) P (inr (inr (inr h))) m x' s = λ no. s (ap (λ x. Err x) h)

pub told_three : (r : Result Unit Refusal) (P : Type 0) → IfErr r (λ e. (e ≡ DeviceFailed) ⊎ (e ≡ NoMemory) ⊎ (e ≡ StoreFailed)) → (IsErrOf r NoMemory → P) → (IsErrOf r StoreFailed → P) → IfErr r (λ e. (e ≡ DeviceFailed → ⊥) → P)
told_three (Ok x) P h m s = tt
told_three (Err e) P (inl h) m s = λ no. absurd (no h)
told_three (Err e) P (inr (inl h)) m s = λ no. m (ap (λ x. Err x) h)
told_three (Err e) P (inr (inr h)) m s = λ no. s (ap (λ x. Err x) h)
