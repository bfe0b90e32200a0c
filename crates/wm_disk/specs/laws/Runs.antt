-- Laws of runs of calls: a weaker claim on a run, and what a crash may leave at its end and before its first call.
use Rattle.std.specs.Prelude.{ℕ, ◌≤◌, List}
use Rattle.std.proofs.Common.{inl, inr, ⊎_elim}
use Rattle.wm_disk.specs.Moments.{LeavesOnly}
use Rattle.wm_disk.specs.declared.disk.Disk.{Ghosts}

-- a weaker claim on the same run
pub weaker : {D : Type 0} (moment : D → ℕ) (left_since : D → ℕ → List ℕ → Type 0) (old new : D) (P Q : List ℕ → Type 0) → LeavesOnly moment left_since old new P → ((c : List ℕ) → P c → Q c) → LeavesOnly moment left_since old new Q
weaker moment left_since old new P Q run weaken = record {
  later = run.later;
  each = λ c left. weaken c (run.each c left);
  before = λ t c le left. ⊎_elim (λ h. inl h) (λ h. inr (weaken c h)) (run.before t c le left);
}

-- a disk's law: a crash since an earlier moment might have left what one may leave now
abbrev pub CountsNow : {D : Type 0} → Ghosts D → Type 0
CountsNow disk = (d : _) (t : ℕ) (c : List ℕ) → disk.honest d → t ≤ disk.moment d → disk.may_leave d c → disk.left_since d t c

-- a disk's law: since this moment a crash might have left only what one may leave now
abbrev pub OnlyNow : {D : Type 0} → Ghosts D → Type 0
OnlyNow disk = (d : _) (c : List ℕ) → disk.honest d → disk.left_since d (disk.moment d) c → disk.may_leave d c

-- what a crash may leave at the end of a run
pub left_after_run : {D : Type 0} (disk : Ghosts D) → CountsNow disk → (old new : D) (P : List ℕ → Type 0) → disk.honest new → LeavesOnly disk.moment disk.left_since old new P → (c : List ℕ) → disk.may_leave new c → P c
left_after_run disk counts_now old new P h run c left = run.each c (counts_now new (disk.moment old) c h run.later left)
