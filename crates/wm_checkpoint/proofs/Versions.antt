-- A content is that of one version.
use Rattle.std.proofs.Common.{◌≡◌, ◌⊎◌, inl, inr, ℕ, ◌≤◌, List, length, sym, ◌∙◌, arith}
use Rattle.wm_disk.specs.declared.refusal.Refusal.{Refusal}
use Rattle.wm_disk.specs.declared.refusal.Refusal.TheVariants.{DeviceFailed, NoMemory, Damaged}
use Rattle.wm_journal.specs.Areas.{area}
use Rattle.wm_checkpoint.specs.Layout.{header_len, file_len, sizes_1, sizes_2}
use Rattle.wm_checkpoint.specs.Machines.{Meaning}
use Rattle.wm_checkpoint.specs.Meanings.{IsDamaged, IsHeaderWith}
use Rattle.wm_checkpoint.specs.Found.{IsFrontOf}

-- a content that has no header, if it is long enough, is damaged
pub unless_header : {S C : Type 0} (m : Meaning S C) (c : List ℕ) → (file_len m.sizes ≤ length c → (retired : ℕ) → IsHeaderWith m.sizes retired (area 0 header_len c) → ⊥) → IsDamaged m c
unless_header m c none = ((λ s k. none k.means.long k.means.header.0 k.means.header.2), (λ r. none r.0 165 r.1))

-- version 1's file is the shorter one
pub front_1 : (b c : List ℕ) → IsFrontOf sizes_2 b c → IsFrontOf sizes_1 b c
front_1 b c f = (f.0, omega (arith, f.1), f.2)

pub not_damaged : (e : Refusal) → (e ≡ DeviceFailed) ⊎ (e ≡ NoMemory) → e ≡ Damaged → ⊥
not_damaged e (inl a) is = let x : DeviceFailed ≡ Damaged = sym a ∙ is in absurd cc
not_damaged e (inr a) is = let x : NoMemory ≡ Damaged = sym a ∙ is in absurd cc
