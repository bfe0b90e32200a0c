-- A cursor that is moved, in the map's words and by its laws.
use Rattle.std.proofs.Common.{◌≡◌, ℕ, true, false, cond, List, [], ◌∷◌, Some, None, refl, sym, ap, ◌∙◌, true≢false}
use Rattle.std.proofs.lemmas.Slice.Eq.{bytes_eq-Decides}
use Rattle.std.specs.Map.{lookup, set_value}
use Rattle.std.specs.Str.{bytes_eq}
use Rattle.indexmap.specs.IndexMap.{insert_entry}
use Rattle.wm_clock.specs.declared.clock_id.ClockId.{ClockId}
use Rattle.wm_since.specs.Cursors.{CursorList, IsMoved, OthersStay, cursor_at, moved_to}

pub inserted : (name : List ℕ) (clock : ClockId) (cs : CursorList) → insert_entry bytes_eq cs name clock ≡ moved_to name clock cs
inserted name clock [] = refl
inserted name clock (c ∷ cs) = ap (λ r. cond (bytes_eq name c.0) ((c.0, clock) ∷ cs) (c ∷ r)) (inserted name clock cs)

-- a cursor that is there
pub written : (name : List ℕ) (clock old : ClockId) (cs : CursorList) → cursor_at name cs ≡ Some old → set_value (bytes_eq name) cs clock ≡ moved_to name clock cs
written name clock old [] h = absurd cc
written name clock old (c ∷ cs) h =
    elim (bytes_eq name c.0) as (λ b. cond b (Some c.1) (lookup (bytes_eq name) cs) ≡ Some old
    → cond b ((c.0, clock) ∷ cs) (c ∷ set_value (bytes_eq name) cs clock) ≡ cond b ((c.0, clock) ∷ cs) (c ∷ moved_to name clock cs)) [
      | true ↦ λ q. refl
      | false ↦ λ q. ap (λ r. c ∷ r) (written name clock old cs q)
    ] h

pub moved : IsMoved
moved name clock [] = ap (λ b. cond b (Some clock) None) ((bytes_eq-Decides name name).1 refl)
moved name clock (c ∷ cs) =
    elim (bytes_eq name c.0) as (λ b. bytes_eq name c.0 ≡ b → cursor_at name (cond b ((c.0, clock) ∷ cs) (c ∷ moved_to name clock cs)) ≡ Some clock) [
      | true ↦ λ h. ap (λ b. cond b (Some clock) (cursor_at name cs)) h
      | false ↦ λ h. ap (λ b. cond b (Some c.1) (cursor_at name (moved_to name clock cs))) h ∙ moved name clock cs
    ] refl

differs : (other name key : List ℕ) → bytes_eq name other ≡ false → bytes_eq name key ≡ true → bytes_eq other key ≡ false
differs other name key apart same =
    elim (bytes_eq other key) as (λ b. bytes_eq other key ≡ b → b ≡ false) [
      | true ↦ λ h.
          let here : name ≡ key = (bytes_eq-Decides name key).0 same in
          let there : other ≡ key = (bytes_eq-Decides other key).0 h in
          absurd (true≢false (sym ((bytes_eq-Decides name other).1 (here ∙ sym there)) ∙ apart))
      | false ↦ λ h. refl
    ] refl

flipped : (name other : List ℕ) → bytes_eq name other ≡ false → bytes_eq other name ≡ false
flipped name other apart = differs other name name apart ((bytes_eq-Decides name name).1 refl)

pub others : OthersStay
others name other clock [] apart = ap (λ b. cond b (Some clock) None) (flipped name other apart)
others name other clock (c ∷ cs) apart =
    elim (bytes_eq name c.0) as (λ b. bytes_eq name c.0 ≡ b → cursor_at other (cond b ((c.0, clock) ∷ cs) (c ∷ moved_to name clock cs)) ≡ cursor_at other (c ∷ cs)) [
      | true ↦ λ h.
          let skip = differs other name c.0 apart h in
          ap (λ b. cond b (Some clock) (cursor_at other cs)) skip ∙ sym (ap (λ b. cond b (Some c.1) (cursor_at other cs)) skip)
      | false ↦ λ h. ap (λ r. cond (bytes_eq other c.0) (Some c.1) r) (others name other clock cs apart)
    ] refl
