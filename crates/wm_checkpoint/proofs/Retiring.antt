-- What a content means while its retired gate is opened.
use Rattle.std.proofs.Common.{◌≡◌, inl, inr, ℕ, ◌<◌, ◌≤◌, List, [], ◌∷◌, ◌++◌, length, take, drop, get_or, sym, ◌∙◌, ap, subst, arith, take-append-drop}
use Rattle.std.proofs.lemmas.Bool.{cases_eq}
use Rattle.std.proofs.lemmas.List.{take-take, drop-take}
use Rattle.wm_disk.specs.Contents.{overwritten}
use Rattle.wm_journal.specs.Areas.{area, SameOutside}
use Rattle.wm_journal.specs.Records.{HoldsRecords}
use Rattle.wm_checkpoint.specs.Layout.{Sizes, header_len, file_len, name_and_version, slot_place, slot_len, journal_place, journal_len, other_slot}
use Rattle.wm_checkpoint.specs.Machines.{Meaning}
use Rattle.wm_checkpoint.specs.Meanings.{MeansState, IsHeaderWith, IsNumbered, IsOpenSlot, IsOutranked, IsRetired}
use Rattle.wm_checkpoint.specs.Retirement.{IsMeantOrRetired}
use Rattle.wm_checkpoint.specs.declared.layout.Slot.{Slot}
use Rattle.wm_checkpoint.specs.declared.layout.Slot.TheVariants.{A, B}
use Rattle.wm_checkpoint.proofs.Halves.{byte_written, done_in, first_byte}
use Rattle.wm_checkpoint.proofs.Outside.{area_before, area_behind}

-- a header is what stands before its retired gate, the gate, and what stands behind
header_parts : (c : List ℕ) → 12 < length c → area 0 4096 c ≡ area 0 12 c ++ get_or c 12 0 ∷ area 13 4083 c
header_parts c lt =
    sym (take-append-drop 12 (take 4096 c)) ∙ ap (λ (x : List ℕ). x ++ drop 12 (take 4096 c)) (take-take 12 4096 c (omega arith)) ∙ ap (λ (x : List ℕ). take 12 c ++ x) (drop-take 12 4084 c ∙ first_byte 12 4083 c lt)

-- where nothing but the retired gate differs, the header is the same with another gate
header_with : (l : Sizes) (r : ℕ) (old c : List ℕ) → 12 < length old → IsHeaderWith l r (area 0 4096 old) → SameOutside 12 1 old c → IsHeaderWith l (get_or c 12 0) (area 0 4096 c)
header_with l r old c lt h same =
    let front : area 0 12 c ≡ area 0 12 old = area_before 12 1 0 12 old c same (omega arith) in
    let named : area 0 12 old ≡ 165 ∷ name_and_version l = sym (take-take 12 4096 old (omega arith)) ∙ ap (λ (x : List ℕ). take 12 x) h.1 in
    (area 13 4083 c, header_parts c (omega (arith, same.size, lt)) ∙ ap (λ (x : List ℕ). x ++ get_or c 12 0 ∷ area 13 4083 c) (front ∙ named))

-- the slots and journals are behind the header
slot_behind : (l : Sizes) (slot : Slot) → header_len ≤ slot_place l slot
slot_behind l A = omega arith
slot_behind l B = omega arith

module _ {S C : Type 0} (m : Meaning S C) (state : S) (old c : List ℕ) (k : MeansState m state old) (same : SameOutside 12 1 old c) where
  abbrev l : Sizes
  l = m.sizes

  long : file_len l ≤ length c
  long = omega (arith, k.means.long, same.size)

  header : IsHeaderWith l (get_or c 12 0) (area 0 4096 c)
  header = header_with l k.means.header.0 old c (omega (arith, k.means.long)) k.means.header.2 same

  stays : (slot : Slot) (n : ℕ) → area (slot_place l slot) n c ≡ area (slot_place l slot) n old
  stays slot n = area_behind 12 1 (slot_place l slot) n old c same (omega (arith, slot_behind l slot))

  journal_stays : (slot : Slot) → area (journal_place l slot) journal_len c ≡ area (journal_place l slot) journal_len old
  journal_stays slot = area_behind 12 1 (journal_place l slot) journal_len old c same (omega (arith, slot_behind l slot))

  -- whatever the gate's value is
  pub meant_or_retired : IsMeantOrRetired m state old c
  meant_or_retired = record {
    same = same;
    means = elim (cases_eq (get_or c 12 0) 165) [
      | inl is ↦ inr (long, subst (λ (n : ℕ). IsHeaderWith l n (area 0 4096 c)) is header)
      | inr ne ↦ inl (record {
        slot = k.slot;
        number = k.number;
        base = k.base;
        commands = k.commands;
        means = record {
          long = long;
          bounded = k.means.bounded;
          header = (get_or c 12 0, ne, header);
          chosen = subst (λ (x : List ℕ). IsOpenSlot l m.state k.number k.base x) (sym (stays k.slot (slot_len l))) k.means.chosen;
          outranked = subst (λ (x : List ℕ). IsOutranked k.number x) (sym (stays (other_slot k.slot) (slot_len l))) k.means.outranked;
          journal = subst (λ (x : List ℕ). HoldsRecords m.command k.commands x) (sym (journal_stays k.slot)) k.means.journal;
          accepted = k.means.accepted;
        };
        is = k.is;
      })
    ];
    numbered = λ n all slot number bound is. all slot number bound (subst (λ (x : List ℕ). IsNumbered number x) (stays slot (slot_len l)) is);
  }

  -- under an open gate
  pub retired_by : get_or c 12 0 ≡ 165 → IsRetired l c
  retired_by is = (long, subst (λ (n : ℕ). IsHeaderWith l n (area 0 4096 c)) is header)

-- the write of the gate was done
pub retired_done : {S C : Type 0} (m : Meaning S C) (state : S) (old c : List ℕ) → MeansState m state old → c ≡ overwritten old 12 (165 ∷ []) → IsRetired m.sizes c
retired_done m state old c k eq =
    let new = overwritten old 12 (165 ∷ []) in
    let same : SameOutside 12 1 old new = done_in 12 1 12 (165 ∷ []) old (omega arith) (omega arith) (omega (arith, k.means.long)) in
    subst (λ (x : List ℕ). IsRetired m.sizes x) (sym eq) (retired_by m state old new k same (byte_written 12 165 old (omega (arith, k.means.long))))
