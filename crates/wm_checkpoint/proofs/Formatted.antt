-- What an empty file means.
use Rattle.std.proofs.Common.{◌≡◌, ⊎_elim, inl, inr, refl, ℕ, ◌+◌, ◌-◌, ◌<◌, ◌≤◌, List, [], ◌∷◌, ◌++◌, length, take, drop, get_or, sym, ◌∙◌, ap, arith, length-append}
use Rattle.std.proofs.lemmas.List.{take_at, take-take, drop-take, drop-drop, length-take-le, get_or_append_left, get_or-take, get_or-append_right}
use Rattle.std.proofs.lemmas.Bool.{cases_lt}
use Rattle.wm_disk.specs.Contents.{overwritten}
use Rattle.wm_disk.specs.PointLaws.{length-overwritten}
use Rattle.wm_journal.specs.Areas.{area, SameOutside}
use Rattle.wm_journal.specs.laws.Areas.{same_itself, written_behind}
use Rattle.wm_checkpoint.specs.FirstFile.{IsFirstFile}
use Rattle.wm_checkpoint.specs.Formatting.{IsZeroTo, laid_out}
use Rattle.wm_checkpoint.specs.Halves.{IsSwitched}
use Rattle.wm_checkpoint.specs.Layout.{Sizes, front_len, header_len, file_len, half_len, journal_place, max_slot_text, name_and_version, retired_place, slot_len, slot_place}
use Rattle.wm_checkpoint.specs.Machines.{Meaning}
use Rattle.wm_checkpoint.specs.Meanings.{Means, IsHeader, IsSlotBytes}
use Rattle.wm_checkpoint.specs.declared.layout.Slot.TheVariants.{A, B}
use Rattle.wm_checkpoint.proofs.Outside.{area_before, area_behind}
use Rattle.wm_checkpoint.proofs.Halves.{first_byte, done_in, byte_behind, byte_before, byte_written}
use Rattle.wm_checkpoint.proofs.Switching.{closed_slot, no_records, open_slot}

-- zeros behind zeros
pub zero_more : (at : ℕ) (c z : List ℕ) → IsZeroTo at c → ((k : ℕ) → get_or z k 0 ≡ 0) → IsZeroTo (at + length z) (overwritten c at z)
zero_more at c z so_far zeros =
    record { long = omega (arith, length-overwritten c z at so_far.long); zero = below }
  where
    front : length (take at c) ≡ at
    front = length-take-le at c so_far.long

    below : (k : ℕ) → k < at + length z → get_or (overwritten c at z) k 0 ≡ 0
    below k lt = elim (cases_lt k at) [
      | inl less ↦ get_or_append_left (take at c ++ z) (drop (at + length z) c) 0 k (omega (arith, front, length-append (take at c) z)) ∙ get_or_append_left (take at c) z 0 k (omega (arith, front)) ∙ get_or-take at c k 0 less ∙ so_far.zero k less
      | inr more ↦ get_or_append_left (take at c ++ z) (drop (at + length z) c) 0 k (omega (arith, front, length-append (take at c) z, lt)) ∙ get_or-append_right (take at c) z at k 0 front more ∙ zeros (k - at)
    ]

module _ (l : Sizes) (bytes c0 : List ℕ) (zeros : IsZeroTo (file_len l) c0) (short : length bytes ≤ max_slot_text l) where
  abbrev hdr : List ℕ
  hdr = name_and_version l

  -- what of the header is behind its gate, from the retired gate on, and behind that
  abbrev header_rest : ℕ
  header_rest = header_len - 1

  abbrev from_retired : ℕ
  from_retired = header_len - retired_place

  abbrev behind_retired : ℕ
  behind_retired = header_len - front_len

  -- slot A, and the text behind its gate
  abbrev slot_a : ℕ
  slot_a = slot_place l A

  abbrev text_place : ℕ
  text_place = slot_a + 1

  abbrev c1 : List ℕ
  c1 = overwritten c0 text_place bytes

  abbrev c2 : List ℕ
  c2 = overwritten c1 1 hdr

  abbrev c3 : List ℕ
  c3 = overwritten c2 slot_a (165 ∷ [])

  abbrev c4 : List ℕ
  c4 = overwritten c3 0 (165 ∷ [])

  s1 : SameOutside text_place (max_slot_text l) c0 c1
  s1 = done_in text_place (max_slot_text l) text_place bytes c0 (omega arith) (omega arith) (omega (arith, zeros.long))

  s2 : SameOutside 1 11 c1 c2
  s2 = done_in 1 11 1 hdr c1 (omega arith) (omega arith) (omega (arith, zeros.long, s1.size))

  s3 : SameOutside slot_a 1 c2 c3
  s3 = done_in slot_a 1 slot_a (165 ∷ []) c2 (omega arith) (omega arith) (omega (arith, zeros.long, s1.size, s2.size))

  s4 : SameOutside 0 1 c3 c4
  s4 = done_in 0 1 0 (165 ∷ []) c3 (omega arith) (omega arith) (omega (arith, zeros.long, s1.size, s2.size, s3.size))

  size : length c4 ≡ length c0
  size = omega (arith, s1.size, s2.size, s3.size, s4.size)

  -- behind slot A nothing was written
  far : (k : ℕ) → journal_place l A ≤ k → k < file_len l → get_or c4 k 0 ≡ 0
  far k le lt =
      byte_behind 0 1 k c3 c4 s4 (omega arith) (omega (arith, zeros.long, s1.size, s2.size, s3.size)) ∙ byte_behind slot_a 1 k c2 c3 s3 (omega arith) (omega (arith, zeros.long, s1.size, s2.size))
      ∙ byte_behind 1 11 k c1 c2 s2 (omega arith) (omega (arith, zeros.long, s1.size)) ∙ byte_behind text_place (max_slot_text l) k c0 c1 s1 (omega arith) (omega (arith, zeros.long)) ∙ zeros.zero k lt

  retired_shut : get_or c2 retired_place 0 ≡ 0
  retired_shut = byte_behind 1 11 retired_place c1 c2 s2 (omega arith) (omega (arith, zeros.long, s1.size)) ∙ byte_before text_place (max_slot_text l) retired_place c0 c1 s1 (omega arith) (omega (arith, zeros.long)) ∙ zeros.zero retired_place (omega arith)

  slot_gate : get_or c4 slot_a 0 ≡ 165
  slot_gate = byte_behind 0 1 slot_a c3 c4 s4 (omega arith) (omega (arith, zeros.long, s1.size, s2.size, s3.size)) ∙ byte_written slot_a 165 c2 (omega (arith, zeros.long, s1.size, s2.size))

  slot_rest : (rest : List ℕ) × (drop 1 (area slot_a (slot_len l) c4) ≡ bytes ++ rest)
  slot_rest =
      let b = written_behind slot_a (slot_len l) 1 c0 bytes (omega arith) (omega (arith, zeros.long)) in
      let up = λ (c : List ℕ) (lt : slot_a < length c). (let e : drop 1 (area slot_a (slot_len l) c) ≡ area text_place (max_slot_text l) c = ap (λ (x : List ℕ). drop 1 x) (first_byte slot_a (max_slot_text l) c lt) in e) in
      (b.0, up c4 (omega (arith, zeros.long, size)) ∙ area_behind 0 1 text_place (max_slot_text l) c3 c4 s4 (omega arith) ∙ area_behind slot_a 1 text_place (max_slot_text l) c2 c3 s3 (omega arith) ∙ area_behind 1 11 text_place (max_slot_text l) c1 c2 s2 (omega arith) ∙ sym (up c1 (omega (arith, zeros.long, s1.size))) ∙ b.1)

  header : IsHeader l (area 0 header_len c4)
  header =
      let b = written_behind 1 header_rest 0 c1 hdr (omega arith) (omega (arith, zeros.long, s1.size)) in
      let rest : area retired_place from_retired c2 ≡ b.0 = sym (drop-take 11 from_retired (drop 1 c2) ∙ ap (λ (x : List ℕ). take from_retired x) (drop-drop 11 1 c2)) ∙ ap (λ (x : List ℕ). drop 11 x) b.1 in
      let tail : b.0 ≡ get_or c2 retired_place 0 ∷ area front_len behind_retired c2 = sym rest ∙ first_byte retired_place behind_retired c2 (omega (arith, zeros.long, s1.size, s2.size)) in
      let gate : get_or c4 0 0 ≡ 165 = byte_written 0 165 c3 (omega (arith, zeros.long, s1.size, s2.size, s3.size)) in
      let behind : area 1 header_rest c4 ≡ hdr ++ get_or c2 retired_place 0 ∷ area front_len behind_retired c2 = area_behind 0 1 1 header_rest c3 c4 s4 (omega arith) ∙ area_before slot_a 1 1 header_rest c2 c3 s3 (omega arith) ∙ b.1 ∙ ap (λ (x : List ℕ). hdr ++ x) tail in
      (get_or c2 retired_place 0, (λ e. omega (arith, e, retired_shut)), (area front_len behind_retired c2, first_byte 0 header_rest c4 (omega (arith, zeros.long, size)) ∙ ap (λ (x : ℕ). x ∷ area 1 header_rest c4) gate ∙ ap (λ (x : List ℕ). 165 ∷ x) behind))

  switched : IsSwitched l slot_a bytes c4 c4
  switched = record {
    filled = record { outside = same_itself slot_a (half_len l) c4; rest = slot_rest.0; behind = slot_rest.1; journal = λ e. omega (arith, e, far (journal_place l A) (omega arith) (omega arith)) };
    gate = slot_gate;
  }

  -- the text alone was written in the slot
  s5 : SameOutside text_place (length bytes) c0 c1
  s5 = done_in text_place (length bytes) text_place bytes c0 (omega arith) (omega arith) (omega (arith, zeros.long))

  pub first_file : IsFirstFile l bytes (laid_out l bytes c0)
  first_file = record {
    long = omega (arith, zeros.long, size);
    header =
        let b = written_behind 1 header_rest 0 c1 hdr (omega arith) (omega (arith, zeros.long, s1.size)) in
        let named : area 1 11 c2 ≡ hdr = sym (take-take 11 header_rest (drop 1 c2) (omega arith)) ∙ ap (λ (x : List ℕ). take 11 x) b.1 in
        let behind : area 1 11 c4 ≡ hdr = area_behind 0 1 1 11 c3 c4 s4 (omega arith) ∙ area_before slot_a 1 1 11 c2 c3 s3 (omega arith) ∙ named in
        let gate : get_or c4 0 0 ≡ 165 = byte_written 0 165 c3 (omega (arith, zeros.long, s1.size, s2.size, s3.size)) in
        first_byte 0 11 c4 (omega (arith, zeros.long, size)) ∙ ap (λ (x : ℕ). x ∷ area 1 11 c4) gate ∙ ap (λ (x : List ℕ). 165 ∷ x) behind;
    slot =
        let there : area text_place (max_slot_text l) c4 ≡ bytes ++ slot_rest.0 = sym (ap (λ (x : List ℕ). drop 1 x) (first_byte slot_a (max_slot_text l) c4 (omega (arith, zeros.long, size)))) ∙ slot_rest.1 in
        let text : area text_place (length bytes) c4 ≡ bytes = sym (take-take (length bytes) (max_slot_text l) (drop text_place c4) short) ∙ ap (λ (x : List ℕ). take (length bytes) x) there ∙ take_at bytes slot_rest.0 (length bytes) refl in
        first_byte slot_a (length bytes) c4 (omega (arith, zeros.long, size)) ∙ ap (λ (x : ℕ). x ∷ area text_place (length bytes) c4) slot_gate ∙ ap (λ (x : List ℕ). 165 ∷ x) text;
    zero = λ k. ⊎_elim (between k) (above k);
  }
    where
      between : (k : ℕ) → (retired_place ≤ k) × (k < header_len) → get_or c4 k 0 ≡ 0
      between k (le, lt) =
          byte_behind 0 1 k c3 c4 s4 (omega (arith, le)) (omega (arith, zeros.long, s1.size, s2.size, s3.size, lt)) ∙ byte_before slot_a 1 k c2 c3 s3 lt (omega (arith, zeros.long, s1.size, s2.size, lt))
          ∙ byte_behind 1 11 k c1 c2 s2 le (omega (arith, zeros.long, s1.size, lt)) ∙ byte_before text_place (max_slot_text l) k c0 c1 s1 (omega (arith, lt)) (omega (arith, zeros.long, lt)) ∙ zeros.zero k (omega (arith, lt))

      above : (k : ℕ) → (text_place + length bytes ≤ k) × (k < file_len l) → get_or c4 k 0 ≡ 0
      above k (le, lt) =
          byte_behind 0 1 k c3 c4 s4 (omega (arith, le)) (omega (arith, zeros.long, s1.size, s2.size, s3.size, lt)) ∙ byte_behind slot_a 1 k c2 c3 s3 (omega (arith, le)) (omega (arith, zeros.long, s1.size, s2.size, lt))
          ∙ byte_behind 1 11 k c1 c2 s2 (omega (arith, le)) (omega (arith, zeros.long, s1.size, lt)) ∙ byte_behind text_place (length bytes) k c0 c1 s5 le (omega (arith, zeros.long, lt)) ∙ zeros.zero k lt

module _ {S C : Type 0} (m : Meaning S C) (bytes c0 : List ℕ) (zeros : IsZeroTo (file_len m.sizes) c0) (short : length bytes ≤ max_slot_text m.sizes) where
  pub formatted : (first : S) → IsSlotBytes m 1 first bytes → Means m (laid_out m.sizes bytes c0) A 1 first []
  formatted first s =
      let l = m.sizes in
      let c = laid_out l bytes c0 in
      let long = size l bytes c0 zeros short in
      let behind = far l bytes c0 zeros short in
      record {
        long = omega (arith, zeros.long, long);
        bounded = omega arith;
        header = header l bytes c0 zeros short;
        chosen = open_slot m 1 (slot_place l A) first bytes c c (omega (arith, zeros.long, long)) s (switched l bytes c0 zeros short);
        outranked = closed_slot l 1 (slot_place l B) c (omega (arith, zeros.long, long)) (λ e. omega (arith, e, behind (slot_place l B) (omega arith) (omega arith)));
        journal = no_records m (journal_place l A) c (omega (arith, zeros.long, long)) (λ e. omega (arith, e, behind (journal_place l A) (omega arith) (omega arith)));
        accepted = tt;
      }
