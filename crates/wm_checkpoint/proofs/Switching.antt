-- What a file means while its other half is given the state.
use Rattle.std.proofs.Common.{◌≡◌, ◌≢◌, inl, inr, ℕ, ◌+◌, ◌<◌, ◌≤◌, List, [], ◌∷◌, ◌++◌, length, drop, get_or, refl, sym, ◌∙◌, ap, subst, arith}
use Rattle.std.proofs.lemmas.Bool.{cases_eq}
use Rattle.std.specs.Int.{to_be_bytes, w64}
use Rattle.wm_disk.specs.Counters.{max_counter}
use Rattle.wm_journal.specs.Areas.{area, SameOutside}
use Rattle.wm_journal.specs.Records.{HoldsRecords}
use Rattle.wm_checkpoint.specs.Machines.{Meaning, replayed}
use Rattle.wm_checkpoint.specs.Layout.{Sizes, header_len, file_len, slot_place, slot_len, max_slot_text, journal_place, other_slot, empty_room, journal_len, half_len}
use Rattle.wm_checkpoint.specs.Halves.{IsShutting, IsShut, IsSwitched, IsSwitching}
use Rattle.wm_checkpoint.specs.Meanings.{Means, MeansState, IsHeader, IsOpenSlot, IsOutranked, IsSlotBytes}
use Rattle.wm_checkpoint.specs.declared.layout.Slot.{Slot}
use Rattle.wm_checkpoint.specs.declared.layout.Slot.TheVariants.{A, B}
use Rattle.wm_checkpoint.proofs.Outside.{area_before, area_behind}
use Rattle.wm_checkpoint.proofs.Halves.{first_byte, wider}
use Rattle.wm_checkpoint.specs.laws.Numbering.{number_of_slot}

pub slot_bounds : (l : Sizes) (slot : Slot) → (slot_place l slot + half_len l ≤ file_len l) × (journal_place l slot + journal_len ≤ file_len l)
slot_bounds l A = (omega arith, omega arith)
slot_bounds l B = (omega arith, omega arith)

pub other_twice : (slot : Slot) → other_slot (other_slot slot) ≡ slot
other_twice A = refl
other_twice B = refl

module _ (l : Sizes) where
  half_header : (slot : Slot) (old new : List ℕ) → SameOutside (slot_place l (other_slot slot)) (half_len l) old new → area 0 header_len new ≡ area 0 header_len old
  half_header A old new same = area_before (slot_place l B) (half_len l) 0 header_len old new same (omega arith)
  half_header B old new same = area_before (slot_place l A) (half_len l) 0 header_len old new same (omega arith)

  half_slot : (slot : Slot) (old new : List ℕ) → SameOutside (slot_place l (other_slot slot)) (half_len l) old new → area (slot_place l slot) (slot_len l) new ≡ area (slot_place l slot) (slot_len l) old
  half_slot A old new same = area_before (slot_place l B) (half_len l) (slot_place l A) (slot_len l) old new same (omega arith)
  half_slot B old new same = area_behind (slot_place l A) (half_len l) (slot_place l B) (slot_len l) old new same (omega arith)

  half_journal : (slot : Slot) (old new : List ℕ) → SameOutside (slot_place l (other_slot slot)) (half_len l) old new → area (journal_place l slot) journal_len new ≡ area (journal_place l slot) journal_len old
  half_journal A old new same = area_before (slot_place l B) (half_len l) (journal_place l A) journal_len old new same (omega arith)
  half_journal B old new same = area_behind (slot_place l A) (half_len l) (journal_place l B) journal_len old new same (omega arith)

-- a slot behind a closed gate
pub closed_slot : (l : Sizes) (number place : ℕ) (c : List ℕ) → place < length c → get_or c place 0 ≢ 165 → IsOutranked number (area place (slot_len l) c)
closed_slot l number place c lt shut = inl (get_or c place 0, area (place + 1) (max_slot_text l) c, shut, first_byte place (max_slot_text l) c lt)

-- a slot is its gate and what stands behind
pub gate_and_rest : (l : Sizes) (place : ℕ) (c : List ℕ) → place < length c → area place (slot_len l) c ≡ get_or c place 0 ∷ drop 1 (area place (slot_len l) c)
gate_and_rest l place c lt =
    let e = first_byte place (max_slot_text l) c lt in
    e ∙ ap (λ (x : List ℕ). get_or c place 0 ∷ x) (sym (ap (λ (x : List ℕ). drop 1 x) e))

-- a closed gate is not opened by a write that is cut short, and an open one leaves its number
pub shutting_outranked : (l : Sizes) (number place : ℕ) (old c : List ℕ) → place < length old → IsOutranked number (area place (slot_len l) old) → IsShutting place old c → IsOutranked number (area place (slot_len l) c)
shutting_outranked l number place old c lt (inl closed) s =
    let e : closed.0 ∷ closed.1 ≡ get_or old place 0 ∷ area (place + 1) (max_slot_text l) old = sym closed.3 ∙ first_byte place (max_slot_text l) old lt in
    let g : closed.0 ≡ get_or old place 0 = cc in
    closed_slot l number place c (omega (arith, s.outside.size)) (s.shut (λ is. closed.2 (g ∙ is)))
shutting_outranked l number place old c lt (inr low) s = elim (cases_eq (get_or c place 0) 165) [
  | inl is ↦
      let e : area (place + 1) (max_slot_text l) old ≡ to_be_bytes w64 low.0 ++ low.2.0 = (let k : get_or old place 0 ∷ area (place + 1) (max_slot_text l) old ≡ 165 ∷ to_be_bytes w64 low.0 ++ low.2.0 = sym (first_byte place (max_slot_text l) old lt) ∙ low.2.1 in cc) in
      inr (low.0, low.1, (low.2.0, first_byte place (max_slot_text l) c (omega (arith, s.outside.size)) ∙ ap (λ (x : ℕ). x ∷ area (place + 1) (max_slot_text l) c) is ∙ ap (λ (x : List ℕ). 165 ∷ x) (area_behind place 1 (place + 1) (max_slot_text l) old c s.outside (omega arith) ∙ e)))
  | inr shut ↦ closed_slot l number place c (omega (arith, s.outside.size)) shut
]

module _ {S C : Type 0} (m : Meaning S C) where
  -- the other half counts for nothing as long as its slot is outranked
  pub means_aside : (slot : Slot) (old c : List ℕ) (number : ℕ) (base : S) (cs : List C) → Means m old slot number base cs → SameOutside (slot_place m.sizes (other_slot slot)) (half_len m.sizes) old c → IsOutranked number (area (slot_place m.sizes (other_slot slot)) (slot_len m.sizes) c) → Means m c slot number base cs
  means_aside slot old c number base cs means same low = record {
    long = omega (arith, means.long, same.size);
    bounded = means.bounded;
    header = subst (λ (x : List ℕ). IsHeader m.sizes x) (sym (half_header m.sizes slot old c same)) means.header;
    chosen = subst (λ (x : List ℕ). IsOpenSlot m.sizes m.state number base x) (sym (half_slot m.sizes slot old c same)) means.chosen;
    outranked = low;
    journal = subst (λ (x : List ℕ). HoldsRecords m.command cs x) (sym (half_journal m.sizes slot old c same)) means.journal;
    accepted = means.accepted;
  }

  pub means_shutting : (slot : Slot) (old c : List ℕ) (number : ℕ) (base : S) (cs : List C) → Means m old slot number base cs → IsShutting (slot_place m.sizes (other_slot slot)) old c → Means m c slot number base cs
  means_shutting slot old c number base cs means s =
      let place = slot_place m.sizes (other_slot slot) in
      let lies : place + half_len m.sizes ≤ length old = omega (arith, (slot_bounds m.sizes (other_slot slot)).0, means.long) in
      means_aside slot old c number base cs means (wider place (half_len m.sizes) place 1 old c (omega arith) (omega arith) lies s.outside) (shutting_outranked m.sizes number place old c (omega arith) means.outranked s)

  pub means_shut : (slot : Slot) (old c : List ℕ) (number : ℕ) (base : S) (cs : List C) → Means m old slot number base cs → IsShut m.sizes (slot_place m.sizes (other_slot slot)) old c → Means m c slot number base cs
  means_shut slot old c number base cs means s =
      let place = slot_place m.sizes (other_slot slot) in
      means_aside slot old c number base cs means s.outside (closed_slot m.sizes number place c (omega (arith, (slot_bounds m.sizes (other_slot slot)).0, means.long, s.outside.size)) s.shut)

  pub open_slot : (number place : ℕ) (state : S) (bytes old c : List ℕ) → place + half_len m.sizes ≤ length c → IsSlotBytes m number state bytes → IsSwitched m.sizes place bytes old c → IsOpenSlot m.sizes m.state number state (area place (slot_len m.sizes) c)
  open_slot number place state bytes old c lies s w =
      let f = w.filled in
      record {
        fit = s.fit;
        short = s.short;
        rest = f.rest;
        parts = gate_and_rest m.sizes place c (omega arith) ∙ ap (λ (x : ℕ). x ∷ drop 1 (area place (slot_len m.sizes) c)) w.gate ∙ ap (λ (x : List ℕ). 165 ∷ x) (f.behind ∙ ap (λ (x : List ℕ). x ++ f.rest) s.text);
      }

  pub no_records : (place : ℕ) (c : List ℕ) → place < length c → get_or c place 0 ≢ 165 → HoldsRecords m.command [] (area place journal_len c)
  no_records place c lt shut = record { fit = tt; gate = get_or c place 0; behind = area (place + 1) empty_room c; closed = shut; parts = first_byte place empty_room c lt }

  pub means_switched : (slot : Slot) (old c : List ℕ) (number : ℕ) (base state : S) (cs : List C) (bytes : List ℕ) → number < max_counter → Means m old slot number base cs → IsSlotBytes m (number + 1) state bytes → IsSwitched m.sizes (slot_place m.sizes (other_slot slot)) bytes old c
      → Means m c (other_slot slot) (number + 1) state []
  means_switched slot old c number base state cs bytes lt means s w =
      let o = other_slot slot in
      let f = w.filled in
      let lies : file_len m.sizes ≤ length c = omega (arith, means.long, f.outside.size) in
      let bounds = slot_bounds m.sizes o in
      let mine : IsOpenSlot m.sizes m.state number base (area (slot_place m.sizes slot) (slot_len m.sizes) c) = subst (λ (x : List ℕ). IsOpenSlot m.sizes m.state number base x) (sym (half_slot m.sizes slot old c f.outside)) means.chosen in
      record {
        long = lies;
        bounded = omega arith;
        header = subst (λ (x : List ℕ). IsHeader m.sizes x) (sym (half_header m.sizes slot old c f.outside)) means.header;
        chosen = open_slot (number + 1) (slot_place m.sizes o) state bytes old c (omega (arith, bounds.0)) s w;
        outranked = subst (λ (t : Slot). IsOutranked (number + 1) (area (slot_place m.sizes t) (slot_len m.sizes) c)) (sym (other_twice slot)) (inr (number, omega arith, number_of_slot m.sizes m.state number base _ mine));
        journal = (no_records (slot_place m.sizes o + slot_len m.sizes) c (omega (arith, bounds.0)) f.journal);
        accepted = tt;
      }

  -- whatever a crash leaves while the other half is given the state
  pub means_switching : (slot : Slot) (old c : List ℕ) (number : ℕ) (base state : S) (cs : List C) (bytes : List ℕ) → number < max_counter → Means m old slot number base cs → replayed m.after base cs ≡ state → IsSlotBytes m (number + 1) state bytes
      → IsSwitching m.sizes (slot_place m.sizes (other_slot slot)) bytes old c → MeansState m state c
  means_switching slot old c number base state cs bytes lt means is s (inl h) = record { slot = slot; number = number; base = base; commands = cs; means = means_shutting slot old c number base cs means h; is = is }
  means_switching slot old c number base state cs bytes lt means is s (inr (inl h)) = record { slot = slot; number = number; base = base; commands = cs; means = means_shut slot old c number base cs means h; is = is }
  means_switching slot old c number base state cs bytes lt means is s (inr (inr h)) = record { slot = other_slot slot; number = number + 1; base = state; commands = []; means = means_switched slot old c number base state cs bytes lt means s h; is = refl }
