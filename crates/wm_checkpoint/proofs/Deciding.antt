-- A content has one meaning, and where the readers find none it has none.
use Rattle.std.proofs.Common.{◌≡◌, ◌≢◌, ◌⊎◌, inl, inr, ℕ, zero, suc, min, ◌+◌, ◌<◌, ◌≤◌, ◌^◌, List, [], ◌∷◌, ◌++◌, length, take, drop, refl, sym, ◌∙◌, ap, subst, arith, length-append}
use Rattle.std.specs.Prelude.{Result, Ok, Err, IfOk, IfErr, IsErrOf}
use Rattle.std.proofs.lemmas.List.{take-take, drop-take, length-take-le, length-take}
use Rattle.wm_disk.specs.Calls.{Calls}
use Rattle.wm_disk.specs.declared.disk.Disk as disks
use Rattle.wm_disk.specs.declared.refusal.Refusal.{Refusal}
use Rattle.wm_disk.specs.declared.refusal.Refusal.TheVariants.{DeviceFailed, NoMemory, Damaged, Retired}
use Rattle.wm_journal.specs.Areas.{area}
use Rattle.wm_journal.specs.Records.{HoldsRecords, taken, gated, with_open_gates}
use Rattle.wm_journal.specs.laws.Records.{length-opened}
use Rattle.wm_journal.specs.laws.OneList.{one_list}
use Rattle.wm_checkpoint.specs.Machines.{Meaning, Accepts, replay_on}
use Rattle.wm_checkpoint.specs.Layout.{Sizes, AreLawful, header_len, file_len, slot_place, slot_len, journal_place, other_slot, journal_len}
use Rattle.wm_checkpoint.specs.Meanings.{Means, MeansState, IsDamaged, IsHeader, IsHeaderWith, IsRetired, IsNumbered, IsOutranked, IsOpenSlot}
use Rattle.wm_checkpoint.specs.Found.{IsFound, IsFrontOf, IsChosen, ReadsDurably}
use Rattle.wm_checkpoint.specs.declared.layout.Slot.{Slot}
use Rattle.wm_checkpoint.specs.declared.layout.Slot.TheVariants.{A, B}
use Rattle.wm_checkpoint.proofs.Reading.{one_state}
use Rattle.wm_checkpoint.specs.laws.Numbering.{outranked_below, number_of_slot}
use Rattle.wm_checkpoint.proofs.Switching.{slot_bounds}
use Rattle.wm_checkpoint.specs.laws.Headers.{one_header}

clash : (a b : List ℕ) (m n : ℕ) → m < 2 ^ 64 → n < 2 ^ 64 → IsNumbered m a → IsOutranked m b → IsNumbered n b → IsOutranked n a → ⊥
clash a b m n lm ln h low k high =
    let x : m < n = outranked_below a m n lm ln h high in
    let y : n < m = outranked_below b n m ln lm k low in
    omega (arith, x, y)

pub one_slot : (l : Sizes) (c : List ℕ) (s t : Slot) (m n : ℕ) → IsChosen l c s m → IsChosen l c t n → s ≡ t
one_slot l c A A m n h k = refl
one_slot l c B B m n h k = refl
one_slot l c A B m n h k = absurd (clash _ _ m n h.0 k.0 h.1 h.2 k.1 k.2)
one_slot l c B A m n h k = absurd (clash _ _ m n h.0 k.0 h.1 h.2 k.1 k.2)

-- A body's length fits its four bytes, and no encoding of a state or a command begins another one.
pub record IsLawful {S C : Type 0} (m : Meaning S C) : Type 0 where
  pub sized : AreLawful m.sizes
  pub state_alone : (v w : S) (x y : List ℕ) → m.state.fits v → m.state.fits w → m.state.spelling v ++ x ≡ m.state.spelling w ++ y → v ≡ w
  pub command_alone : (v w : C) (x y : List ℕ) → m.command.fits v → m.command.fits w → m.command.spelling v ++ x ≡ m.command.spelling w ++ y → v ≡ w

module _ {S C : Type 0} (m : Meaning S C) (c : List ℕ) where
  pub chosen_of : (slot : Slot) (n : ℕ) (base : S) (cs : List C) → Means m c slot n base cs → IsChosen m.sizes c slot n
  chosen_of slot n base cs means = (means.bounded, number_of_slot m.sizes m.state n base _ means.chosen, means.outranked)

  pub no_header : ((retired : ℕ) → IsHeaderWith m.sizes retired (area 0 header_len c) → ⊥) → IsDamaged m c
  no_header none = ((λ s k. none k.means.header.0 k.means.header.2), (λ r. none 165 r.1))

  pub not_retired : (r : ℕ) → IsHeaderWith m.sizes r (area 0 header_len c) → r ≢ 165 → IsRetired m.sizes c → ⊥
  not_retired r h ne old = ne (one_header m.sizes _ r 165 h old.1)

  pub no_slot : ((slot : Slot) (n : ℕ) → n < 2 ^ 64 → IsNumbered n (area (slot_place m.sizes slot) (slot_len m.sizes) c) → IsOutranked n (area (slot_place m.sizes (other_slot slot)) (slot_len m.sizes) c) → ⊥) → (s : S) → MeansState m s c → ⊥
  no_slot none s k = let h = chosen_of k.slot k.number k.base k.commands k.means in none k.slot k.number h.0 h.1 h.2

  pub in_slot : (slot : Slot) (n : ℕ) → IsChosen m.sizes c slot n → (s : S) (k : MeansState m s c) → k.slot ≡ slot
  in_slot slot n h s k = one_slot m.sizes c k.slot slot k.number n (chosen_of k.slot k.number k.base k.commands k.means) h

  pub open_there : (slot : Slot) (n : ℕ) → IsChosen m.sizes c slot n → (s : S) (k : MeansState m s c) → IsOpenSlot m.sizes m.state k.number k.base (area (slot_place m.sizes slot) (slot_len m.sizes) c)
  open_there slot n h s k = subst (λ (t : Slot). IsOpenSlot m.sizes m.state k.number k.base (area (slot_place m.sizes t) (slot_len m.sizes) c)) (in_slot slot n h s k) k.means.chosen

  pub journal_there : (slot : Slot) (n : ℕ) → IsChosen m.sizes c slot n → (s : S) (k : MeansState m s c) → HoldsRecords m.command k.commands (area (journal_place m.sizes slot) journal_len c)
  journal_there slot n h s k = subst (λ (t : Slot). HoldsRecords m.command k.commands (area (journal_place m.sizes t) journal_len c)) (in_slot slot n h s k) k.means.journal

  pub no_state : (slot : Slot) (n : ℕ) → IsChosen m.sizes c slot n → ((number : ℕ) (s : S) → IsOpenSlot m.sizes m.state number s (area (slot_place m.sizes slot) (slot_len m.sizes) c) → ⊥) → (s : S) → MeansState m s c → ⊥
  no_state slot n h none s k = none k.number k.base (open_there slot n h s k)

  pub no_journal : (slot : Slot) (n : ℕ) → IsChosen m.sizes c slot n → ((cs : List C) → HoldsRecords m.command cs (area (journal_place m.sizes slot) journal_len c) → ⊥) → (s : S) → MeansState m s c → ⊥
  no_journal slot n h none s k = none k.commands (journal_there slot n h s k)

  module _ (law : IsLawful m) where
    pub base_there : (slot : Slot) (n : ℕ) → IsChosen m.sizes c slot n → (base : S) → IsOpenSlot m.sizes m.state n base (area (slot_place m.sizes slot) (slot_len m.sizes) c) → (s : S) (k : MeansState m s c) → k.base ≡ base
    base_there slot n h base o s k = one_state m.sizes law.sized m.state law.state_alone _ k.number n k.base base (open_there slot n h s k) o

    pub commands_there : (slot : Slot) (n : ℕ) → IsChosen m.sizes c slot n → (cs : List C) → HoldsRecords m.command cs (area (journal_place m.sizes slot) journal_len c) → (s : S) (k : MeansState m s c) → k.commands ≡ cs
    commands_there slot n h cs o s k = one_list m.command law.command_alone k.commands cs _ (journal_there slot n h s k) o

    pub no_replay : (slot : Slot) (n : ℕ) → IsChosen m.sizes c slot n → (base : S) → IsOpenSlot m.sizes m.state n base (area (slot_place m.sizes slot) (slot_len m.sizes) c) → (cs : List C) → HoldsRecords m.command cs (area (journal_place m.sizes slot) journal_len c) → (Accepts m base cs → ⊥) → (s : S) → MeansState m s c → ⊥
    no_replay slot n h base o cs j none s k = none (subst (λ (b : S). Accepts m b cs) (base_there slot n h base o s k) (subst (λ (l : List C). Accepts m k.base l) (commands_there slot n h cs j s k) k.means.accepted))

    -- the meaning
    pub one_meaning : (s t : S) → MeansState m s c → MeansState m t c → s ≡ t
    one_meaning s t h k =
        let there = chosen_of k.slot k.number k.base k.commands k.means in
        let b = base_there k.slot k.number there k.base k.means.chosen s h in
        let l = commands_there k.slot k.number there k.commands k.means.journal s h in
        sym h.is ∙ ap (λ (x : S). replay_on m x h.commands) b ∙ ap (λ (x : List C). replay_on m k.base x) l ∙ k.is

-- Bytes behind the file's end count for nothing.
pub area_front : (size at n : ℕ) (c : List ℕ) → at + n ≤ size → area at n (take size c) ≡ area at n c
area_front size at n c le = sym (drop-take at n (take size c)) ∙ ap (λ (l : List ℕ). drop at l) (take-take (at + n) size c le) ∙ drop-take at n c

module _ {S C : Type 0} (m : Meaning S C) where
  abbrev size : ℕ
  size = file_len m.sizes

  means_like : (c d : List ℕ) → size ≤ length d → ((at n : ℕ) → at + n ≤ size → area at n d ≡ area at n c) → (slot : Slot) (n : ℕ) (base : S) (cs : List C) → Means m c slot n base cs → Means m d slot n base cs
  means_like c d le same slot n base cs means = record {
    long = le;
    bounded = means.bounded;
    header = subst (λ (x : List ℕ). IsHeader m.sizes x) (sym (same 0 header_len (omega arith))) means.header;
    chosen = subst (λ (x : List ℕ). IsOpenSlot m.sizes m.state n base x) (sym (same (slot_place m.sizes slot) (slot_len m.sizes) (omega (arith, (slot_bounds m.sizes slot).0)))) means.chosen;
    outranked = subst (λ (l : List ℕ). IsOutranked n l) (sym (same (slot_place m.sizes (other_slot slot)) (slot_len m.sizes) (omega (arith, (slot_bounds m.sizes (other_slot slot)).0)))) means.outranked;
    journal = subst (λ (l : List ℕ). HoldsRecords m.command cs l) (sym (same (journal_place m.sizes slot) journal_len (omega (arith, (slot_bounds m.sizes slot).1)))) means.journal;
    accepted = means.accepted;
  }

  pub means_whole : (c : List ℕ) → size ≤ length c → (slot : Slot) (n : ℕ) (base : S) (cs : List C) → Means m (take size c) slot n base cs → Means m c slot n base cs
  means_whole c le slot n base cs means = means_like (take size c) c le (λ at k lt. sym (area_front size at k c lt)) slot n base cs means

  pub state_front : (c : List ℕ) (s : S) → MeansState m s c → MeansState m s (take size c)
  state_front c s k = record {
    slot = k.slot;
    number = k.number;
    base = k.base;
    commands = k.commands;
    means = means_like c (take size c) (omega (arith, length-take-le size c k.means.long)) (λ at n lt. area_front size at n c lt) k.slot k.number k.base k.commands k.means;
    is = k.is;
  }

  pub damaged_whole : (c : List ℕ) → IsDamaged m (take size c) → IsDamaged m c
  damaged_whole c none = ((λ s k. none.0 s (state_front c s k)), (λ r. none.1 (omega (arith, length-take-le size c r.0), subst (λ (x : List ℕ). IsHeaderWith m.sizes 165 x) (sym (area_front size 0 header_len c (omega arith))) r.1)))

  pub too_short : (c : List ℕ) → length c < size → IsDamaged m c
  too_short c lt = ((λ s k. omega (arith, k.means.long, lt)), (λ r. omega (arith, r.0, lt)))

pub retired_whole : (l : Sizes) (c : List ℕ) → file_len l ≤ length c → IsRetired l (take (file_len l) c) → IsRetired l c
retired_whole l c le r = (le, subst (λ (x : List ℕ). IsHeaderWith l 165 x) (area_front (file_len l) 0 header_len c (omega arith)) r.1)

pub found_here : {S C : Type 0} (m : Meaning S C) (c : List ℕ) (slot : Slot) (n : ℕ) (base state : S) (cs : List C) (end : ℕ) → length c ≡ file_len m.sizes → IsHeader m.sizes (area 0 header_len c) → IsChosen m.sizes c slot n → IsOpenSlot m.sizes m.state n base (area (slot_place m.sizes slot) (slot_len m.sizes) c) → HoldsRecords m.command cs (area (journal_place m.sizes slot) journal_len c) → Accepts m base cs → state ≡ replay_on m base cs → end ≡ taken m.command.spelling cs → IsFound m c slot n state end
found_here m c slot n base state cs end size header chosen o j all is ends = record {
  base = base;
  commands = cs;
  means = record { long = omega (arith, size); bounded = chosen.0; header = header; chosen = o; outranked = chosen.2; journal = j; accepted = all };
  is = sym is;
  ends = ends;
}

pub if_ok : {T E : Type 0} {P Q : T → Type 0} (r : Result T E) → ((x : T) → P x → Q x) → IfOk r P → IfOk r Q
if_ok (Ok x) f h = f x h
if_ok (Err e) f h = tt

pub found_whole : {S C : Type 0} (m : Meaning S C) (c : List ℕ) (slot : Slot) (n : ℕ) (s : S) (end : ℕ) → file_len m.sizes ≤ length c → IsFound m (take (file_len m.sizes) c) slot n s end → IsFound m c slot n s end
found_whole m c slot n s end le f = record { base = f.base; commands = f.commands; means = means_whole m c le slot n f.base f.commands f.means; is = f.is; ends = f.ends }

take_at_most : (most : ℕ) (c : List ℕ) → take (min (length c) most) c ≡ take most c
take_at_most zero [] = refl
take_at_most zero (x ∷ xs) =
    let none : min (suc (length xs)) 0 ≡ 0 = omega arith in
    ap (λ k. take k (x ∷ xs)) none
take_at_most (suc n) [] =
    let none : min 0 (suc n) ≡ 0 = omega arith in
    ap (λ k. take k []) none
take_at_most (suc n) (x ∷ xs) =
    let less : min (suc (length xs)) (suc n) ≡ suc (min (length xs) n) = omega arith in
    ap (λ k. take k (x ∷ xs)) less ∙ ap (λ l. x ∷ l) (take_at_most n xs)

pub take_min : (n most : ℕ) (c : List ℕ) → n ≡ length c → take (min n most) c ≡ take most c
take_min n most c is = ap (λ k. take (min k most) c) is ∙ take_at_most most c

-- the front of a content is as long as the layout's file where the content is, and then its first bytes are those
pub front_long : (l : Sizes) (b c : List ℕ) → IsFrontOf l b c → file_len l ≤ length b → file_len l ≤ length c
front_long l b c f le = omega (arith, ap length f.2, length-take f.0 c, le)

pub front_short : (l : Sizes) (b c : List ℕ) → IsFrontOf l b c → length b < file_len l → length c < file_len l
front_short l b c f lt = omega (arith, ap length f.2, length-take f.0 c, f.1, lt)

pub front_is : (l : Sizes) (b c : List ℕ) → IsFrontOf l b c → take (file_len l) b ≡ take (file_len l) c
front_is l b c f = ap (take (file_len l)) f.2 ∙ take-take (file_len l) f.0 c f.1

pub front_area : (l : Sizes) (b c : List ℕ) (at n : ℕ) → IsFrontOf l b c → at + n ≤ file_len l → area at n b ≡ area at n c
front_area l b c at n f le = ap (area at n) f.2 ∙ area_front f.0 at n c (omega (arith, le, f.1))

pub same_err : {T U E : Type 0} (e x : E) → IsErrOf {T = T} (Err e) x → IsErrOf {T = U} (Err e) x
same_err e x h = let k : e ≡ x = cc in ap (λ y. Err y) k

-- what stands in an area before something more is shorter
shorter : (at n : ℕ) (c text tail : List ℕ) → area at n c ≡ text ++ tail → 0 < length tail → length text < n
shorter at n c text tail is some = omega (arith, ap length is, length-append text tail, length-take n (drop at c), some)

-- the end of a journal lies in it
pub found_within : {S C : Type 0} (m : Meaning S C) (c : List ℕ) (slot : Slot) (n : ℕ) (s : S) (end : ℕ) → IsFound m c slot n s end → end < journal_len
found_within m c slot n s end f =
    let h = f.means.journal in
    let text = gated m.command.spelling (with_open_gates f.commands) in
    let within : length text < journal_len = shorter (journal_place m.sizes slot) journal_len c text (h.gate ∷ h.behind) h.parts (omega arith) in
    omega (arith, f.ends, within, length-opened m.command.spelling f.commands)

-- what was read is decoded without a call of the disk
not_device : (e : Refusal) → (e ≡ NoMemory) ⊎ ((e ≡ Damaged) ⊎ (e ≡ Retired)) → e ≢ DeviceFailed
not_device e (inl a) is = let x : NoMemory ≡ DeviceFailed = sym a ∙ is in absurd cc
not_device e (inr (inl a)) is = let x : Damaged ≡ DeviceFailed = sym a ∙ is in absurd cc
not_device e (inr (inr a)) is = let x : Retired ≡ DeviceFailed = sym a ∙ is in absurd cc

pub err_is : {T : Type 0} (e f : Refusal) → IsErrOf {T = T} (Err e) f → e ≡ f
err_is e f is = cc

module _ {D U : Type 0} (disk : disks.Ghosts D) (old new : D) (x : U) where
  abbrev read : Result U Refusal
  read = Ok x

  pub decoded_calls : {T : Type 0} (r : Result T Refusal) → Calls disk old new read → IfErr r (λ e. (e ≡ NoMemory) ⊎ ((e ≡ Damaged) ⊎ (e ≡ Retired))) → Calls disk old new r
  decoded_calls (Ok y) calls kinds = record {
    honest = calls.honest;
    failures_grow = calls.failures_grow;
    no_failure = calls.no_failure;
    failed = λ is. absurd cc;
    failures_kept = tt;
  }
  decoded_calls (Err e) calls kinds = record {
    honest = calls.honest;
    failures_grow = calls.failures_grow;
    no_failure = tt;
    failed = λ is. absurd (not_device e kinds (err_is e DeviceFailed is));
    failures_kept = λ _. calls.no_failure;
  }

  pub decoded_reads : {T : Type 0} (r : Result T Refusal) → ReadsDurably disk old new read → ReadsDurably disk old new r
  decoded_reads (Ok y) reads = record { durable = reads.durable; seen = reads.seen; any_moment = reads.any_moment }
  decoded_reads (Err e) reads = record { durable = tt; seen = reads.seen; any_moment = reads.any_moment }
