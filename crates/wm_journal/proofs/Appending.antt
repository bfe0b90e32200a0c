-- What a crash leaves while a group is written behind the closed gate.
use Rattle.std.proofs.Common.{◌≡◌, ℕ, ◌+◌, ◌≤◌, List, [], ◌∷◌, ◌++◌, length, take, drop, sym, ◌∙◌, ap, subst, arith, append_assoc, length-append, take-append-drop}
use Rattle.std.specs.List.{AllByRecursion}
use Rattle.std.proofs.lemmas.List.{take_at}
use Rattle.wm_disk.specs.Contents.{overwritten, Torn, Follows, NoMore}
use Rattle.wm_disk.specs.PointLaws.{torn_done}
use Rattle.wm_disk.specs.Moments.{Elapses, LeavesOnly, started, goes_on}
use Rattle.wm_disk.specs.declared.disk.Disk as disks
use Rattle.wm_wire.specs.declared.wire.Wire.{Ghosts}
use Rattle.wm_journal.specs.Areas.{area, SameOutside}
use Rattle.wm_journal.specs.Records.{gated, with_open_gates, HoldsRecords, Stages, taken, group}
use Rattle.wm_journal.specs.Regions.{IsAtRest, StillHolds}
use Rattle.wm_journal.specs.declared.region.Region.{Region}
use Rattle.wm_journal.proofs.Contents.{torn_front}
use Rattle.wm_journal.specs.laws.Areas.{torn_outside, written_behind, same_itself}
use Rattle.wm_journal.proofs.Laying.{under, last_gate, named-under, last_closed, group_laid, AllByRecursion-append}
use Rattle.wm_journal.specs.laws.Records.{gated-append, length-opened}

module _ {V : Type 0} (wire : Ghosts V) where
  abbrev end_of : List V → ℕ
  end_of vs = taken wire.spelling vs + 1

  -- only the bytes up to the closed gate count
  front_parts : (vs : List V) (a b : List ℕ) (h : HoldsRecords wire vs a) → take (end_of vs) b ≡ take (end_of vs) a → b ≡ gated wire.spelling (with_open_gates vs) ++ h.gate ∷ drop (end_of vs) b
  front_parts vs a b h same =
      let text = gated wire.spelling (with_open_gates vs) in
      let front = text ++ h.gate ∷ [] in
      let n = end_of vs in
      let long : length front ≡ n = omega (arith, length-append text (h.gate ∷ []), length-opened wire.spelling vs) in
      let begins : take n a ≡ front = ap (λ (l : List ℕ). take n l) (h.parts ∙ sym (append_assoc text (h.gate ∷ []) h.behind)) ∙ take_at front h.behind n long in
      sym (take-append-drop n b) ∙ ap (λ (l : List ℕ). l ++ drop n b) (same ∙ begins) ∙ append_assoc text (h.gate ∷ []) (drop n b)

  pub front_counts : (vs : List V) (a b : List ℕ) → HoldsRecords wire vs a → take (end_of vs) b ≡ take (end_of vs) a → HoldsRecords wire vs b
  front_counts vs a b h same = record { fit = h.fit; gate = h.gate; behind = drop (end_of vs) b; closed = h.closed; parts = front_parts vs a b h same }

  -- a group stands behind the closed gate
  pub group_staged : (vs ws : List V) (a b rest : List ℕ) → HoldsRecords wire vs a → take (end_of vs) b ≡ take (end_of vs) a → drop (end_of vs) b ≡ group wire.spelling ws ++ rest → AllByRecursion wire.fits ws → Stages wire vs ws b
  group_staged vs ws a b rest h same behind fit =
      let text = gated wire.spelling (with_open_gates vs) in
      let laid = under wire.spelling h.gate ws in
      let last = last_gate wire.spelling h.gate ws in
      record {
        fit = AllByRecursion-append wire.fits vs ws h.fit fit;
        staged = laid;
        are_added = named-under wire.spelling h.gate ws;
        gate = last;
        behind = rest;
        closed = last_closed wire.spelling h.gate ws h.closed;
        parts = front_parts vs a b h same
            ∙ ap (λ (l : List ℕ). text ++ h.gate ∷ l) behind
            ∙ ap (λ (l : List ℕ). text ++ l) (group_laid wire.spelling h.gate ws rest)
            ∙ sym (gated-append wire.spelling (with_open_gates vs) laid (last ∷ rest));
      }

-- a write of so many bytes behind the closed gate of a journal at rest
module _ {D V : Type 0} (disk : disks.Ghosts D) (wire : Ghosts V) (region : Region D disk) (held : List V) (rest : IsAtRest wire region held) (n : ℕ) (within : region.end + 1 + n ≤ region.len) where
  abbrev at : ℕ
  at = region.offset + (region.end + 1)

  abbrev old : List ℕ
  old = disk.seen region.disk

  abbrev Still : List ℕ → Type 0
  Still = StillHolds wire region held

  torn_still : (c : List ℕ) → Torn at n old c → Still c
  torn_still c torn =
      let front = torn_front region.offset region.len (region.end + 1) n old c within rest.lies torn in
      record {
        outside = torn_outside region.offset region.len (region.end + 1) n old c within rest.lies torn;
        holds = front_counts wire held (area region.offset region.len old) (area region.offset region.len c) rest.read.holds (subst (λ (k : ℕ). take (k + 1) (area region.offset region.len c) ≡ take (k + 1) (area region.offset region.len old)) rest.read.end front);
      }

  -- what a crash leaves after the write
  pub written_still : (now : List ℕ → Type 0) → Follows (Torn at n) (disk.may_leave region.disk) now → (c : List ℕ) → now c → Still c
  written_still now follows c left =
      let from = follows c left in
      torn_still c (subst (λ (d : List ℕ). Torn at n d c) (rest.durable from.0 from.1) from.2)

  pub written_leaves : ((c : List ℕ) → disk.left_since region.disk (disk.moment region.disk) c → disk.may_leave region.disk c) → (new : D) → Follows (Torn at n) (disk.may_leave region.disk) (disk.may_leave new) → Elapses (disk.moment region.disk) (disk.moment new) (disk.left_since region.disk) (disk.left_since new) (disk.may_leave new)
      → LeavesOnly disk.moment disk.left_since region.disk new Still
  written_leaves only_now new follows time =
      let as_it_reads : Still old = record { outside = same_itself region.offset region.len old; holds = rest.read.holds } in
      let start = started disk.moment disk.left_since region.disk Still (λ c left. subst Still (sym (rest.durable c (only_now c left))) as_it_reads) in
      goes_on disk.moment disk.left_since region.disk region.disk new Still (disk.may_leave new) start time (written_still (disk.may_leave new) follows)

  pub synced_leaves : ((c : List ℕ) → disk.left_since region.disk (disk.moment region.disk) c → disk.may_leave region.disk c) → (mid new : D) → Follows (Torn at n) (disk.may_leave region.disk) (disk.may_leave mid) → Elapses (disk.moment region.disk) (disk.moment mid) (disk.left_since region.disk) (disk.left_since mid) (disk.may_leave mid)
      → NoMore (disk.may_leave mid) (disk.may_leave new) → Elapses (disk.moment mid) (disk.moment new) (disk.left_since mid) (disk.left_since new) (disk.may_leave new) → LeavesOnly disk.moment disk.left_since region.disk new Still
  synced_leaves only_now mid new follows time no_more later =
      goes_on disk.moment disk.left_since region.disk mid new Still (disk.may_leave new) (written_leaves only_now mid follows time) later (λ c left. written_still (disk.may_leave mid) follows c (no_more c left))

-- the write of a group
module _ {D V : Type 0} (disk : disks.Ghosts D) (wire : Ghosts V) (region : Region D disk) (bytes c : List ℕ) (within : region.end + 1 + length bytes ≤ region.len) (lies : region.offset + region.len ≤ length (disk.seen region.disk)) (written : c ≡ overwritten (disk.seen region.disk) (region.offset + (region.end + 1)) bytes) where
  torn : Torn (region.offset + (region.end + 1)) (length bytes) (disk.seen region.disk) c
  torn = subst (λ (l : List ℕ). Torn (region.offset + (region.end + 1)) (length bytes) (disk.seen region.disk) l) (sym written) (torn_done (disk.seen region.disk) bytes (region.offset + (region.end + 1)) (omega (arith, lies, within)))

  pub group_outside : SameOutside region.offset region.len (disk.seen region.disk) c
  group_outside = torn_outside region.offset region.len (region.end + 1) (length bytes) (disk.seen region.disk) c within lies torn

  pub group_stages : (held added : List V) → IsAtRest wire region held → bytes ≡ group wire.spelling added → AllByRecursion wire.fits added → Stages wire held added (area region.offset region.len c)
  group_stages held added rest are fit =
      let old = area region.offset region.len (disk.seen region.disk) in
      let new = area region.offset region.len c in
      let front = torn_front region.offset region.len (region.end + 1) (length bytes) (disk.seen region.disk) c within lies torn in
      let behind = written_behind region.offset region.len (region.end + 1) (disk.seen region.disk) bytes within lies in
      let stands : drop (region.end + 1) new ≡ group wire.spelling added ++ behind.0 = ap (λ (l : List ℕ). drop (region.end + 1) (area region.offset region.len l)) written ∙ behind.1 ∙ ap (λ (l : List ℕ). l ++ behind.0) are in
      group_staged wire held added old new behind.0 rest.read.holds
      (subst (λ (k : ℕ). take (k + 1) new ≡ take (k + 1) old) rest.read.end front)
      (subst (λ (k : ℕ). drop (k + 1) new ≡ group wire.spelling added ++ behind.0) rest.read.end stands) fit
