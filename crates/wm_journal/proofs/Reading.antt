-- What is read is what stands there, and nothing else does.
use Rattle.std.proofs.Common.{◌≡◌, ◌≢◌, ℕ, ◌+◌, ◌<◌, ◌≤◌, List, [], ◌∷◌, ◌++◌, length, get_or, drop, sym, ◌∙◌, ap, arith, append_assoc}
use Rattle.std.specs.List.{AllByRecursion}
use Rattle.std.proofs.lemmas.List.{append-nil, map-append, drop_more, drop_all, drop-drop}
use Rattle.wm_wire.specs.Spelling.{BeginsWith}
use Rattle.wm_wire.specs.declared.wire.Wire.{Ghosts}
use Rattle.wm_journal.specs.Records.{gated, with_open_gates, HoldsRecords}
use Rattle.wm_journal.specs.laws.Records.{gated-append}
use Rattle.wm_journal.specs.laws.OneList.{remains}

module _ {V : Type 0} (wire : Ghosts V) where
  abbrev text : List V → List ℕ
  text vs = gated wire.spelling (with_open_gates vs)

  text_push : (vs : List V) (v : V) (rest : List ℕ) → text (vs ++ v ∷ []) ++ rest ≡ text vs ++ (165 ∷ wire.spelling v ++ rest)
  text_push vs v rest =
      ap (λ (l : List (ℕ × V)). gated wire.spelling l ++ rest) (map-append (λ w. (165, w)) vs (v ∷ []))
      ∙ gated-append wire.spelling (with_open_gates vs) ((165, v) ∷ []) rest
      ∙ ap (λ (l : List ℕ). text vs ++ (165 ∷ l ++ rest)) (append-nil (wire.spelling v))

  -- a closed gate ends the journal
  pub read_end : (bytes : List ℕ) (at : ℕ) (vs : List V) → at < length bytes → get_or bytes at 0 ≢ 165 → AllByRecursion wire.fits vs → bytes ≡ text vs ++ drop at bytes → HoldsRecords wire vs bytes
  read_end bytes at vs lt shut fit parts = record {
    fit = fit;
    gate = get_or bytes at 0;
    behind = drop (at + 1) bytes;
    closed = shut;
    parts = parts ∙ ap (λ (l : List ℕ). text vs ++ l) (drop_more bytes at 0 lt);
  }

  -- what stands from an open gate on
  pub open_gate : (bytes : List ℕ) (at : ℕ) (vs : List V) → at < length bytes → get_or bytes at 0 ≡ 165 → bytes ≡ text vs ++ drop at bytes → bytes ≡ text vs ++ 165 ∷ drop (at + 1) bytes
  open_gate bytes at vs lt is_open parts = parts ∙ ap (λ (l : List ℕ). text vs ++ l) (drop_more bytes at 0 lt ∙ ap (λ (x : ℕ). x ∷ drop (at + 1) bytes) is_open)

  -- one record more is read
  pub read_next : (bytes : List ℕ) (at n : ℕ) (v : V) (vs : List V) → at < length bytes → get_or bytes at 0 ≡ 165 → BeginsWith wire.fits wire.spelling (drop (at + 1) bytes) v n → bytes ≡ text vs ++ drop at bytes
      → bytes ≡ text (vs ++ v ∷ []) ++ drop (at + (1 + n)) bytes
  read_next bytes at n v vs lt is_open begins parts =
      let further : drop n (drop (at + 1) bytes) ≡ drop (at + (1 + n)) bytes = drop-drop n (at + 1) bytes ∙ ap (λ (k : ℕ). drop k bytes) (omega arith) in
      open_gate bytes at vs lt is_open parts
      ∙ ap (λ (l : List ℕ). text vs ++ 165 ∷ l) (begins.parts ∙ ap (λ (l : List ℕ). wire.spelling v ++ l) further)
      ∙ sym (text_push vs v (drop (at + (1 + n)) bytes))

  module _ (alone : (x y : V) (a b : List ℕ) → wire.fits x → wire.fits y → wire.spelling x ++ a ≡ wire.spelling y ++ b → x ≡ y) where
    -- behind the open gate no record stands
    pub read_none : (bytes : List ℕ) (at : ℕ) (vs ws : List V) → at < length bytes → get_or bytes at 0 ≡ 165 → AllByRecursion wire.fits ws → bytes ≡ text ws ++ drop at bytes → HoldsRecords wire vs bytes
        → ((v : V) (rest : List ℕ) → wire.fits v → drop (at + 1) bytes ≡ wire.spelling v ++ rest → ⊥) → ⊥
    read_none bytes at vs ws lt is_open fit parts h none =
        let r = remains wire alone vs ws (165 ∷ drop (at + 1) bytes) bytes fit h (open_gate bytes at ws lt is_open parts) in
        no_record r.0 r.1
      where
        no_record : (us : List V) → HoldsRecords wire us (165 ∷ drop (at + 1) bytes) → ⊥
        no_record [] left = let e : 165 ∷ drop (at + 1) bytes ≡ left.gate ∷ left.behind = left.parts in left.closed cc
        no_record (u ∷ us) left =
            let e : 165 ∷ drop (at + 1) bytes ≡ 165 ∷ (wire.spelling u ++ text us) ++ left.gate ∷ left.behind = left.parts in
            let t : drop (at + 1) bytes ≡ (wire.spelling u ++ text us) ++ left.gate ∷ left.behind = cc in
            none u (text us ++ left.gate ∷ left.behind) left.fit.0 (t ∙ append_assoc (wire.spelling u) (text us) (left.gate ∷ left.behind))

    -- no gate is closed
    pub read_past : (bytes : List ℕ) (at : ℕ) (vs ws : List V) → length bytes ≤ at → AllByRecursion wire.fits ws → bytes ≡ text ws ++ drop at bytes → HoldsRecords wire vs bytes → ⊥
    read_past bytes at vs ws le fit parts h =
        let r = remains wire alone vs ws [] bytes fit h (parts ∙ ap (λ (l : List ℕ). text ws ++ l) (drop_all at bytes le)) in
        nothing r.0 r.1
      where
        nothing : (us : List V) → HoldsRecords wire us [] → ⊥
        nothing [] left = let e : [] ≡ left.gate ∷ left.behind = left.parts in cc
        nothing (u ∷ us) left = let e : [] ≡ 165 ∷ (wire.spelling u ++ text us) ++ left.gate ∷ left.behind = left.parts in cc
