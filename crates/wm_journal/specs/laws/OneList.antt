-- No two lists of records stand in one journal.
use Rattle.std.proofs.Common.{◌≡◌, ℕ, List, [], ◌∷◌, ◌++◌, refl, sym, ◌∙◌, ap, subst, append_assoc}
use Rattle.std.specs.List.{AllByRecursion}
use Rattle.std.proofs.lemmas.List.{append-nil, append_cancel_left}
use Rattle.wm_wire.specs.declared.wire.Wire.{Ghosts}
use Rattle.wm_journal.specs.Records.{gated, with_open_gates, HoldsRecords}

module _ {V : Type 0} (wire : Ghosts V) where
  abbrev text : List V → List ℕ
  text vs = gated wire.spelling (with_open_gates vs)

  module _ (alone : (x y : V) (a b : List ℕ) → wire.fits x → wire.fits y → wire.spelling x ++ a ≡ wire.spelling y ++ b → x ≡ y) where
    -- records in front of a journal are the first of its records
    pub remains : (vs ws : List V) (rest bytes : List ℕ) → AllByRecursion wire.fits ws → HoldsRecords wire vs bytes → bytes ≡ text ws ++ rest → (us : List V) × HoldsRecords wire us rest × (vs ≡ ws ++ us)
    remains vs [] rest bytes fit h e = (vs, subst (λ (l : List ℕ). HoldsRecords wire vs l) e h, refl)
    remains [] (w ∷ ws) rest bytes fit h e =
        let k : h.gate ∷ h.behind ≡ 165 ∷ (wire.spelling w ++ text ws) ++ rest = sym h.parts ∙ e in
        absurd (h.closed cc)
    remains (v ∷ vs) (w ∷ ws) rest bytes fit h e =
        let tail = text vs ++ h.gate ∷ h.behind in
        let k : 165 ∷ wire.spelling v ++ tail ≡ 165 ∷ wire.spelling w ++ (text ws ++ rest) =
        ap (λ (l : List ℕ). 165 ∷ l) (sym (append_assoc (wire.spelling v) (text vs) (h.gate ∷ h.behind))) ∙ sym h.parts ∙ e ∙ ap (λ (l : List ℕ). 165 ∷ l) (append_assoc (wire.spelling w) (text ws) rest) in
        let t : wire.spelling v ++ tail ≡ wire.spelling w ++ (text ws ++ rest) = cc in
        let same : v ≡ w = alone v w tail (text ws ++ rest) h.fit.0 fit.0 t in
        let u : wire.spelling w ++ tail ≡ wire.spelling w ++ (text ws ++ rest) = ap (λ (x : V). wire.spelling x ++ tail) (sym same) ∙ t in
        let further = remains vs ws rest tail fit.1 (record { fit = h.fit.1; gate = h.gate; behind = h.behind; closed = h.closed; parts = refl }) (append_cancel_left (wire.spelling w) tail (text ws ++ rest) u) in
        (further.0, further.1, ap (λ (x : V). x ∷ vs) same ∙ ap (λ (l : List V). w ∷ l) further.2)

    -- no two lists of records stand in one journal
    pub one_list : (vs ws : List V) (bytes : List ℕ) → HoldsRecords wire vs bytes → HoldsRecords wire ws bytes → vs ≡ ws
    one_list vs ws bytes h k =
        let r = remains vs ws (k.gate ∷ k.behind) bytes k.fit h k.parts in
        r.2 ∙ ap (λ (l : List V). ws ++ l) (none_closed r.0 r.1) ∙ append-nil ws
      where
        none_closed : (us : List V) → HoldsRecords wire us (k.gate ∷ k.behind) → us ≡ []
        none_closed [] left = refl
        none_closed (u ∷ us) left = let e : k.gate ∷ k.behind ≡ 165 ∷ (wire.spelling u ++ text us) ++ left.gate ∷ left.behind = left.parts in absurd (k.closed cc)
