-- How long spelled records are.
use Rattle.std.proofs.Common.{◌≡◌, ℕ, ◌+◌, List, [], ◌∷◌, ◌++◌, length, map, refl, ◌∙◌, ap, arith, append_assoc, length-append}
use Rattle.std.proofs.lemmas.Grind.{flat_map-append}
use Rattle.wm_journal.specs.Records.{gated, with_open_gates, taken}

module _ {V : Type 0} (spelling : V → List ℕ) where
  pub gated-append : (ps qs : List (ℕ × V)) (rest : List ℕ) → gated spelling (ps ++ qs) ++ rest ≡ gated spelling ps ++ (gated spelling qs ++ rest)
  gated-append ps qs rest = ap (λ (l : List ℕ). l ++ rest) (flat_map-append (λ r. r.0 ∷ spelling r.1) ps qs) ∙ append_assoc (gated spelling ps) (gated spelling qs) rest

  pub length-gated : (ps : List (ℕ × V)) → length (gated spelling ps) ≡ taken spelling (map (λ r. r.1) ps)
  length-gated [] = refl
  length-gated (p ∷ ps) = omega (arith, length-append (spelling p.1) (gated spelling ps), length-gated ps)

  pub named-opened : (vs : List V) → map (λ r. r.1) (with_open_gates vs) ≡ vs
  named-opened [] = refl
  named-opened (v ∷ vs) = ap (λ (l : List V). v ∷ l) (named-opened vs)

  pub length-opened : (vs : List V) → length (gated spelling (with_open_gates vs)) ≡ taken spelling vs
  length-opened vs = length-gated (with_open_gates vs) ∙ ap (λ (l : List V). taken spelling l) (named-opened vs)

  pub taken-append : (vs ws : List V) → taken spelling (vs ++ ws) ≡ taken spelling vs + taken spelling ws
  taken-append [] ws = omega arith
  taken-append (v ∷ vs) ws = omega (arith, taken-append vs ws)
