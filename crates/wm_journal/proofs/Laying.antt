-- How records lie in a journal.
use Rattle.std.proofs.Common.{◌≡◌, ◌≢◌, inl, inr, ℕ, zero, suc, ◌+◌, ◌-◌, ◌<◌, ◌≤◌, List, [], ◌∷◌, ◌++◌, length, map, get_or, set, take, refl, sym, ◌∙◌, ap, arith, append_assoc, length-append}
use Rattle.std.specs.List.{AllByRecursion}
use Rattle.std.proofs.lemmas.Bool.{cases_eq}
use Rattle.std.proofs.lemmas.Grind.{flat_map-append}
use Rattle.std.proofs.lemmas.List.{set-append_right, append-nil}
use Rattle.wm_journal.specs.Records.{gated, with_open_gates, taken, gate_places, group}
use Rattle.wm_journal.specs.laws.Records.{gated-append, length-opened}

pub AllByRecursion-take : {V : Type 0} (P : V → Type 0) (vs ws : List V) (k : ℕ) → AllByRecursion P (vs ++ ws) → AllByRecursion P (vs ++ take k ws)
AllByRecursion-take P [] [] zero all = all
AllByRecursion-take P [] [] (suc k) all = all
AllByRecursion-take P [] (w ∷ ws) zero all = tt
AllByRecursion-take P [] (w ∷ ws) (suc k) all = (all.0, AllByRecursion-take P [] ws k all.1)
AllByRecursion-take P (v ∷ vs) ws k all = (all.0, AllByRecursion-take P vs ws k all.1)

pub AllByRecursion-append : {V : Type 0} (P : V → Type 0) (vs ws : List V) → AllByRecursion P vs → AllByRecursion P ws → AllByRecursion P (vs ++ ws)
AllByRecursion-append P [] ws h k = k
AllByRecursion-append P (v ∷ vs) ws h k = (h.0, AllByRecursion-append P vs ws h.1 k)

-- another byte in the i-th gate
abbrev pub put_gate : {V : Type 0} → ℕ → ℕ → List (ℕ × V) → List (ℕ × V)
put_gate i b [] = []
put_gate zero b (p ∷ ps) = (b, p.1) ∷ ps
put_gate (suc i) b (p ∷ ps) = p ∷ put_gate i b ps

pub named-put_gate : {V : Type 0} (i b : ℕ) (ps : List (ℕ × V)) → map (λ r. r.1) (put_gate i b ps) ≡ map (λ r. r.1) ps
named-put_gate zero b [] = refl
named-put_gate (suc i) b [] = refl
named-put_gate zero b (p ∷ ps) = refl
named-put_gate (suc i) b (p ∷ ps) = ap (λ l. p.1 ∷ l) (named-put_gate i b ps)

module _ {V : Type 0} (spelling : V → List ℕ) where
  pub taken-take : (vs : List V) (i : ℕ) → i < length vs → taken spelling (take i vs) < taken spelling vs
  taken-take [] i lt = absurd (omega arith)
  taken-take (v ∷ vs) zero lt = omega arith
  taken-take (v ∷ vs) (suc i) lt = omega (arith, taken-take vs i (omega arith))

  -- ---- the places of gates

  pub gate_places-append : (at : ℕ) (vs : List V) (v : V) → gate_places spelling at (vs ++ v ∷ []) ≡ gate_places spelling at vs ++ (at + taken spelling vs) ∷ []
  gate_places-append at [] v = let e : at ≡ at + 0 = omega arith in ap (λ (n : ℕ). n ∷ []) e
  gate_places-append at (w ∷ vs) v =
      let e : at + 1 + length (spelling w) + taken spelling vs ≡ at + (1 + length (spelling w) + taken spelling vs) = omega arith in
      ap (λ (l : List ℕ). at ∷ l) (gate_places-append (at + 1 + length (spelling w)) vs v ∙ ap (λ (n : ℕ). gate_places spelling (at + 1 + length (spelling w)) vs ++ n ∷ []) e)

  pub length-gate_places : (at : ℕ) (vs : List V) → length (gate_places spelling at vs) ≡ length vs
  length-gate_places at [] = refl
  length-gate_places at (v ∷ vs) = omega (arith, length-gate_places (at + 1 + length (spelling v)) vs)

  -- the place of the i-th gate
  pub gate_place : (at : ℕ) (vs : List V) (i d : ℕ) → i < length vs → get_or (gate_places spelling at vs) i d ≡ at + taken spelling (take i vs)
  gate_place at [] i d lt = absurd (omega arith)
  gate_place at (v ∷ vs) zero d lt = omega arith
  gate_place at (v ∷ vs) (suc i) d lt = omega (arith, gate_place (at + 1 + length (spelling v)) vs i d (omega arith))

  -- the gates of a group stand before its end
  pub gates_below : (at : ℕ) (vs : List V) (i : ℕ) → i < length (gate_places spelling at vs) → get_or (gate_places spelling at vs) i 0 < at + taken spelling vs
  gates_below at vs i lt =
      let l : i < length vs = omega (arith, lt, length-gate_places at vs) in
      omega (arith, gate_place at vs i 0 l, taken-take vs i l)

  -- ---- a group behind a closed gate

  -- the gate before the group stands before its first record, a closed one before each further one
  abbrev pub under : ℕ → List V → List (ℕ × V)
  under gate [] = []
  under gate (v ∷ vs) = (gate, v) ∷ under 0 vs

  -- the gate behind the group
  abbrev pub last_gate : ℕ → List V → ℕ
  last_gate gate [] = gate
  last_gate gate (v ∷ vs) = last_gate 0 vs

  pub named-under : (gate : ℕ) (vs : List V) → map (λ r. r.1) (under gate vs) ≡ vs
  named-under gate [] = refl
  named-under gate (v ∷ vs) = ap (λ (l : List V). v ∷ l) (named-under 0 vs)

  pub last_closed : (gate : ℕ) (vs : List V) → gate ≢ 165 → last_gate gate vs ≢ 165
  last_closed gate [] shut = shut
  last_closed gate (v ∷ vs) shut = last_closed 0 vs (λ e. omega (arith, e))

  pub group_laid : (gate : ℕ) (vs : List V) (rest : List ℕ) → gate ∷ group spelling vs ++ rest ≡ gated spelling (under gate vs) ++ last_gate gate vs ∷ rest
  group_laid gate [] rest = refl
  group_laid gate (v ∷ vs) rest =
      ap (λ (l : List ℕ). gate ∷ l ++ rest) (append_assoc (spelling v) (0 ∷ []) (group spelling vs))
      ∙ ap (λ (l : List ℕ). gate ∷ l) (append_assoc (spelling v) (0 ∷ group spelling vs) rest ∙ ap (λ (l : List ℕ). spelling v ++ l) (group_laid 0 vs rest) ∙ sym (append_assoc (spelling v) (gated spelling (under 0 vs)) (last_gate 0 vs ∷ rest)))

  pub group-append : (vs : List V) (v : V) → group spelling (vs ++ v ∷ []) ≡ (group spelling vs ++ spelling v) ++ 0 ∷ []
  group-append vs v = flat_map-append (λ w. spelling w ++ 0 ∷ []) vs (v ∷ []) ∙ ap (λ (l : List ℕ). group spelling vs ++ l) (append-nil (spelling v ++ 0 ∷ [])) ∙ sym (append_assoc (group spelling vs) (spelling v) (0 ∷ []))

  pub length-group : (vs : List V) → length (group spelling vs) ≡ taken spelling vs
  length-group [] = refl
  length-group (v ∷ vs) = omega (arith, length-append (spelling v ++ 0 ∷ []) (group spelling vs), length-append (spelling v) (0 ∷ []), length-group vs)

  -- ---- another byte in a gate

  gated_set : (ps : List (ℕ × V)) (i b : ℕ) (rest : List ℕ) → i < length ps → set (gated spelling ps ++ rest) (taken spelling (take i (map (λ r. r.1) ps))) b ≡ gated spelling (put_gate i b ps) ++ rest
  gated_set [] i b rest lt = absurd (omega arith)
  gated_set (p ∷ ps) zero b rest lt = refl
  gated_set (p ∷ ps) (suc i) b rest lt =
      let front = p.0 ∷ spelling p.1 in
      let j = taken spelling (take i (map (λ r. r.1) ps)) in
      let n = 1 + length (spelling p.1) in
      let e : n + j - n ≡ j = omega arith in
      ap (λ (l : List ℕ). set l (n + j) b) (append_assoc front (gated spelling ps) rest)
      ∙ set-append_right front (gated spelling ps ++ rest) n (n + j) b (omega arith) (omega arith)
      ∙ ap (λ (k : ℕ). front ++ set (gated spelling ps ++ rest) k b) e
      ∙ ap (λ (l : List ℕ). front ++ l) (gated_set ps i b rest (omega arith))
      ∙ sym (append_assoc front (gated spelling (put_gate i b ps)) rest)

  pub staged_set : (held : List V) (ps : List (ℕ × V)) (i b : ℕ) (rest : List ℕ) → i < length ps → set (gated spelling (with_open_gates held ++ ps) ++ rest) (taken spelling held + taken spelling (take i (map (λ r. r.1) ps))) b ≡ gated spelling (with_open_gates held ++ put_gate i b ps) ++ rest
  staged_set held ps i b rest lt =
      let front = gated spelling (with_open_gates held) in
      let j = taken spelling (take i (map (λ r. r.1) ps)) in
      let n = taken spelling held in
      let e : n + j - n ≡ j = omega arith in
      ap (λ (l : List ℕ). set l (n + j) b) (gated-append spelling (with_open_gates held) ps rest)
      ∙ set-append_right front (gated spelling ps ++ rest) n (n + j) b (length-opened spelling held) (omega arith)
      ∙ ap (λ (k : ℕ). front ++ set (gated spelling ps ++ rest) k b) e
      ∙ ap (λ (l : List ℕ). front ++ l) (gated_set ps i b rest lt)
      ∙ sym (gated-append spelling (with_open_gates held) (put_gate i b ps) rest)

  -- one gate more is open
  pub opened_one_more : (ps : List (ℕ × V)) (i : ℕ) → i < length ps → take i ps ≡ with_open_gates (take i (map (λ r. r.1) ps)) → take (suc i) (put_gate i 165 ps) ≡ with_open_gates (take (suc i) (map (λ r. r.1) ps))
  opened_one_more [] i lt so_far = absurd (omega arith)
  opened_one_more (p ∷ ps) zero lt so_far = refl
  opened_one_more (p ∷ ps) (suc i) lt so_far =
      let k : p ∷ take i ps ≡ (165, p.1) ∷ with_open_gates (take i (map (λ r. r.1) ps)) = so_far in
      let head : p ≡ (165, p.1) = cc in
      let tail : take i ps ≡ with_open_gates (take i (map (λ r. r.1) ps)) = cc in
      ap (λ (q : ℕ × V). q ∷ take (suc i) (put_gate i 165 ps)) head ∙ ap (λ (l : List (ℕ × V)). (165, p.1) ∷ l) (opened_one_more ps i (omega arith) tail)

  -- ---- under any gates a prefix of the records counts

  pub record Cut (ps : List (ℕ × V)) (bytes : List ℕ) : Type 0 where
    pub count : ℕ
    pub within : count ≤ length ps
    pub gate : ℕ
    pub behind : List ℕ
    pub closed : gate ≢ 165
    pub parts : bytes ≡ gated spelling (with_open_gates (take count (map (λ r. r.1) ps))) ++ gate ∷ behind

  pub cut : (ps : List (ℕ × V)) (gate : ℕ) (behind : List ℕ) → gate ≢ 165 → Cut ps (gated spelling ps ++ gate ∷ behind)
  cut [] gate behind shut = record { count = 0; within = omega arith; gate = gate; behind = behind; closed = shut; parts = refl }
  cut (p ∷ ps) gate behind shut = elim (cases_eq p.0 165) [
    | inl is_open ↦
        let c = cut ps gate behind shut in
        let front = λ (x : ℕ). x ∷ spelling p.1 in
        record {
          count = suc c.count;
          within = omega (arith, c.within);
          gate = c.gate;
          behind = c.behind;
          closed = c.closed;
          parts = ap (λ (x : ℕ). (front x ++ gated spelling ps) ++ gate ∷ behind) is_open
              ∙ append_assoc (front 165) (gated spelling ps) (gate ∷ behind)
              ∙ ap (λ (l : List ℕ). front 165 ++ l) c.parts
              ∙ sym (append_assoc (front 165) (gated spelling (with_open_gates (take c.count (map (λ r. r.1) ps)))) (c.gate ∷ c.behind));
        }
    | inr closed ↦ record {
      count = 0;
      within = omega arith;
      gate = p.0;
      behind = (spelling p.1 ++ gated spelling ps) ++ gate ∷ behind;
      closed = closed;
      parts = refl;
    }
  ]
