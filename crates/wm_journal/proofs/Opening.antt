-- What a crash leaves while the gates of a group are opened.
use Rattle.std.proofs.Common.{◌≡◌, ℕ, suc, ◌+◌, ◌<◌, ◌≤◌, List, [], ◌∷◌, ◌++◌, length, map, get_or, set, take, refl, sym, ◌∙◌, ap, subst, arith}
use Rattle.std.proofs.lemmas.List.{take_all, length-map, map-append}
use Rattle.wm_disk.specs.Contents.{overwritten, Torn, Follows}
use Rattle.wm_disk.specs.declared.disk.Disk as disks
use Rattle.wm_wire.specs.declared.wire.Wire.{Ghosts}
use Rattle.wm_journal.specs.Areas.{area, SameOutside}
use Rattle.wm_journal.specs.Records.{gated, with_open_gates, HoldsRecords, Stages, taken, gate_places}
use Rattle.wm_journal.specs.Gates.{IsUnderGates, IsOpenTo}
use Rattle.wm_journal.specs.Regions.{IsStaged, HoldsPrefix}
use Rattle.wm_journal.specs.declared.region.Region.{Region}
use Rattle.wm_journal.proofs.Contents.{torn_byte, set_area, set_outside}
use Rattle.wm_journal.specs.laws.Areas.{same_itself, same_twice, overwritten_one}
use Rattle.wm_journal.proofs.Laying.{length-gate_places, gate_place, put_gate, named-put_gate, staged_set, opened_one_more, cut, AllByRecursion-take}
use Rattle.wm_journal.specs.laws.Records.{gated-append}

pub written_outside : (offset len place b : ℕ) (c d : List ℕ) → place < len → offset + len ≤ length c → d ≡ overwritten c (offset + place) (b ∷ []) → SameOutside offset len c d
written_outside offset len place b c d inside lies eq =
    subst (λ (x : List ℕ). SameOutside offset len c x) (sym (eq ∙ overwritten_one (offset + place) b c (omega (arith, lies, inside)))) (set_outside offset len place b c inside)

module _ {V : Type 0} (wire : Ghosts V) (held added : List V) where
  -- the place of the i-th gate
  abbrev pub gate_at : ℕ → ℕ
  gate_at i = taken wire.spelling held + taken wire.spelling (take i added)

  length-staged : (bytes : List ℕ) (s : Stages wire held added bytes) → length s.staged ≡ length added
  length-staged bytes s = sym (length-map s.staged (λ r. r.1)) ∙ ap length s.are_added

  stages_set : (bytes : List ℕ) (i b : ℕ) → Stages wire held added bytes → i < length added → Stages wire held added (set bytes (gate_at i) b)
  stages_set bytes i b s lt =
      let place : gate_at i ≡ taken wire.spelling held + taken wire.spelling (take i (map (λ r. r.1) s.staged)) = ap (λ (l : List V). taken wire.spelling held + taken wire.spelling (take i l)) (sym s.are_added) in
      record {
        fit = s.fit;
        staged = put_gate i b s.staged;
        are_added = named-put_gate i b s.staged ∙ s.are_added;
        gate = s.gate;
        behind = s.behind;
        closed = s.closed;
        parts = ap (λ (l : List ℕ). set l (gate_at i) b) s.parts
            ∙ ap (λ (k : ℕ). set (gated wire.spelling (with_open_gates held ++ s.staged) ++ s.gate ∷ s.behind) k b) place
            ∙ staged_set wire.spelling held s.staged i b (s.gate ∷ s.behind) (omega (arith, lt, length-staged bytes s));
      }

  -- all gates are open
  stages_open : (bytes : List ℕ) (s : Stages wire held added bytes) → s.staged ≡ with_open_gates added → HoldsRecords wire (held ++ added) bytes
  stages_open bytes s all = record {
    fit = s.fit;
    gate = s.gate;
    behind = s.behind;
    closed = s.closed;
    parts = s.parts ∙ ap (λ (l : List (ℕ × V)). gated wire.spelling l ++ s.gate ∷ s.behind) (ap (λ (l : List (ℕ × V)). with_open_gates held ++ l) all ∙ sym (map-append (λ v. (165, v)) held added));
  }

  -- under any gates a prefix of the group counts
  pub stages_cut : (bytes : List ℕ) → Stages wire held added bytes → (count : ℕ) × (count ≤ length added) × HoldsRecords wire (held ++ take count added) bytes
  stages_cut bytes s =
      let c = cut wire.spelling s.staged s.gate s.behind s.closed in
      let front = gated wire.spelling (with_open_gates held) in
      let text = λ (l : List V). gated wire.spelling (with_open_gates (take c.count l)) in (
        c.count,
        omega (arith, c.within, length-staged bytes s),
        record {
          fit = AllByRecursion-take wire.fits held added c.count s.fit;
          gate = c.gate;
          behind = c.behind;
          closed = c.closed;
          parts = s.parts
              ∙ gated-append wire.spelling (with_open_gates held) s.staged (s.gate ∷ s.behind)
              ∙ ap (λ (l : List ℕ). front ++ l) (c.parts ∙ ap (λ (l : List V). text l ++ c.gate ∷ c.behind) s.are_added)
              ∙ sym (gated-append wire.spelling (with_open_gates held) (with_open_gates (take c.count added)) (c.gate ∷ c.behind))
              ∙ ap (λ (l : List (ℕ × V)). gated wire.spelling l ++ c.gate ∷ c.behind) (sym (map-append (λ v. (165, v)) held (take c.count added)));
        },
      )

  module _ (offset len : ℕ) (before : List ℕ) where
    abbrev Under : List ℕ → Type 0
    Under = IsUnderGates wire offset len before held added

    under_set : (c : List ℕ) (i b : ℕ) → Under c → i < length added → gate_at i < len → Under (set c (offset + gate_at i) b)
    under_set c i b u lt inside =
        let s = stages_set (area offset len c) i b u.stages lt in
        record {
          outside = same_twice offset len before c (set c (offset + gate_at i) b) u.outside (set_outside offset len (gate_at i) b c inside);
          stages = record {
            fit = s.fit;
            staged = s.staged;
            are_added = s.are_added;
            gate = s.gate;
            behind = s.behind;
            closed = s.closed;
            parts = set_area offset len (gate_at i) b c ∙ s.parts;
          };
        }

    -- a gate's write that was cut short
    under_torn : (c d : List ℕ) (i : ℕ) → Under c → i < length added → gate_at i < len → offset + len ≤ length before → Torn (offset + gate_at i) 1 c d → Under d
    under_torn c d i u lt inside lies torn =
        subst Under (sym (torn_byte (offset + gate_at i) c d (omega (arith, u.outside.size, lies, inside)) torn)) (under_set c i (get_or d (offset + gate_at i) 0) u lt inside)

    -- the i-th place
    pub place_is : (gates : List ℕ) (i : ℕ) → gates ≡ gate_places wire.spelling (taken wire.spelling held) added → i < length gates → (i < length added) × (get_or gates i 0 ≡ gate_at i)
    place_is gates i is lt =
        let l : i < length added = omega (arith, lt, ap length is, length-gate_places wire.spelling (taken wire.spelling held) added) in
        (l, ap (λ (g : List ℕ). get_or g i 0) is ∙ gate_place wire.spelling (taken wire.spelling held) added i 0 l)

    -- what a crash leaves after one gate's write more
    pub crash_one : (gates : List ℕ) (i : ℕ) (old now : List ℕ → Type 0) → gates ≡ gate_places wire.spelling (taken wire.spelling held) added → i < length gates → get_or gates i 0 < len → offset + len ≤ length before
        → ((c : List ℕ) → old c → Under c) → Follows (Torn (offset + get_or gates i 0) 1) old now → (c : List ℕ) → now c → Under c
    crash_one gates i old now is lt inside lies so_far follows c left =
        let from = follows c left in
        let p = place_is gates i is lt in
        under_torn from.0 c i (so_far from.0 from.1) p.0 (subst (λ (k : ℕ). k < len) p.1 inside) lies (subst (λ (k : ℕ). Torn (offset + k) 1 from.0 c) p.1 from.2)

    pub opened_none : (c : List ℕ) → Under c → IsOpenTo wire offset len before held added 0 c
    opened_none c u = record { under = u; open_to = refl }

    abbrev Open : ℕ → List ℕ → Type 0
    Open = IsOpenTo wire offset len before held added

    pub opened_one : (gates : List ℕ) (c d : List ℕ) (i : ℕ) → gates ≡ gate_places wire.spelling (taken wire.spelling held) added → i < length gates → get_or gates i 0 < len → offset + len ≤ length c → Open i c → d ≡ overwritten c (offset + get_or gates i 0) (165 ∷ []) → Open (i + 1) d
    unfolding under_set stages_set
    opened_one gates c d i is lt inside lies o eq =
        let p = place_is gates i is lt in
        let within : gate_at i < len = subst (λ (k : ℕ). k < len) p.1 inside in
        let staged = o.under.stages.staged in
        let n : i < length staged = omega (arith, length-staged (area offset len c) o.under.stages, p.0) in
        let e : i + 1 ≡ suc i = omega arith in
        let so_far : take i staged ≡ with_open_gates (take i (map (λ r. r.1) staged)) = o.open_to ∙ ap (λ (l : List V). with_open_gates (take i l)) (sym o.under.stages.are_added) in
        let more : take (suc i) (put_gate i 165 staged) ≡ with_open_gates (take (suc i) added) = opened_one_more wire.spelling staged i n so_far ∙ ap (λ (l : List V). with_open_gates (take (suc i) l)) o.under.stages.are_added in
        let done : Open (suc i) (set c (offset + gate_at i) 165) = record { under = under_set c i 165 o.under p.0 within; open_to = more } in
        let is_set : d ≡ set c (offset + gate_at i) 165 = eq ∙ ap (λ (k : ℕ). overwritten c (offset + k) (165 ∷ [])) p.1 ∙ overwritten_one (offset + gate_at i) 165 c (omega (arith, lies, within)) in
        subst (λ (k : ℕ). Open k d) (sym e) (subst (λ (l : List ℕ). Open (suc i) l) (sym is_set) done)

    -- every gate is open
    pub opened_all : (c : List ℕ) → Open (length added) c → HoldsRecords wire (held ++ added) (area offset len c)
    opened_all c o =
        let staged = o.under.stages.staged in
        let long : length staged ≡ length added = length-staged (area offset len c) o.under.stages in
        let all : staged ≡ with_open_gates added = sym (take_all (length added) staged (omega (arith, long))) ∙ o.open_to ∙ ap (λ (l : List V). with_open_gates l) (take_all (length added) added (omega arith)) in
        stages_open (area offset len c) o.under.stages all

-- a staged journal
module _ {D V : Type 0} (disk : disks.Ghosts D) (wire : Ghosts V) (region : Region D disk) (held added : List V) where
  abbrev pub InRegion : List ℕ → Type 0
  InRegion = IsUnderGates wire region.offset region.len (disk.seen region.disk) held added

  pub staged_under : IsStaged wire region held added → InRegion (disk.seen region.disk)
  staged_under s = record { outside = same_itself region.offset region.len (disk.seen region.disk); stages = s.stages }

  pub staged_crash : (s : IsStaged wire region held added) (c : List ℕ) → disk.may_leave region.disk c → InRegion c
  staged_crash s c left = subst InRegion (sym (s.durable c left)) (staged_under s)

  pub beginning : (c : List ℕ) → InRegion c → HoldsPrefix wire region held added c
  beginning c u = let k = stages_cut wire held added (area region.offset region.len c) u.stages in record { outside = u.outside; count = k.0; within = k.1; holds = k.2 }
