-- What a write inside an area leaves as it was, and what stands behind its place.
use Rattle.std.proofs.Common.{◌≡◌, ℕ, zero, suc, ◌+◌, ◌-◌, ◌<◌, ◌≤◌, List, [], ◌∷◌, ◌++◌, length, set, take, drop, refl, sym, ◌∙◌, ap, arith, append_assoc}
use Rattle.std.proofs.lemmas.List.{drop_at, take-take, drop-take, drop-drop, length-take-le, set_split}
use Rattle.wm_disk.specs.Contents.{overwritten, Torn}
use Rattle.wm_journal.specs.Areas.{area, SameOutside}

pub same_itself : (offset len : ℕ) (c : List ℕ) → SameOutside offset len c c
same_itself offset len c = record { before = refl; behind = refl; size = refl }

pub same_twice : (offset len : ℕ) (a b c : List ℕ) → SameOutside offset len a b → SameOutside offset len b c → SameOutside offset len a c
same_twice offset len a b c h k = record { before = k.before ∙ h.before; behind = k.behind ∙ h.behind; size = k.size ∙ h.size }

module _ (offset len place n : ℕ) (old new : List ℕ) (within : place + n ≤ len) (lies : offset + len ≤ length old) (torn : Torn (offset + place) n old new) where
  pub torn_outside : SameOutside offset len old new
  torn_outside = record {
    before = sym (take-take offset (offset + place) new (omega arith)) ∙ ap (λ (l : List ℕ). take offset l) torn.before ∙ take-take offset (offset + place) old (omega arith);
    behind =
        let gap = len - (place + n) in
        let e : offset + place + n + gap ≡ offset + len = omega arith in
        ap (λ (k : ℕ). drop k new) (sym e) ∙ sym (drop-drop gap (offset + place + n) new) ∙ ap (λ (l : List ℕ). drop gap l) torn.after ∙ drop-drop gap (offset + place + n) old ∙ ap (λ (k : ℕ). drop k old) e;
    size = omega (arith, torn.no_shorter, torn.no_longer);
  }

-- what stands behind that prefix after the write
pub written_behind : (offset len place : ℕ) (old bytes : List ℕ) → place + length bytes ≤ len → offset + len ≤ length old
    → (rest : List ℕ) × (drop place (area offset len (overwritten old (offset + place) bytes)) ≡ bytes ++ rest)
written_behind offset len place old bytes within lies =
    let n = length bytes in
    let c = overwritten old (offset + place) bytes in
    let tail = drop (offset + place + n) old in
    let e : place + (len - place) ≡ len = omega arith in
    let front : length (take (offset + place) old) ≡ offset + place = length-take-le (offset + place) old (omega arith) in
    let behind : drop (offset + place) c ≡ bytes ++ tail = ap (λ (l : List ℕ). drop (offset + place) l) (append_assoc (take (offset + place) old) bytes tail) ∙ drop_at (take (offset + place) old) (bytes ++ tail) (offset + place) front in
    let m = len - place in (
      take (m - n) tail,
      ap (λ (k : ℕ). drop place (take k (drop offset c))) (sym e) ∙ drop-take place m (drop offset c) ∙ ap (λ (l : List ℕ). take m l) (drop-drop place offset c ∙ behind) ∙ take_past bytes tail m (m - n) (omega (arith, e, within)),
    )
  where
    take_past : (xs ys : List ℕ) (k j : ℕ) → k ≡ length xs + j → take k (xs ++ ys) ≡ xs ++ take j ys
    take_past [] ys k j is = let same : k ≡ j = omega arith in ap (λ (i : ℕ). take i ys) same
    take_past (x ∷ xs) ys zero j is = absurd (omega arith)
    take_past (x ∷ xs) ys (suc k) j is = ap (λ (l : List ℕ). x ∷ l) (take_past xs ys k j (omega arith))

pub overwritten_one : (at b : ℕ) (c : List ℕ) → at < length c → overwritten c at (b ∷ []) ≡ set c at b
overwritten_one at b c lt =
    let e : at + 1 ≡ suc at = omega arith in
    append_assoc (take at c) (b ∷ []) (drop (at + 1) c) ∙ ap (λ (n : ℕ). take at c ++ b ∷ drop n c) e ∙ sym (set_split c at b lt)
