-- What a write inside the area does to a content.
use Rattle.std.proofs.Common.{◌≡◌, ℕ, zero, suc, ◌+◌, ◌<◌, ◌≤◌, List, [], ◌∷◌, ◌++◌, length, get_or, set, take, drop, refl, sym, ◌∙◌, ap, arith, take-append-drop}
use Rattle.std.proofs.lemmas.List.{take-take, drop-take, drop_more, take-set-le, drop-set-lt, drop-set-add, length-set, set_split}
use Rattle.wm_disk.specs.Contents.{Torn}
use Rattle.wm_journal.specs.Areas.{area, SameOutside}

-- one byte
pub torn_byte : (at : ℕ) (old new : List ℕ) → at < length old → Torn at 1 old new → new ≡ set old at (get_or new at 0)
torn_byte at old new lt torn =
    let long : length new ≡ length old = omega (arith, torn.no_shorter, torn.no_longer) in
    let b = get_or new at 0 in
    let e : at + 1 ≡ suc at = omega arith in
    sym (take-append-drop at new) ∙ ap (λ (l : List ℕ). l ++ drop at new) torn.before ∙ ap (λ (l : List ℕ). take at old ++ l) (drop_more new at 0 (omega (arith, long)) ∙ ap (λ (l : List ℕ). b ∷ l) (torn.after ∙ ap (λ (n : ℕ). drop n old) e))
    ∙ sym (set_split old at b lt)

take_set : (n : ℕ) (l : List ℕ) (i b : ℕ) → take n (set l i b) ≡ set (take n l) i b
take_set zero [] i b = refl
take_set zero (x ∷ l) i b = refl
take_set (suc n) [] i b = refl
take_set (suc n) (x ∷ l) zero b = refl
take_set (suc n) (x ∷ l) (suc i) b = ap (λ (k : List ℕ). x ∷ k) (take_set n l i b)

pub set_area : (offset len place b : ℕ) (c : List ℕ) → area offset len (set c (offset + place) b) ≡ set (area offset len c) place b
set_area offset len place b c = ap (λ (l : List ℕ). take len l) (drop-set-add offset c place b) ∙ take_set len (drop offset c) place b

pub set_outside : (offset len place b : ℕ) (c : List ℕ) → place < len → SameOutside offset len c (set c (offset + place) b)
set_outside offset len place b c lt = record {
  before = take-set-le offset c (offset + place) b (omega arith);
  behind = drop-set-lt (offset + len) c (offset + place) b (omega arith);
  size = length-set c (offset + place) b;
}

-- a write inside the area, torn or not
module _ (offset len place n : ℕ) (old new : List ℕ) (within : place + n ≤ len) (lies : offset + len ≤ length old) (torn : Torn (offset + place) n old new) where
  -- the area begins as it did
  pub torn_front : take place (area offset len new) ≡ take place (area offset len old)
  torn_front =
      take-take place len (drop offset new) (omega arith) ∙ sym (drop-take offset place new) ∙ ap (λ (l : List ℕ). drop offset l) torn.before ∙ drop-take offset place old ∙ sym (take-take place len (drop offset old) (omega arith))
