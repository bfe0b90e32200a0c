-- What a list is once an item is taken out of it or replaced.
use Rattle.std.proofs.Common.{◌≡◌, ℕ, zero, suc, ◌+◌, ◌^◌, ◌<◌, List, [], ◌∷◌, length, get_or, set, flat_map, arith}
use Rattle.std.proofs.lemmas.List.{length-append, length-set}
use Rattle.std.proofs.lemmas.List.Edits.{length-remove}
use Rattle.std.specs.List.{AllByRecursion, remove}
use Rattle.wm_wire.specs.Spelling.{IsList, list_spelling}

-- without the item at i, the items have as many bytes fewer as that item has
length-flat_map-remove : {V : Type 0} (spelling : V → List ℕ) (items : List V) (i : ℕ) (d : V) → i < length items → length (flat_map spelling (remove items i)) + length (spelling (get_or items i d)) ≡ length (flat_map spelling items)
length-flat_map-remove spelling [] i d lt = absurd (omega arith)
length-flat_map-remove spelling (x ∷ xs) zero d lt = omega (arith, length-append (spelling x) (flat_map spelling xs))
length-flat_map-remove spelling (x ∷ xs) (suc i) d lt =
    omega (arith, length-append (spelling x) (flat_map spelling xs), length-append (spelling x) (flat_map spelling (remove xs i)), length-flat_map-remove spelling xs i d (omega arith))

-- with another item at i, they have its bytes in the place of the other's
length-flat_map-set : {V : Type 0} (spelling : V → List ℕ) (items : List V) (i : ℕ) (value d : V) → i < length items → length (flat_map spelling (set items i value)) + length (spelling (get_or items i d)) ≡ length (flat_map spelling items) + length (spelling value)
length-flat_map-set spelling [] i value d lt = absurd (omega arith)
length-flat_map-set spelling (x ∷ xs) zero value d lt =
    omega (arith, length-append (spelling x) (flat_map spelling xs), length-append (spelling value) (flat_map spelling xs))
length-flat_map-set spelling (x ∷ xs) (suc i) value d lt =
    omega (arith, length-append (spelling x) (flat_map spelling xs), length-append (spelling x) (flat_map spelling (set xs i value)), length-flat_map-set spelling xs i value d (omega arith))

-- what fits each item fits each of the others
AllByRecursion-remove : {V : Type 0} (fits : V → Type 0) (items : List V) (i : ℕ) → i < length items → AllByRecursion fits items → AllByRecursion fits (remove items i)
AllByRecursion-remove fits [] i lt h = absurd (omega arith)
AllByRecursion-remove fits (x ∷ xs) zero lt h = h.1
AllByRecursion-remove fits (x ∷ xs) (suc i) lt h = (h.0, AllByRecursion-remove fits xs i (omega arith) h.1)

-- and each of them with one more that it fits
AllByRecursion-set : {V : Type 0} (fits : V → Type 0) (items : List V) (i : ℕ) (value : V) → fits value → AllByRecursion fits items → AllByRecursion fits (set items i value)
AllByRecursion-set fits [] i value known h = h
AllByRecursion-set fits (x ∷ xs) zero value known h = (known, h.1)
AllByRecursion-set fits (x ∷ xs) (suc i) value known h = (h.0, AllByRecursion-set fits xs i value known h.1)

-- the spelling without the item at i
pub length-list_spelling-remove : {V : Type 0} (spelling : V → List ℕ) (items : List V) (i : ℕ) (d : V) → i < length items → length (list_spelling spelling (remove items i)) + length (spelling (get_or items i d)) ≡ length (list_spelling spelling items)
length-list_spelling-remove spelling items i d lt = omega (arith, length-flat_map-remove spelling items i d lt)

-- the spelling with another item at i
pub length-list_spelling-set : {V : Type 0} (spelling : V → List ℕ) (items : List V) (i : ℕ) (value d : V) → i < length items → length (list_spelling spelling (set items i value)) + length (spelling (get_or items i d)) ≡ length (list_spelling spelling items) + length (spelling value)
length-list_spelling-set spelling items i value d lt = omega (arith, length-flat_map-set spelling items i value d lt)

pub IsList-remove : {V : Type 0} (max : ℕ) (fits : V → Type 0) (spelling : V → List ℕ) (items : List V) (i : ℕ) (d : V) → i < length items → IsList max fits spelling items → IsList max fits spelling (remove items i)
IsList-remove max fits spelling items i d lt h =
    let fewer = length-remove items i lt in
    record {
      count = omega (arith, fewer, h.count);
      below = omega (arith, fewer, h.below);
      each = AllByRecursion-remove fits items i lt h.each;
      short = omega (arith, length-list_spelling-remove spelling items i d lt, h.short);
    }

pub IsList-set : {V : Type 0} (max : ℕ) (fits : V → Type 0) (spelling : V → List ℕ) (items : List V) (i : ℕ) (value : V) → fits value → length (list_spelling spelling (set items i value)) < 2 ^ 32 → IsList max fits spelling items → IsList max fits spelling (set items i value)
IsList-set max fits spelling items i value known short h =
    let same = length-set items i value in
    record {
      count = omega (arith, same, h.count);
      below = omega (arith, same, h.below);
      each = AllByRecursion-set fits items i value known h.each;
      short = short;
    }
