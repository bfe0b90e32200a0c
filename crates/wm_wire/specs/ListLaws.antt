-- The laws of `Wire` for lists.
-- For proofs and the ghost members of impls: a reader of definitions may skip it.
use Rattle.std.proofs.Common.{◌≡◌, ℕ, ◌^◌, ◌<◌, ◌≤◌, List, [], ◌∷◌, ◌++◌, length, flat_map, refl, sym, ap, ◌∙◌, append_assoc, arith}
use Rattle.std.proofs.lemmas.List.{append-nil, append_cancel_left, length-append}
use Rattle.std.specs.List.{AllByRecursion}
use Rattle.byteorder.specs.Endian.{big_bytes}
use Rattle.wm_wire.specs.Laws.{alone_u32}
use Rattle.wm_wire.specs.Spelling.{Alone, IsList, list_spelling}

-- of two rows of items that begin the same bytes, the longer one goes on where the shorter one ends
pub record Continues {V : Type 0} (spelling : V → List ℕ) (xs ys : List V) (a b : List ℕ) : Type 0 where
  pub more : List V
  pub items : ys ≡ xs ++ more
  pub bytes : a ≡ flat_map spelling more ++ b

pub longer_continues : {V : Type 0} (fits : V → Type 0) (spelling : V → List ℕ) → Alone fits spelling → (xs ys : List V) (a b : List ℕ) → AllByRecursion fits xs → AllByRecursion fits ys → length xs ≤ length ys → flat_map spelling xs ++ a ≡ flat_map spelling ys ++ b → Continues spelling xs ys a b
longer_continues fits spelling alone [] ys a b hx hy le e = record { more = ys; items = refl; bytes = e }
longer_continues fits spelling alone (x ∷ xs) [] a b hx hy le e = absurd (omega arith)
longer_continues fits spelling alone (x ∷ xs) (y ∷ ys) a b hx hy le e =
    let apart : spelling x ++ (flat_map spelling xs ++ a) ≡ spelling y ++ (flat_map spelling ys ++ b) = sym (append_assoc (spelling x) (flat_map spelling xs) a) ∙ e ∙ append_assoc (spelling y) (flat_map spelling ys) b in
    let same : x ≡ y = alone x y (flat_map spelling xs ++ a) (flat_map spelling ys ++ b) hx.0 hy.0 apart in
    let rest : flat_map spelling xs ++ a ≡ flat_map spelling ys ++ b = append_cancel_left (spelling x) (flat_map spelling xs ++ a) (flat_map spelling ys ++ b) (apart ∙ ap (λ v. spelling v ++ (flat_map spelling ys ++ b)) (sym same)) in
    let found = longer_continues fits spelling alone xs ys a b hx.1 hy.1 (omega arith) rest in
    record {
      more = found.more;
      items = ap (λ v. v ∷ ys) (sym same) ∙ ap (λ l. x ∷ l) found.items;
      bytes = found.bytes;
    }

-- the parts of what begins with a list's spelling
pub list_parts : {V : Type 0} (spelling : V → List ℕ) (items : List V) (rest : List ℕ) → list_spelling spelling items ++ rest ≡ big_bytes 4 (length items) ++ (flat_map spelling items ++ rest)
list_parts spelling items rest = append_assoc (big_bytes 4 (length items)) (flat_map spelling items) rest

-- what goes on after a list of its own length is that list
same_length : {V : Type 0} (xs more ys : List V) → ys ≡ xs ++ more → length xs ≡ length ys → xs ≡ ys
same_length xs [] ys e same = sym (e ∙ append-nil xs)
same_length xs (m ∷ more) ys e same = absurd (omega (arith, ap length e, length-append xs (m ∷ more)))

pub alone_list : {V : Type 0} (max : ℕ) (fits : V → Type 0) (spelling : V → List ℕ) → Alone fits spelling → Alone (IsList max fits spelling) (list_spelling spelling)
alone_list max fits spelling alone x y a b hx hy e =
    let apart : big_bytes 4 (length x) ++ (flat_map spelling x ++ a) ≡ big_bytes 4 (length y) ++ (flat_map spelling y ++ b) = sym (list_parts spelling x a) ∙ e ∙ list_parts spelling y b in
    let same : length x ≡ length y = alone_u32 (length x) (length y) _ _ (omega (arith, hx.below)) (omega (arith, hy.below)) apart in
    let rest : flat_map spelling x ++ a ≡ flat_map spelling y ++ b = append_cancel_left (big_bytes 4 (length x)) (flat_map spelling x ++ a) (flat_map spelling y ++ b) (apart ∙ ap (λ n. big_bytes 4 n ++ (flat_map spelling y ++ b)) (sym same)) in
    let found = longer_continues fits spelling alone x y a b hx.each hy.each (omega (arith, same)) rest in
    same_length x found.more y found.items same

pub short_list : {V : Type 0} (max : ℕ) (fits : V → Type 0) (spelling : V → List ℕ) (x : List V) → IsList max fits spelling x → length (list_spelling spelling x) < 2 ^ 32
short_list max fits spelling x h = h.short
