-- How far a list has been read.
use Rattle.std.proofs.Common.{◌≡◌, ◌⊎◌, inl, inr, ℕ, ◌+◌, ◌^◌, ◌<◌, ◌≤◌, List, [], ◌∷◌, ◌++◌, length, drop, flat_map, sym, ap, subst, ◌∙◌, append_assoc, arith}
use Rattle.std.proofs.lemmas.List.{append_cancel_left, length-append}
use Rattle.std.proofs.lemmas.Grind.{flat_map-append}
use Rattle.std.specs.List.{AllByRecursion}
use Rattle.byteorder.specs.Endian.{big_bytes}
use Rattle.wm_wire.specs.Laws.{alone_u32}
use Rattle.wm_wire.specs.ListLaws.{longer_continues, list_parts}
use Rattle.wm_wire.specs.NotPushed.{IsReason}
use Rattle.wm_wire.specs.declared.list.NotPushed.{NotPushed}
use Rattle.wm_wire.specs.declared.list.NotPushed.TheVariants.{Full, TooLong}
use Rattle.wm_wire.specs.Spelling.{Alone, BeginsWith, NoneBegins, IsList, list_spelling}

-- the bytes begin with a count and these items, and what stands from a place on is still to be read
pub record HasRead {V : Type 0} (spelling : V → List ℕ) (bytes : List ℕ) (count : ℕ) (items : List V) (at : ℕ) : Type 0 where
  pub within : at ≤ length bytes
  pub whole : at ≡ 4 + length (flat_map spelling items)
  pub parts : bytes ≡ big_bytes 4 count ++ (flat_map spelling items ++ drop at bytes)

-- the count in front is that of each list that begins the bytes
pub count_is : {V : Type 0} (max : ℕ) (fits : V → Type 0) (spelling : V → List ℕ) (bytes back : List ℕ) (count : ℕ) (items : List V) (rest : List ℕ) → count < 2 ^ 32 → bytes ≡ big_bytes 4 count ++ back → IsList max fits spelling items → bytes ≡ list_spelling spelling items ++ rest → count ≡ length items
count_is max fits spelling bytes back count items rest small front h e =
    alone_u32 count (length items) back (flat_map spelling items ++ rest) small (omega (arith, h.below)) (sym front ∙ e ∙ list_parts spelling items rest)

-- the next item of a list of which fewer items than the count have been read
pub record Next {V : Type 0} (fits : V → Type 0) (spelling : V → List ℕ) (read all : List V) (back rest : List ℕ) : Type 0 where
  pub value : V
  pub more : List V
  pub known : fits value
  pub items : all ≡ read ++ (value ∷ more)
  pub bytes : back ≡ spelling value ++ (flat_map spelling more ++ rest)

-- what fits each of the whole fits each of its end
AllByRecursion-behind : {V : Type 0} (fits : V → Type 0) (xs ys : List V) → AllByRecursion fits (xs ++ ys) → AllByRecursion fits ys
AllByRecursion-behind fits [] ys h = h
AllByRecursion-behind fits (x ∷ xs) ys h = AllByRecursion-behind fits xs ys h.1

-- the first of the items that are still to come
next_of : {V : Type 0} (fits : V → Type 0) (spelling : V → List ℕ) (items more all : List V) (back rest : List ℕ) → all ≡ items ++ more → back ≡ flat_map spelling more ++ rest → AllByRecursion fits all → length items < length all → Next fits spelling items all back rest
next_of fits spelling items [] all back rest e b each lt = absurd (omega (arith, ap length e, length-append items []))
next_of fits spelling items (value ∷ more) all back rest e b each lt =
    let behind : AllByRecursion fits (value ∷ more) = AllByRecursion-behind fits items (value ∷ more) (subst (λ l. AllByRecursion fits l) e each) in
    record {
      value = value;
      more = more;
      known = behind.0;
      items = e;
      bytes = b ∙ append_assoc (spelling value) (flat_map spelling more) rest;
    }

-- each list that begins the bytes goes on at the place with its next item
pub next : {V : Type 0} (max : ℕ) (fits : V → Type 0) (spelling : V → List ℕ) → Alone fits spelling → (bytes : List ℕ) (count : ℕ) (items : List V) (at : ℕ) (all : List V) (rest : List ℕ) → count < 2 ^ 32 → HasRead spelling bytes count items at → AllByRecursion fits items → length items < count → IsList max fits spelling all → bytes ≡ list_spelling spelling all ++ rest → Next fits spelling items all (drop at bytes) rest
next max fits spelling alone bytes count items at all rest small read each lt h e =
    let same : count ≡ length all = count_is max fits spelling bytes (flat_map spelling items ++ drop at bytes) count all rest small read.parts h e in
    let behind : flat_map spelling items ++ drop at bytes ≡ flat_map spelling all ++ rest = append_cancel_left (big_bytes 4 count) _ _ (sym read.parts ∙ e ∙ list_parts spelling all rest ∙ ap (λ n. big_bytes 4 n ++ (flat_map spelling all ++ rest)) (sym same)) in
    let found = longer_continues fits spelling alone items all (drop at bytes) rest each h.each (omega (arith, same)) behind in
    next_of fits spelling items found.more all (drop at bytes) rest found.items found.bytes h.each (omega (arith, same))

-- where no item stands at the place, no list begins the bytes
pub no_item : {V : Type 0} (max : ℕ) (fits : V → Type 0) (spelling : V → List ℕ) → Alone fits spelling → (bytes : List ℕ) (count : ℕ) (items : List V) (at : ℕ) → count < 2 ^ 32 → HasRead spelling bytes count items at → AllByRecursion fits items → length items < count → NoneBegins fits spelling (drop at bytes) → NoneBegins (IsList max fits spelling) (list_spelling spelling) bytes
no_item max fits spelling alone bytes count items at small read each lt none all rest h e =
    let found = next max fits spelling alone bytes count items at all rest small read each lt h e in
    none found.value (flat_map spelling found.more ++ rest) found.known found.bytes

-- a longer list is spelled in no fewer bytes
length-list : {V : Type 0} (spelling : V → List ℕ) (items more : List V) (value : V) → length (list_spelling spelling (items ++ value ∷ [])) ≤ length (list_spelling spelling (items ++ (value ∷ more)))
length-list spelling items more value =
    omega (arith, ap length (flat_map-append spelling items (value ∷ [])), length-append (flat_map spelling items) (flat_map spelling (value ∷ [])), length-append (spelling value) [], ap length (flat_map-append spelling items (value ∷ more)), length-append (flat_map spelling items) (flat_map spelling (value ∷ more)), length-append (spelling value) (flat_map spelling more))

-- nor where the item that stands there is one too long
pub item_too_long : {V : Type 0} (max : ℕ) (fits : V → Type 0) (spelling : V → List ℕ) → Alone fits spelling → (bytes : List ℕ) (count : ℕ) (items : List V) (at : ℕ) (value : V) (size : ℕ) → count < 2 ^ 32 → HasRead spelling bytes count items at → AllByRecursion fits items → length items < count → BeginsWith fits spelling (drop at bytes) value size → 2 ^ 32 ≤ length (list_spelling spelling (items ++ value ∷ [])) → NoneBegins (IsList max fits spelling) (list_spelling spelling) bytes
item_too_long max fits spelling alone bytes count items at value size small read each lt begins long all rest h e =
    let found = next max fits spelling alone bytes count items at all rest small read each lt h e in
    let same : value ≡ found.value = alone value found.value (drop size (drop at bytes)) (flat_map spelling found.more ++ rest) begins.known found.known (sym begins.parts ∙ found.bytes) in
    let all_is : all ≡ items ++ (value ∷ found.more) = found.items ∙ ap (λ v. items ++ (v ∷ found.more)) (sym same) in
    omega (arith, long, length-list spelling items found.more value, ap (λ l. length (list_spelling spelling l)) all_is, h.short)

-- an item that the list refuses for its limits is in no list either
pub item_refused : {V : Type 0} (max : ℕ) (fits : V → Type 0) (spelling : V → List ℕ) → Alone fits spelling → (bytes : List ℕ) (count : ℕ) (items : List V) (at : ℕ) (value : V) (size : ℕ) (refusal : NotPushed) → count < 2 ^ 32 → count ≤ max → HasRead spelling bytes count items at → AllByRecursion fits items → length items < count → BeginsWith fits spelling (drop at bytes) value size → (refusal ≡ Full) ⊎ (refusal ≡ TooLong) → IsReason max spelling items value refusal → NoneBegins (IsList max fits spelling) (list_spelling spelling) bytes
item_refused max fits spelling alone bytes count items at value size refusal small within read each lt begins (inl full) reason = absurd (let past : max ≤ length items = rw full at reason in omega (arith, past))
item_refused max fits spelling alone bytes count items at value size refusal small within read each lt begins (inr long) reason =
    item_too_long max fits spelling alone bytes count items at value size small read each lt begins (rw long at reason)
