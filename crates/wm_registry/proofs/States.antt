-- What is no state: its parts, and the roots that are gathered one after another.
use Rattle.std.proofs.Common.{◌≡◌, ℕ, ◌+◌, ◌^◌, ◌<◌, ◌≤◌, ◌||◌, ◌==◌, Bool, false, List, [], ◌∷◌, ◌++◌, length, take, drop, get_or, refl, sym, ap, subst, ◌∙◌, arith}
use Rattle.std.proofs.lemmas.Cmp.{nat_eq_equiv, nat_list_eq_equiv}
use Rattle.std.proofs.lemmas.List.{length-append, take_more, take-append-drop}
use Rattle.std.proofs.lemmas.Map.Keys.{IsDistinct-head, IsDistinct-tail, IsDistinct-push}
use Rattle.std.specs.Cmp.{IsEquivalence}
use Rattle.std.specs.List.{list_any, IsDistinct, AllByRecursion}
use Rattle.std.specs.Map.{keys_of, values_of}
use Rattle.std.specs.Str.{bytes_eq}
use Rattle.byteorder.specs.Endian.{big_bytes}
use Rattle.wm_disk.specs.Counters.{max_counter}
use Rattle.wm_wire.specs.Laws.{alone_u64}
use Rattle.wm_wire.specs.ListLaws.{alone_list}
use Rattle.wm_wire.specs.PairLaws.{alone_pair}
use Rattle.wm_wire.specs.Spelling.{Alone, BeginsWith, NoneBegins, IsList, IsPair, list_spelling, pair_spelling}
use Rattle.wm_registry.specs.Limits.{max_roots}
use Rattle.wm_registry.specs.Roots.{State}
use Rattle.wm_registry.specs.Spelling.{AreRoots, IsRoot, IsState, IsStateIn, numbers_of, root_spelling, state_spelling}
use Rattle.wm_registry.specs.StateLaws.{alone_root, small_state}
use Rattle.wm_registry.specs.declared.root.Root.{Root}
use Rattle.wm_registry.specs.Versions.{max_state_bytes}
use Rattle.wm_registry.specs.declared.version.Version.{Version}

-- ---- tests of the roots, and of their paths and numbers

pub list_any-values : (test : Root → Bool) (roots : List (List ℕ × Root)) → list_any test (values_of roots) ≡ list_any (λ r. test r.1) roots
list_any-values test [] = refl
list_any-values test (r ∷ rest) = ap (λ b. test r.1 || b) (list_any-values test rest)

list_any-numbers : (n : ℕ) (roots : List (List ℕ × Root)) → list_any (λ r. r.1.number == n) roots ≡ list_any (λ m. n == m) (numbers_of roots)
list_any-numbers n [] = refl
list_any-numbers n (r ∷ rest) =
    ap (λ b. b || list_any (λ r. r.1.number == n) rest) (nat_eq_equiv.symm r.1.number n) ∙ ap (λ b. (n == r.1.number) || b) (list_any-numbers n rest)

-- ---- the front of roots that are apart, and one root more

AllByRecursion-front : {X : Type 0} (P : X → Type 0) (xs ys : List X) → AllByRecursion P (xs ++ ys) → AllByRecursion P xs
AllByRecursion-front P [] ys h = tt
AllByRecursion-front P (x ∷ xs) ys h = (h.0, AllByRecursion-front P xs ys h.1)

AllByRecursion-last : {X : Type 0} (P : X → Type 0) (xs : List X) (y : X) → AllByRecursion P (xs ++ y ∷ []) → P y
AllByRecursion-last P [] y h = h.0
AllByRecursion-last P (x ∷ xs) y h = AllByRecursion-last P xs y h.1

AllByRecursion-push : {X : Type 0} (P : X → Type 0) (xs : List X) (y : X) → AllByRecursion P xs → P y → AllByRecursion P (xs ++ y ∷ [])
AllByRecursion-push P [] y h p = (p, tt)
AllByRecursion-push P (x ∷ xs) y h p = (h.0, AllByRecursion-push P xs y h.1 p)

IsDistinct-front : {K : Type 0} (eq : K → K → Bool) (xs ys : List K) → IsDistinct eq (xs ++ ys) → IsDistinct eq xs
unfolding IsDistinct
IsDistinct-front eq [] ys h = tt
IsDistinct-front eq (x ∷ xs) ys h = (AllByRecursion-front (λ y. eq x y ≡ false) xs ys h.0, IsDistinct-front eq xs ys h.1)

-- the last of keys that are apart is none of those before it
IsDistinct-last : {K : Type 0} (eq : K → K → Bool) → IsEquivalence eq → (xs : List K) (y : K) → IsDistinct eq (xs ++ y ∷ []) → list_any (eq y) xs ≡ false
IsDistinct-last eq laws [] y h = refl
IsDistinct-last eq laws (x ∷ xs) y h =
    let first : eq y x ≡ false = laws.symm y x ∙ AllByRecursion-last (λ z. eq x z ≡ false) xs y (IsDistinct-head eq x (xs ++ y ∷ []) h) in
    ap (λ b. b || list_any (eq y) xs) first ∙ IsDistinct-last eq laws xs y (IsDistinct-tail eq x (xs ++ y ∷ []) h)

keys-append : (xs ys : List (List ℕ × Root)) → keys_of (xs ++ ys) ≡ keys_of xs ++ keys_of ys
keys-append [] ys = refl
keys-append (x ∷ xs) ys = ap (λ l. x.0 ∷ l) (keys-append xs ys)

numbers-append : (xs ys : List (List ℕ × Root)) → numbers_of (xs ++ ys) ≡ numbers_of xs ++ numbers_of ys
numbers-append [] ys = refl
numbers-append (x ∷ xs) ys = ap (λ l. x.1.number ∷ l) (numbers-append xs ys)

pub AreRoots-none : (next : ℕ) → AreRoots next []
unfolding IsDistinct
AreRoots-none next = record { below = tt; paths = tt; numbers = tt }

AreRoots-front : (next : ℕ) (xs ys : List (List ℕ × Root)) → AreRoots next (xs ++ ys) → AreRoots next xs
AreRoots-front next xs ys h = record {
  below = AllByRecursion-front (λ r. r.1.number < next) xs ys h.below;
  paths = IsDistinct-front bytes_eq (keys_of xs) (keys_of ys) (subst (IsDistinct bytes_eq) (keys-append xs ys) h.paths);
  numbers = IsDistinct-front ◌==◌ (numbers_of xs) (numbers_of ys) (subst (IsDistinct ◌==◌) (numbers-append xs ys) h.numbers);
}

-- a root that may follow these
pub record MayFollow (next : ℕ) (xs : List (List ℕ × Root)) (x : List ℕ × Root) : Type 0 where
  pub below : x.1.number < next
  pub path : list_any (bytes_eq x.0) (keys_of xs) ≡ false
  pub number : list_any (λ r. r.1.number == x.1.number) xs ≡ false

pub AreRoots-push : (next : ℕ) (xs : List (List ℕ × Root)) (x : List ℕ × Root) → AreRoots next xs → MayFollow next xs x → AreRoots next (xs ++ x ∷ [])
AreRoots-push next xs x h m = record {
  below = AllByRecursion-push (λ r. r.1.number < next) xs x h.below m.below;
  paths = subst (IsDistinct bytes_eq) (sym (keys-append xs (x ∷ []))) (IsDistinct-push nat_list_eq_equiv (keys_of xs) x.0 h.paths m.path);
  numbers = subst (IsDistinct ◌==◌) (sym (numbers-append xs (x ∷ []))) (IsDistinct-push nat_eq_equiv (numbers_of xs) x.1.number h.numbers (sym (list_any-numbers x.1.number xs) ∙ m.number));
}

may_follow : (next : ℕ) (xs : List (List ℕ × Root)) (x : List ℕ × Root) → AreRoots next (xs ++ x ∷ []) → MayFollow next xs x
may_follow next xs x h = record {
  below = AllByRecursion-last (λ r. r.1.number < next) xs x h.below;
  path = IsDistinct-last bytes_eq nat_list_eq_equiv (keys_of xs) x.0 (subst (IsDistinct bytes_eq) (keys-append xs (x ∷ [])) h.paths);
  number = list_any-numbers x.1.number xs ∙ IsDistinct-last ◌==◌ nat_eq_equiv (numbers_of xs) x.1.number (subst (IsDistinct ◌==◌) (numbers-append xs (x ∷ [])) h.numbers);
}

-- each root of roots that are apart may follow those before it
pub next_may_follow : (next : ℕ) (all xs : List (List ℕ × Root)) (x : List ℕ × Root) → xs ≡ take (length xs) all → length xs < length all → x ≡ get_or all (length xs) x → AreRoots next all → MayFollow next xs x
next_may_follow next all xs x front lt is h =
    let n = length xs in
    let more : take (n + 1) all ≡ xs ++ x ∷ [] = take_more all n x lt ∙ ap (λ l. l ++ get_or all n x ∷ []) (sym front) ∙ ap (λ y. xs ++ y ∷ []) (sym is) in
    let split : AreRoots next (take (n + 1) all ++ drop (n + 1) all) = subst (AreRoots next) (sym (take-append-drop (n + 1) all)) h in
    may_follow next xs x (subst (AreRoots next) more (AreRoots-front next (take (n + 1) all) (drop (n + 1) all) split))

-- ---- an incarnation, and a number with roots, as they are read one after another

module _ (v : Version) where
  abbrev pub EndFits : ℕ × List (List ℕ × Root) → Type 0
  EndFits = IsPair (λ n. n < 2 ^ 64) (big_bytes 8) (IsList max_roots (IsRoot v) (root_spelling v)) (list_spelling (root_spelling v))

  abbrev pub end_spelling : ℕ × List (List ℕ × Root) → List ℕ
  end_spelling = pair_spelling (big_bytes 8) (list_spelling (root_spelling v))

  abbrev pub PartsFit : ℕ × (ℕ × List (List ℕ × Root)) → Type 0
  PartsFit = IsPair (λ n. n < 2 ^ 64) (big_bytes 8) EndFits end_spelling

  abbrev pub parts_spelling : ℕ × (ℕ × List (List ℕ × Root)) → List ℕ
  parts_spelling = pair_spelling (big_bytes 8) end_spelling

  -- the state of these parts, and the parts of a state
  abbrev pub state_of : ℕ × (ℕ × List (List ℕ × Root)) → State
  state_of p = record { version = v; incarnation = p.0; next = p.1.0; roots = p.1.1 }

abbrev pub parts_of : State → ℕ × (ℕ × List (List ℕ × Root))
parts_of s = (s.incarnation, (s.next, s.roots))

parts_fit : (s : State) → IsState s → PartsFit s.version (parts_of s)
parts_fit s h =
    let v = s.version in
    let whole : length (parts_spelling v (parts_of s)) ≤ max_state_bytes v = h.short in
    let behind = length-append (big_bytes 8 s.incarnation) (end_spelling v (s.next, s.roots)) in
    record {
      first = omega (arith, h.incarnation);
      second = record { first = omega (arith, h.next); second = h.roots; short = omega (arith, whole, behind, small_state v) };
      short = omega (arith, whole, small_state v);
    }

alone_parts : (v : Version) → Alone (PartsFit v) (parts_spelling v)
alone_parts v = alone_pair (λ n. n < 2 ^ 64) (big_bytes 8) (EndFits v) (end_spelling v) alone_u64
    (alone_pair (λ n. n < 2 ^ 64) (big_bytes 8) (IsList max_roots (IsRoot v) (root_spelling v)) (list_spelling (root_spelling v)) alone_u64 (alone_list max_roots (IsRoot v) (root_spelling v) (alone_root v)))

-- a state of this version has the parts of one
abbrev pub HasParts : Version → State → List ℕ → List ℕ → Type 0
HasParts v s rest bytes = PartsFit v (parts_of s) × (bytes ≡ parts_spelling v (parts_of s) ++ rest) × (s ≡ state_of v (parts_of s))

has_parts : (v : Version) (s : State) (rest bytes : List ℕ) → s.version ≡ v → IsState s → bytes ≡ state_spelling s ++ rest → HasParts v s rest bytes
has_parts v s rest bytes is h e =
    subst (λ u. HasParts u s rest bytes) is (parts_fit s h, e, refl)

pub no_parts : (v : Version) (bytes : List ℕ) → NoneBegins (PartsFit v) (parts_spelling v) bytes → NoneBegins (IsStateIn v) state_spelling bytes
no_parts v bytes none s rest h e =
    let parts = has_parts v s rest bytes h.version h.state e in
    none (parts_of s) rest parts.0 parts.1

-- where the parts that were read are those of no state, no state begins the bytes
pub no_state : (v : Version) (bytes : List ℕ) (p : ℕ × (ℕ × List (List ℕ × Root))) (size : ℕ) → BeginsWith (PartsFit v) (parts_spelling v) bytes p size → (IsState (state_of v p) → ⊥) → NoneBegins (IsStateIn v) state_spelling bytes
no_state v bytes p size b wrong s rest h e =
    let parts = has_parts v s rest bytes h.version h.state e in
    let same : parts_of s ≡ p = alone_parts v (parts_of s) p rest (drop size bytes) parts.0 b.known (sym parts.1 ∙ b.parts) in
    wrong (subst IsState (parts.2 ∙ ap (state_of v) same) h.state)

-- what a state's parts are found to be once they are read
pub record Checked (v w : Version) (p : ℕ × (ℕ × List (List ℕ × Root))) (incarnation next : ℕ) (roots : List (List ℕ × Root)) (size : ℕ) : Type 0 where
  pub version_is : w ≡ v
  pub incarnation_is : incarnation ≡ p.0
  pub next_is : next ≡ p.1.0
  pub roots_are : roots ≡ p.1.1
  pub last : incarnation ≤ max_counter
  pub some : 0 < next
  pub below : next ≤ max_counter
  pub short : size ≤ max_state_bytes w
  pub apart : AreRoots p.1.0 p.1.1

-- the state of such parts begins the bytes
pub is_state : (v w : Version) (bytes : List ℕ) (p : ℕ × (ℕ × List (List ℕ × Root))) (incarnation next : ℕ) (roots : List (List ℕ × Root)) (size : ℕ) → BeginsWith (PartsFit v) (parts_spelling v) bytes p size → Checked v w p incarnation next roots size
    → BeginsWith (IsStateIn v) state_spelling bytes (record { version = w; incarnation = incarnation; next = next; roots = roots }) size
is_state v w bytes p incarnation next roots size b h =
    let known : IsState (state_of v p) = record {
      incarnation = omega (arith, h.last, h.incarnation_is);
      some = omega (arith, h.some, h.next_is);
      next = omega (arith, h.below, h.next_is);
      roots = b.known.second.second;
      apart = h.apart;
      short = omega (arith, b.whole, subst (λ u. size ≤ max_state_bytes u) h.version_is h.short);
    } in
    let whole : BeginsWith (IsStateIn v) state_spelling bytes (state_of v p) size = record { known = record { version = refl; state = known }; parts = b.parts; whole = b.whole } in
    subst (λ s. BeginsWith (IsStateIn v) state_spelling bytes s size) (λ i. record { version = sym h.version_is i; incarnation = sym h.incarnation_is i; next = sym h.next_is i; roots = sym h.roots_are i }) whole
