-- What stays true of a list, and of a map's entries, when one is put behind, replaced or taken out.
use Rattle.std.proofs.Common.{◌≡◌, ℕ, ◌+◌, ◌≤◌, Bool, true, false, cond, List, [], ◌∷◌, ◌++◌, length, map, flat_map, Some, refl, sym, ap, subst, ◌∙◌, arith}
use Rattle.std.proofs.lemmas.List.{length-append}
use Rattle.indexmap.specs.IndexMap.{insert_entry}
use Rattle.std.specs.List.{AllByRecursion, IsDistinct}
use Rattle.std.specs.Map.{lookup, set_value, remove_entry}

-- ---- one more behind the others

pub AllByRecursion-push : {V : Type 0} (P : V → Type 0) (xs : List V) (x : V) → AllByRecursion P xs → P x → AllByRecursion P (xs ++ x ∷ [])
AllByRecursion-push P [] x h p = (p, tt)
AllByRecursion-push P (y ∷ xs) x h p = (h.0, AllByRecursion-push P xs x h.1 p)

pub AllByRecursion-each : {V : Type 0} (P Q : V → Type 0) → ((x : V) → P x → Q x) → (xs : List V) → AllByRecursion P xs → AllByRecursion Q xs
AllByRecursion-each P Q from [] h = h
AllByRecursion-each P Q from (x ∷ xs) h = (from x h.0, AllByRecursion-each P Q from xs h.1)

-- what holds of each item says something of what f makes of each
pub AllByRecursion-map : {V W : Type 0} (P : V → Type 0) (Q : W → Type 0) (f : V → W) → ((x : V) → P x → Q (f x)) → (xs : List V) → AllByRecursion P xs → AllByRecursion Q (map f xs)
AllByRecursion-map P Q f from [] h = tt
AllByRecursion-map P Q f from (x ∷ xs) h = (from x h.0, AllByRecursion-map P Q f from xs h.1)

-- a new key behind others that differ from it
pub IsDistinct-push : {K : Type 0} (eq : K → K → Bool) (ks : List K) (k : K) → IsDistinct eq ks → AllByRecursion (λ x. eq x k ≡ false) ks → IsDistinct eq (ks ++ k ∷ [])
unfolding IsDistinct
IsDistinct-push eq [] k h apart = (tt, tt)
IsDistinct-push eq (x ∷ ks) k h apart = (AllByRecursion-push (λ y. eq x y ≡ false) ks k h.0 apart.0, IsDistinct-push eq ks k h.1 apart.1)

module _ {K X : Type 0} (test : K → Bool) where
  -- ---- the entry that a look-up finds

  -- an entry of a key that passes, with what holds of each
  pub record Found (P : K × X → Type 0) (v : X) : Type 0 where
    pub key : K
    pub passes : test key ≡ true
    pub known : P (key, v)

  pub found : (P : K × X → Type 0) (es : List (K × X)) (v : X) → lookup test es ≡ Some v → AllByRecursion P es → Found P v
  found P [] v e h = absurd cc
  found P (x ∷ es) v e h = by (λ q. found P es v q h.1) (test x.0) refl e
    where
      by : (lookup test es ≡ Some v → Found P v) → (b : Bool) → test x.0 ≡ b → cond b (Some x.1) (lookup test es) ≡ Some v → Found P v
      by rest true t q = let same : x.1 ≡ v = cc in record { key = x.0; passes = t; known = subst (λ w. P (x.0, w)) same h.0 }
      by rest false t q = rest q

  -- its spelling is a part of the whole
  pub length-found : (f : K × X → List ℕ) (es : List (K × X)) (v : X) (n : ℕ) → lookup test es ≡ Some v → ((k : K) → n ≤ length (f (k, v))) → n ≤ length (flat_map f es)
  length-found f [] v n e long = absurd cc
  length-found f (x ∷ es) v n e long = by (λ q. length-found f es v n q long) (test x.0) e
    where
      by : (lookup test es ≡ Some v → n ≤ length (flat_map f es)) → (b : Bool) → cond b (Some x.1) (lookup test es) ≡ Some v → n ≤ length (f x ++ flat_map f es)
      by rest true q =
          let same : x.1 ≡ v = cc in
          let here : n ≤ length (f x) = subst (λ w. n ≤ length (f (x.0, w))) (sym same) (long x.0) in
          omega (arith, length-append (f x) (flat_map f es), here)
      by rest false q = omega (arith, length-append (f x) (flat_map f es), rest q)

  -- ---- another value for it

  pub AllByRecursion-set_value : (P : K × X → Type 0) (es : List (K × X)) (v w : X) → lookup test es ≡ Some v → ((k : K) → P (k, v) → P (k, w)) → AllByRecursion P es → AllByRecursion P (set_value test es w)
  AllByRecursion-set_value P [] v w e goes h = tt
  AllByRecursion-set_value P (x ∷ es) v w e goes h = by (λ q. AllByRecursion-set_value P es v w q goes h.1) (test x.0) e
    where
      by : (lookup test es ≡ Some v → AllByRecursion P (set_value test es w)) → (b : Bool) → cond b (Some x.1) (lookup test es) ≡ Some v → AllByRecursion P (cond b ((x.0, w) ∷ es) (x ∷ set_value test es w))
      by rest true q = let same : x.1 ≡ v = cc in (goes x.0 (subst (λ u. P (x.0, u)) same h.0), h.1)
      by rest false q = (h.0, rest q)

  -- what f makes of the entries stays, where it makes the same of the two
  pub map-set_value : {Y : Type 0} (f : K × X → Y) (es : List (K × X)) (v w : X) → lookup test es ≡ Some v → ((k : K) → f (k, w) ≡ f (k, v)) → map f (set_value test es w) ≡ map f es
  map-set_value f [] v w e same = refl
  map-set_value f (x ∷ es) v w e same = by (λ q. map-set_value f es v w q same) (test x.0) e
    where
      by : (lookup test es ≡ Some v → map f (set_value test es w) ≡ map f es) → (b : Bool) → cond b (Some x.1) (lookup test es) ≡ Some v → map f (cond b ((x.0, w) ∷ es) (x ∷ set_value test es w)) ≡ f x ∷ map f es
      by rest true q = let is : x.1 ≡ v = cc in ap (λ y. y ∷ map f es) (same x.0 ∙ ap (λ u. f (x.0, u)) (sym is))
      by rest false q = ap (λ ys. f x ∷ ys) (rest q)

  -- of the spellings' length goes what the one had more, and comes what the other has more
  pub length-flat_map-set_value : (f : K × X → List ℕ) (es : List (K × X)) (v w : X) (less more : ℕ) → lookup test es ≡ Some v → ((k : K) → length (f (k, w)) + less ≡ length (f (k, v)) + more) → length (flat_map f (set_value test es w)) + less ≡ length (flat_map f es) + more
  length-flat_map-set_value f [] v w less more e change = absurd cc
  length-flat_map-set_value f (x ∷ es) v w less more e change = by (λ q. length-flat_map-set_value f es v w less more q change) (test x.0) e
    where
      by : (lookup test es ≡ Some v → length (flat_map f (set_value test es w)) + less ≡ length (flat_map f es) + more) → (b : Bool) → cond b (Some x.1) (lookup test es) ≡ Some v → length (flat_map f (cond b ((x.0, w) ∷ es) (x ∷ set_value test es w))) + less ≡ length (f x ++ flat_map f es) + more
      by rest true q =
          let same : x.1 ≡ v = cc in
          let here : length (f (x.0, w)) + less ≡ length (f x) + more = subst (λ u. length (f (x.0, w)) + less ≡ length (f (x.0, u)) + more) (sym same) (change x.0) in
          omega (arith, length-append (f (x.0, w)) (flat_map f es), length-append (f x) (flat_map f es), here)
      by rest false q =
          omega (arith, length-append (f x) (flat_map f (set_value test es w)), length-append (f x) (flat_map f es), rest q)

  -- ---- the entries without it

  pub AllByRecursion-remove_entry : (P : K × X → Type 0) (es : List (K × X)) → AllByRecursion P es → AllByRecursion P (remove_entry test es)
  AllByRecursion-remove_entry P [] h = h
  AllByRecursion-remove_entry P (x ∷ es) h = by (AllByRecursion-remove_entry P es h.1) (test x.0)
    where
      by : AllByRecursion P (remove_entry test es) → (b : Bool) → AllByRecursion P (cond b es (x ∷ remove_entry test es))
      by rest true = h.1
      by rest false = (h.0, rest)

  AllByRecursion-map-remove_entry : {Y : Type 0} (P : Y → Type 0) (f : K × X → Y) (es : List (K × X)) → AllByRecursion P (map f es) → AllByRecursion P (map f (remove_entry test es))
  AllByRecursion-map-remove_entry P f [] h = h
  AllByRecursion-map-remove_entry P f (x ∷ es) h = by (AllByRecursion-map-remove_entry P f es h.1) (test x.0)
    where
      by : AllByRecursion P (map f (remove_entry test es)) → (b : Bool) → AllByRecursion P (map f (cond b es (x ∷ remove_entry test es)))
      by rest true = h.1
      by rest false = (h.0, rest)

  pub IsDistinct-remove_entry : {Y : Type 0} (eq : Y → Y → Bool) (f : K × X → Y) (es : List (K × X)) → IsDistinct eq (map f es) → IsDistinct eq (map f (remove_entry test es))
  unfolding IsDistinct
  IsDistinct-remove_entry eq f [] h = h
  IsDistinct-remove_entry eq f (x ∷ es) h = by (IsDistinct-remove_entry eq f es h.1) (test x.0)
    where
      by : IsDistinct eq (map f (remove_entry test es)) → (b : Bool) → IsDistinct eq (map f (cond b es (x ∷ remove_entry test es)))
      by rest true = h.1
      by rest false = (AllByRecursion-map-remove_entry (λ y. eq (f x) y ≡ false) f es h.0, rest)

  pub length-remove_entry : (es : List (K × X)) → length (remove_entry test es) ≤ length es
  length-remove_entry [] = omega arith
  length-remove_entry (x ∷ es) = by (length-remove_entry es) (test x.0)
    where
      by : length (remove_entry test es) ≤ length es → (b : Bool) → length (cond b es (x ∷ remove_entry test es)) ≤ length (x ∷ es)
      by rest true = omega arith
      by rest false = omega arith

  -- of the spellings' length goes its own
  pub length-flat_map-remove_entry : (f : K × X → List ℕ) (es : List (K × X)) (v : X) (n : ℕ) → lookup test es ≡ Some v → ((k : K) → test k ≡ true → length (f (k, v)) ≡ n) → length (flat_map f (remove_entry test es)) + n ≡ length (flat_map f es)
  length-flat_map-remove_entry f [] v n e long = absurd cc
  length-flat_map-remove_entry f (x ∷ es) v n e long = by (λ q. length-flat_map-remove_entry f es v n q long) (test x.0) refl e
    where
      by : (lookup test es ≡ Some v → length (flat_map f (remove_entry test es)) + n ≡ length (flat_map f es)) → (b : Bool) → test x.0 ≡ b → cond b (Some x.1) (lookup test es) ≡ Some v → length (flat_map f (cond b es (x ∷ remove_entry test es))) + n ≡ length (f x ++ flat_map f es)
      by rest true t q =
          let same : x.1 ≡ v = cc in
          let here : length (f x) ≡ n = subst (λ u. length (f (x.0, u)) ≡ n) (sym same) (long x.0 t) in
          omega (arith, length-append (f x) (flat_map f es), here)
      by rest false t q =
          omega (arith, length-append (f x) (flat_map f (remove_entry test es)), length-append (f x) (flat_map f es), rest q)

-- ---- a value in the place of another, which is then written back

pub restored : {K X : Type 0} (eq : K → K → Bool) (es : List (K × X)) (k : K) (v old : X) → lookup (eq k) es ≡ Some old → set_value (eq k) (insert_entry eq es k v) old ≡ es
restored eq [] k v old e = absurd cc
restored {K} {X} eq (x ∷ es) k v old e = by (λ q. restored eq es k v old q) (eq k x.0) refl e
  where
    by : (lookup (eq k) es ≡ Some old → set_value (eq k) (insert_entry eq es k v) old ≡ es) → (b : Bool) → eq k x.0 ≡ b → cond b (Some x.1) (lookup (eq k) es) ≡ Some old → set_value (eq k) (cond b ((x.0, v) ∷ es) (x ∷ insert_entry eq es k v)) old ≡ x ∷ es
    by rest true t q =
        let same : old ≡ x.1 = cc in
        ap (λ c. cond c ((x.0, old) ∷ es) ((x.0, v) ∷ set_value (eq k) es old)) t ∙ ap (λ w. (x.0, w) ∷ es) same
    by rest false t q =
        ap (λ c. cond c ((x.0, old) ∷ insert_entry eq es k v) (x ∷ set_value (eq k) (insert_entry eq es k v) old)) t ∙ ap (λ ys. x ∷ ys) (rest q)
