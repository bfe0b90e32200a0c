-- How many bytes the spelling of a state has once a command has changed it.
use Rattle.std.proofs.Common.{◌≡◌, ℕ, zero, suc, ◌+◌, ◌<◌, ◌≤◌, Bool, true, false, cond, List, [], ◌∷◌, ◌++◌, length, get_or, flat_map, position, Some, None, ◌||◌, if◌then◌else◌, refl, sym, ap, ◌∙◌, arith}
use Rattle.std.proofs.lemmas.List.{length-append}
use Rattle.std.proofs.lemmas.List.Folds.{Any-from_list_any, list_any_at}
use Rattle.std.proofs.lemmas.List.Quantifiers.{position-Some}
use Rattle.std.proofs.lemmas.List.Sums.{fails_before_first}
use Rattle.std.proofs.lemmas.Grind.{common_steps, flat_map-append}
use Rattle.std.proofs.lemmas.Slice.Eq.{bytes_eq-Decides}
use Rattle.std.specs.List.{list_any, position_or_len}
use Rattle.std.specs.Map.{lookup, set_value, remove_entry}
use Rattle.std.specs.Str.{bytes_eq}
use Rattle.byteorder.specs.Endian.{big_bytes}
use Rattle.wm_wire.specs.Spelling.{text, list_spelling}
use Rattle.wm_registry.specs.Registry.{watched}
use Rattle.wm_registry.specs.Roots.{State, root_at, with_triggers, without_root}
use Rattle.wm_registry.specs.Spelling.{root_spelling, state_spelling, trigger_spelling}
use Rattle.wm_registry.specs.Triggers.{Definition, defined, has_trigger, is_named}
use Rattle.wm_registry.specs.declared.root.Root.{Root}
use Rattle.wm_registry.specs.declared.version.Version.{Version}

-- ---- a value under a key

module _ {K X : Type 0} (test : K → Bool) (spelling : K × X → List ℕ) where
  -- where w's spelling and a have together as many bytes as v's and b, so have those of the entries with w in v's place
  pub length-flat_map-set_value : (es : List (K × X)) (v w : X) (a b : ℕ) → ((k : K) → length (spelling (k, w)) + a ≡ length (spelling (k, v)) + b) → lookup test es ≡ Some v
      → length (flat_map spelling (set_value test es w)) + a ≡ length (flat_map spelling es) + b
  length-flat_map-set_value [] v w a b each found = absurd cc
  length-flat_map-set_value (e ∷ es) v w a b each found = by (test e.0) refl (λ later. length-flat_map-set_value es v w a b each later)
    where
      by : (t : Bool) → test e.0 ≡ t → (lookup test es ≡ Some v → length (flat_map spelling (set_value test es w)) + a ≡ length (flat_map spelling es) + b)
          → length (flat_map spelling (cond t ((e.0, w) ∷ es) (e ∷ set_value test es w))) + a ≡ length (flat_map spelling (e ∷ es)) + b
      by true p rest =
          let is : Some e.1 ≡ Some v = sym (ap (λ t. cond t (Some e.1) (lookup test es)) p) ∙ found in
          let same : e.1 ≡ v = cc in
          let bytes = ap (λ (x : X). length (spelling (e.0, x))) same in
          omega (arith, each e.0, bytes, length-append (spelling (e.0, w)) (flat_map spelling es), length-append (spelling e) (flat_map spelling es))
      by false p rest =
          let later = rest (sym (ap (λ t. cond t (Some e.1) (lookup test es)) p) ∙ found) in
          omega (arith, later, length-append (spelling e) (flat_map spelling (set_value test es w)), length-append (spelling e) (flat_map spelling es))

  -- without v's entry the entries have as many bytes fewer as it has
  pub length-flat_map-remove_entry : (es : List (K × X)) (v : X) (n : ℕ) → ((k : K) → test k ≡ true → length (spelling (k, v)) ≡ n) → lookup test es ≡ Some v
      → length (flat_map spelling (remove_entry test es)) + n ≡ length (flat_map spelling es)
  length-flat_map-remove_entry [] v n each found = absurd cc
  length-flat_map-remove_entry (e ∷ es) v n each found = by (test e.0) refl (λ later. length-flat_map-remove_entry es v n each later)
    where
      by : (t : Bool) → test e.0 ≡ t → (lookup test es ≡ Some v → length (flat_map spelling (remove_entry test es)) + n ≡ length (flat_map spelling es))
          → length (flat_map spelling (cond t es (e ∷ remove_entry test es))) + n ≡ length (flat_map spelling (e ∷ es))
      by true p rest =
          let is : Some e.1 ≡ Some v = sym (ap (λ t. cond t (Some e.1) (lookup test es)) p) ∙ found in
          let same : e.1 ≡ v = cc in
          let bytes = ap (λ (x : X). length (spelling (e.0, x))) same in
          omega (arith, each e.0 p, bytes, length-append (spelling e) (flat_map spelling es))
      by false p rest =
          let later = rest (sym (ap (λ t. cond t (Some e.1) (lookup test es)) p) ∙ found) in
          omega (arith, later, length-append (spelling e) (flat_map spelling (remove_entry test es)), length-append (spelling e) (flat_map spelling es))

-- ---- triggers

-- no item passes where none has a place
pub none_passes : {X : Type 0} (p : X → Bool) (xs : List X) → position p xs ≡ None → list_any p xs ≡ false
none_passes p xs e = by (list_any p xs) refl
  where
    by : (b : Bool) → list_any p xs ≡ b → b ≡ false
    by false q = refl
    by true q =
        let hit = Any-from_list_any p xs q in
        let past : length xs ≤ position_or_len p xs = grind (arith, common_steps) in
        let none = fails_before_first p xs hit.0 hit.1 (omega (arith, past, hit.2)) in
        cc (none, hit.3, hit.4)

-- one item passes where one has a place
pub some_passes : {X : Type 0} (p : X → Bool) (xs : List X) (i : ℕ) → position p xs ≡ Some i → list_any p xs ≡ true
some_passes p [] i e = absurd cc
some_passes p (x ∷ xs) i e = let hit = position-Some p (x ∷ xs) i x e in list_any_at p (x ∷ xs) i x hit.0 hit.1

-- the trigger takes the place of that of its name
pub length-defined-old : (v : Version) (t : Definition) (ts : List Definition) (i : ℕ) (d : Definition) → i < length ts → is_named t.name (get_or ts i d) ≡ true → ((k : ℕ) → k < i → is_named t.name (get_or ts k d) ≡ false)
    → length (flat_map (trigger_spelling v) (defined t ts)) + length (trigger_spelling v (get_or ts i d)) ≡ length (flat_map (trigger_spelling v) ts) + length (trigger_spelling v t)
length-defined-old v t [] i d lt named before = absurd (omega arith)
length-defined-old v t (old ∷ rest) zero d lt named before =
    let is = ap (λ b. length (flat_map (trigger_spelling v) (if b then t ∷ rest else old ∷ defined t rest))) named in
    omega (arith, is, length-append (trigger_spelling v t) (flat_map (trigger_spelling v) rest), length-append (trigger_spelling v old) (flat_map (trigger_spelling v) rest))
length-defined-old v t (old ∷ rest) (suc i) d lt named before =
    let is = ap (λ b. length (flat_map (trigger_spelling v) (if b then t ∷ rest else old ∷ defined t rest))) (before 0 (omega arith)) in
    let more = length-defined-old v t rest i d (omega arith) named (λ k below. before (suc k) (omega arith)) in
    omega (arith, is, more, length-append (trigger_spelling v old) (flat_map (trigger_spelling v) (defined t rest)), length-append (trigger_spelling v old) (flat_map (trigger_spelling v) rest))

-- where there is none of its name it goes last
pub defined-new : (t : Definition) (ts : List Definition) → has_trigger t.name ts ≡ false → defined t ts ≡ ts ++ t ∷ []
defined-new t [] none = refl
defined-new t (old ∷ rest) none = by (is_named t.name old) refl (λ later. defined-new t rest later)
  where
    by : (b : Bool) → is_named t.name old ≡ b → (has_trigger t.name rest ≡ false → defined t rest ≡ rest ++ t ∷ []) → (if b then t ∷ rest else old ∷ defined t rest) ≡ old ∷ (rest ++ t ∷ [])
    by true p more = let there : true ≡ false = sym (ap (λ b. b || has_trigger t.name rest) p) ∙ none in absurd cc
    by false p more = let later : has_trigger t.name rest ≡ false = sym (ap (λ b. b || has_trigger t.name rest) p) ∙ none in ap (λ l. old ∷ l) (more later)

pub length-defined-new : (v : Version) (t : Definition) (ts : List Definition) → has_trigger t.name ts ≡ false → length (flat_map (trigger_spelling v) (defined t ts)) ≡ length (flat_map (trigger_spelling v) ts) + length (trigger_spelling v t)
length-defined-new v t ts none =
    let parts = ap length (flat_map-append (trigger_spelling v) ts (t ∷ [])) in
    let is = ap (λ l. length (flat_map (trigger_spelling v) l)) (defined-new t ts none) in
    omega (arith, is, parts, length-append (flat_map (trigger_spelling v) ts) (flat_map (trigger_spelling v) (t ∷ [])), length-append (trigger_spelling v t) [])

-- ---- states

length-root : (v : Version) (path : List ℕ) (root : Root) → length (root_spelling v (path, root)) ≡ length (text path) + 8 + length (list_spelling (trigger_spelling v) root.triggers)
length-root v path root = omega (arith, length-append (text path) (big_bytes 8 root.number ++ list_spelling (trigger_spelling v) root.triggers))

-- a new root comes with its path's spelling, its number and an empty list
pub length-watched : (s : State) (path : List ℕ) → length (state_spelling (watched s path)) ≡ length (state_spelling s) + (length (text path) + 12)
length-watched s path =
    let root : List ℕ × Root = (path, record { number = s.next; triggers = [] }) in
    let parts = ap length (flat_map-append (root_spelling s.version) s.roots (root ∷ [])) in
    omega (arith, parts, length-append (flat_map (root_spelling s.version) s.roots) (flat_map (root_spelling s.version) (root ∷ [])), length-append (root_spelling s.version root) [], length-root s.version path root.1)

-- other triggers of a root come with their bytes in the place of the others'
pub length-with_triggers : (s : State) (path : List ℕ) (root : Root) (triggers : List Definition) → root_at path s ≡ Some root
    → length (state_spelling (with_triggers s path root triggers)) + length (list_spelling (trigger_spelling s.version) root.triggers) ≡ length (state_spelling s) + length (list_spelling (trigger_spelling s.version) triggers)
length-with_triggers s path root triggers found =
    let new : Root = record root { triggers = triggers } in
    let items = length-flat_map-set_value (bytes_eq path) (root_spelling s.version) s.roots root new (length (list_spelling (trigger_spelling s.version) root.triggers)) (length (list_spelling (trigger_spelling s.version) triggers))
    (λ k. omega (arith, length-root s.version k root, length-root s.version k new)) found in
    omega (arith, items)

-- without a root go its path's spelling, its number and its triggers
pub length-without_root : (s : State) (path : List ℕ) (root : Root) → root_at path s ≡ Some root
    → length (state_spelling (without_root s path)) + length (root_spelling s.version (path, root)) ≡ length (state_spelling s)
length-without_root s path root found =
    let items = length-flat_map-remove_entry (bytes_eq path) (root_spelling s.version) s.roots root (length (root_spelling s.version (path, root)))
    (λ k same. ap (λ l. length (root_spelling s.version (l, root))) (sym ((bytes_eq-Decides path k).0 same))) found in
    omega (arith, items)

-- a root's triggers have no more bytes than the state
pub triggers-le-state : (s : State) (path : List ℕ) (root : Root) → root_at path s ≡ Some root → length (flat_map (trigger_spelling s.version) root.triggers) ≤ length (state_spelling s)
triggers-le-state s path root found = omega (arith, length-with_triggers s path root [] found)
