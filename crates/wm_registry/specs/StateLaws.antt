-- The laws of `Wire` for roots and states.
-- For proofs and the ghost members of impls: a reader of definitions may skip it.
use Rattle.std.proofs.Common.{◌≡◌, ℕ, ◌*◌, ◌^◌, ◌<◌, ◌≤◌, List, [], ◌∷◌, ◌++◌, length, flat_map, sym, ap, subst, ◌∙◌, append_assoc, arith}
use Rattle.std.proofs.lemmas.List.{length-append}
use Rattle.std.specs.List.{AllByRecursion}
use Rattle.byteorder.specs.Endian.{big_bytes}
use Rattle.wm_wire.specs.Laws.{alone_u64}
use Rattle.wm_wire.specs.ListLaws.{alone_list}
use Rattle.wm_wire.specs.PairLaws.{same_prefix}
use Rattle.wm_wire.specs.Spelling.{text, IsList, list_spelling}
use Rattle.wm_disk.specs.Counters.{max_counter}
use Rattle.wm_registry.specs.Limits.{max_triggers, max_roots}
use Rattle.wm_registry.specs.PathSpelling.{IsPath, alone_path}
use Rattle.wm_registry.specs.Roots.{State}
use Rattle.wm_registry.specs.Spelling.{IsTrigger, IsRoot, IsState, IsStateIn, trigger_spelling, root_spelling, state_spelling}
use Rattle.wm_registry.specs.TriggerLaws.{alone_trigger, small_trigger}
use Rattle.wm_registry.specs.Versions.{max_state_bytes}
use Rattle.wm_registry.specs.declared.root.Root.{Root}
use Rattle.wm_registry.specs.declared.version.Version.{Version}
use Rattle.wm_registry.specs.declared.version.Version.TheVariants.{One, Two}
use Rattle.wm_names.specs.Paths.{max_root_path}

-- items of at most `most` bytes each have at most so many times their number together
pub length-flat_map-at_most : {V : Type 0} (fits : V → Type 0) (spelling : V → List ℕ) (most : ℕ) → ((x : V) → fits x → length (spelling x) ≤ most) → (items : List V) → AllByRecursion fits items → length (flat_map spelling items) ≤ length items * most
length-flat_map-at_most fits spelling most each [] h = omega arith
length-flat_map-at_most fits spelling most each (x ∷ xs) h =
    omega (arith, length-append (spelling x) (flat_map spelling xs), each x h.0, length-flat_map-at_most fits spelling most each xs h.1)

-- roots and states of the same parts are the same
same_root : (x y : List ℕ × Root) → x.0 ≡ y.0 → x.1.number ≡ y.1.number → x.1.triggers ≡ y.1.triggers → x ≡ y
same_root x y p q r = λ i. (p i, record { number = q i; triggers = r i })

same_state : (x y : State) → x.version ≡ y.version → x.incarnation ≡ y.incarnation → x.next ≡ y.next → x.roots ≡ y.roots → x ≡ y
same_state x y o p q r = λ i. record { version = o i; incarnation = p i; next = q i; roots = r i }

pub alone_root : (v : Version) (x y : List ℕ × Root) (a b : List ℕ) → IsRoot v x → IsRoot v y → root_spelling v x ++ a ≡ root_spelling v y ++ b → x ≡ y
alone_root v x y a b hx hy e =
    let triggers = list_spelling (trigger_spelling v) in
    let whole : text x.0 ++ ((big_bytes 8 x.1.number ++ triggers x.1.triggers) ++ a) ≡ text y.0 ++ ((big_bytes 8 y.1.number ++ triggers y.1.triggers) ++ b) =
    sym (append_assoc (text x.0) (big_bytes 8 x.1.number ++ triggers x.1.triggers) a) ∙ e ∙ append_assoc (text y.0) (big_bytes 8 y.1.number ++ triggers y.1.triggers) b in
    let path = same_prefix IsPath text alone_path x.0 y.0 _ _ hx.path hy.path whole in
    let behind : big_bytes 8 x.1.number ++ (triggers x.1.triggers ++ a) ≡ big_bytes 8 y.1.number ++ (triggers y.1.triggers ++ b) =
    sym (append_assoc (big_bytes 8 x.1.number) (triggers x.1.triggers) a) ∙ path.rest ∙ append_assoc (big_bytes 8 y.1.number) (triggers y.1.triggers) b in
    let number = same_prefix (λ n. n < 2 ^ 64) (big_bytes 8) alone_u64 x.1.number y.1.number _ _ (omega (arith, hx.number)) (omega (arith, hy.number)) behind in
    let last = alone_list max_triggers (IsTrigger v) (trigger_spelling v) (alone_trigger v) x.1.triggers y.1.triggers a b hx.triggers hy.triggers number.rest in
    same_root x y path.value number.value last

pub short_root : (v : Version) (x : List ℕ × Root) → IsRoot v x → length (root_spelling v x) < 2 ^ 32
short_root v x h =
    let triggers = x.1.triggers in
    let each = length-flat_map-at_most (IsTrigger v) (trigger_spelling v) 21000 (small_trigger v v) triggers h.triggers.each in
    let path : length x.0 ≤ max_root_path = h.path.is_text.short in
    omega (arith, each, path, h.triggers.count, length-append (text x.0) (big_bytes 8 x.1.number ++ list_spelling (trigger_spelling v) triggers))

-- a state's spelling leaves room below 2 ^ 32
pub small_state : (v : Version) → max_state_bytes v ≤ 4194291
small_state One = omega arith
small_state Two = omega arith

-- two of one version
alone_states : (x y : State) (a b : List ℕ) → IsState x → IsList max_roots (IsRoot x.version) (root_spelling x.version) y.roots → y.incarnation ≤ max_counter → y.next ≤ max_counter → y.version ≡ x.version
    → state_spelling x ++ a ≡ state_spelling (record y { version = x.version }) ++ b → x ≡ y
alone_states x y a b hx hr hi hn version e =
    let v = x.version in
    let roots = list_spelling (root_spelling v) in
    let whole : big_bytes 8 x.incarnation ++ ((big_bytes 8 x.next ++ roots x.roots) ++ a) ≡ big_bytes 8 y.incarnation ++ ((big_bytes 8 y.next ++ roots y.roots) ++ b) =
    sym (append_assoc (big_bytes 8 x.incarnation) (big_bytes 8 x.next ++ roots x.roots) a) ∙ e ∙ append_assoc (big_bytes 8 y.incarnation) (big_bytes 8 y.next ++ roots y.roots) b in
    let incarnation = same_prefix (λ n. n < 2 ^ 64) (big_bytes 8) alone_u64 x.incarnation y.incarnation _ _ (omega (arith, hx.incarnation)) (omega (arith, hi)) whole in
    let behind : big_bytes 8 x.next ++ (roots x.roots ++ a) ≡ big_bytes 8 y.next ++ (roots y.roots ++ b) =
    sym (append_assoc (big_bytes 8 x.next) (roots x.roots) a) ∙ incarnation.rest ∙ append_assoc (big_bytes 8 y.next) (roots y.roots) b in
    let next = same_prefix (λ n. n < 2 ^ 64) (big_bytes 8) alone_u64 x.next y.next _ _ (omega (arith, hx.next)) (omega (arith, hn)) behind in
    let last = alone_list max_roots (IsRoot v) (root_spelling v) (alone_root v) x.roots y.roots a b hx.roots hr next.rest in
    same_state x y (sym version) incarnation.value next.value last

pub alone_state : (v : Version) (x y : State) (a b : List ℕ) → IsStateIn v x → IsStateIn v y → state_spelling x ++ a ≡ state_spelling y ++ b → x ≡ y
alone_state v x y a b hx hy e =
    let same : y.version ≡ x.version = hy.version ∙ sym hx.version in
    alone_states x y a b hx.state (subst (λ w. IsList max_roots (IsRoot w) (root_spelling w) y.roots) same hy.state.roots) hy.state.incarnation hy.state.next same
    (e ∙ ap (λ w. state_spelling (record y { version = w }) ++ b) same)

pub short_state : (v : Version) (x : State) → IsStateIn v x → length (state_spelling x) < 2 ^ 32
short_state v x h = omega (arith, h.state.short, small_state x.version)
