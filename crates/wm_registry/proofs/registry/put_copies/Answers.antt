-- The copy has the entries that the iterator has shown, and the iterator has the others.
use Rattle.std.proofs.Common.{◌≡◌, ℕ, Bool, true, false, true≢false, cond, List, [], ◌∷◌, ◌++◌, Some, None, is_some, append_assoc, refl, sym, ap, ◌∙◌}
use Rattle.std.proofs.lemmas.Cmp.{nat_list_eq_equiv}
use Rattle.std.specs.List.{AllByRecursion, IsDistinct}
use Rattle.std.specs.Map.{keys_of, lookup}
use Rattle.std.specs.Str.{bytes_eq}
use Rattle.wm_registry.proofs.registry.put_copies.Goals as goal

-- what holds of every key holds of one between others
of_middle : {X : Type 0} (P : List ℕ → Type 0) (es rest : List (List ℕ × X)) (k : List ℕ) (v : X) → AllByRecursion P (keys_of (es ++ ((k, v) ∷ rest))) → P k
of_middle P [] rest k v all = all.0
of_middle P (e ∷ es) rest k v all = of_middle P es rest k v all.1

-- where all keys differ, a key isn't among those before it
absent : {X : Type 0} (es rest : List (List ℕ × X)) (k : List ℕ) (v : X) → IsDistinct bytes_eq (keys_of (es ++ ((k, v) ∷ rest))) → lookup (bytes_eq k) es ≡ None
unfolding IsDistinct
absent [] rest k v apart = refl
absent (e ∷ es) rest k v apart =
    let other : bytes_eq e.0 k ≡ false = of_middle (λ y. bytes_eq e.0 y ≡ false) es rest k v apart.0 in
    ap (λ t. cond t (Some e.1) (lookup (bytes_eq k) es)) (nat_list_eq_equiv.symm k e.0 ∙ other) ∙ absent es rest k v apart.1

-- the next entry goes last, since it isn't there yet
goes_on : {X : Type 0} (m all rest left new : List (List ℕ × X)) (k : List ℕ) (v : X) (b : Bool) → IsDistinct bytes_eq (keys_of all) → m ++ left ≡ all → left ≡ (k, v) ∷ rest
    → (b ≡ true → (lookup (bytes_eq k) m ≡ None) × (new ≡ m ++ (k, v) ∷ [])) → (b ≡ false → (is_some (lookup (bytes_eq k) m) ≡ true) × (new ≡ m)) → new ++ rest ≡ all
goes_on m all rest left new k v true apart so_far next added there =
    ap (λ l. l ++ rest) (added refl).1 ∙ append_assoc m ((k, v) ∷ []) rest ∙ ap (λ l. m ++ l) (sym next) ∙ so_far
goes_on m all rest left new k v false apart so_far next added there =
    let whole : m ++ ((k, v) ∷ rest) ≡ all = ap (λ l. m ++ l) (sym next) ∙ so_far in
    absurd (true≢false (sym (there refl).0 ∙ ap is_some (absent m rest k v (rw whole apart))))

pub loop-path-preserved : goal.loop-path-preserved
loop-path-preserved c =
    let same : (c.in-Some.path.now, c.in_ok-copy.field-0) ∷ c.next.new.self ≡ (c.in-Some.path.now, c.in-Some.root.now) ∷ c.next.new.self = λ i. (c.in-Some.path.now, c.in_ok-copy.ensures i) ∷ c.next.new.self in
    goes_on c.loop-path.copy.entries c.args.roots.now.entries c.next.new.self c.loop-path.path-iterator c.put_new.new.roots.entries c.in-Some.path.now c.in_ok-copy.field-0 c.in_ok-put_new.field-0 c.iter-path-items.ensures.unique c.loop-path.invariant (c.in-Some.ensures.steps ∙ sym same) c.in_ok-put_new.ensures.added c.in_ok-put_new.ensures.there
