use Rattle.std.proofs.Common.{ℕ, List, [], ◌∷◌, ◌++◌, ◌≡◌, ◌⊎◌, inl, inr, Option, length, refl, sym, ap, ◌∙◌, append-nil, arith}
use Rattle.wm_names.specs.Paths.{Path}
use Rattle.wm_names.specs.declared.entry.Meta.{Meta}
use Rattle.wm_crawler.specs.Levels.{paired_each}
use Rattle.wm_crawler.proofs.telling.paired_each.Goals as goal

nothing : {A : Type 0} (xs : List A) (n : ℕ) → n ≡ length xs → n ≡ 0 → xs ≡ []
nothing [] n l e = refl
nothing (x ∷ xs) n l e = absurd (omega (arith, l, e))

no_second : (ps : List Path) (ms : List (Option Meta)) → ms ≡ [] → paired_each ps ms ≡ []
no_second [] ms e = refl
no_second (p ∷ ps) ms e = ap (paired_each (p ∷ ps)) e

-- one of the two has come to its end
ended : {X Y : Type 0} {S : X → Type 0} {T : Y → Type 0} (ps : List Path) (ms : List (Option Meta)) (n m : ℕ) → n ≡ length ps → m ≡ length ms
    → ((x : X) × ((n ≡ 0) × S x)) ⊎ ((y : Y) × ((m ≡ 0) × T y)) → paired_each ps ms ≡ []
ended ps ms n m l k (inl e) = ap (λ xs. paired_each xs ms) (nothing ps n l e.1.0)
ended ps ms n m l k (inr e) = no_second ps ms (nothing ms m k e.1.0)

pub returns : goal.returns
returns c =
    let a = c.loop-path.path-iterator.a.rest in
    let b = c.loop-path.path-iterator.b.rest in
    sym (append-nil c.loop-path.found.items) ∙ ap (λ xs. c.loop-path.found.items ++ xs) (sym (ended a.items b.items a.len b.len a.ok.0 b.ok.0 c.in-None.ensures.steps)) ∙ c.loop-path.invariant
