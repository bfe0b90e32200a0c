use Rattle.std.proofs.Common.{◌≡◌, ◌⊎◌, inl, inr, ℕ, ◌∙◌}
use Rattle.wm_names.proofs.TextOrders.{by_lengths}
use Rattle.wm_names.proofs.text_order.compare_bytes.Goals as goal

-- one of the two has come to its end
ended : {X Y : Type 0} {S : X → Type 0} {T : Y → Type 0} (n m : ℕ) → ((x : X) × ((n ≡ 0) × S x)) ⊎ ((y : Y) × ((m ≡ 0) × T y)) → (n ≡ 0) ⊎ (m ≡ 0)
ended n m (inl e) = inl e.1.0
ended n m (inr e) = inr e.1.0

pub returns : goal.returns
returns c =
    let a = c.loop-x.x-iterator.a.rest.now in
    let b = c.loop-x.x-iterator.b.rest.now in
    c.cmp-2.ensures ∙ by_lengths c.args.one.now c.args.other.now a b c.loop-x.invariant.order c.loop-x.invariant.passed (ended _ _ c.in-None.ensures.steps)
