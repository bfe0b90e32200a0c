-- An operation more makes a history that operations made.
use Rattle.std.proofs.Common.{◌≡◌, List, [], ◌∷◌, fold, sym, ◌++◌, ap, ◌∙◌, refl}
use Rattle.wm_view.specs.Histories.{History, after_operation, new_history, IsMade}
use Rattle.wm_view.specs.declared.op.Op.{Op}

one_more : (h : History) (ops : List Op) (op : Op) → fold after_operation h (ops ++ op ∷ []) ≡ after_operation (fold after_operation h ops) op
one_more h [] op = refl
one_more h (o ∷ ops) op = one_more (after_operation h o) ops op

-- an operation more makes a history that operations made
pub made_after : (h : History) (op : Op) → IsMade h → IsMade (after_operation h op)
made_after h op (i, r, ops, e) = (i, r, ops ++ op ∷ [], ap (λ k. after_operation k op) e ∙ sym (one_more (new_history i r) ops op))
