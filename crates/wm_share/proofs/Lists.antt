-- The list with one operation more.
use Rattle.std.proofs.Common.{◌≡◌, ◌+◌, List, [], ◌∷◌, ◌++◌, length, fold, Option, None, refl, ap, ap₂, sym, ◌∙◌, subst, arith, append_assoc, length-append}
use Rattle.std.proofs.lemmas.List.{append-nil}
use mathlib.Core.List.{IsPrefix}
use Rattle.wm_disk.specs.declared.refusal.Refusal.{Refusal}
use Rattle.wm_view.specs.declared.op.Op.{Op}
use Rattle.wm_view.specs.Histories.{History, after_operation, refusal, new_history}
use Rattle.wm_view.specs.Summaries.{Summary, summary}
use Rattle.wm_view.specs.Views.{Performs}
use Rattle.wm_share.specs.PublishedLists.{PublishedList, EndsWith, Begins, history, last_refusal, outcome, with_operations}
use Rattle.wm_share.proofs.Fronts.{prefix_shorter, prefix_whole}

pub after_more : (h : History) (ops : List Op) (op : Op) → fold after_operation h (ops ++ op ∷ []) ≡ after_operation (fold after_operation h ops) op
after_more h [] op = refl
after_more h (o ∷ ops) op = after_more (after_operation h o) ops op

pub refusal_more : (h : History) (last : Option Refusal) (ops : List Op) (op : Op) → last_refusal h last (ops ++ op ∷ []) ≡ refusal (fold after_operation h ops) op
refusal_more h last [] op = refl
refusal_more h last (o ∷ ops) op = refusal_more (after_operation h o) (refusal h o) ops op

-- a list that ends with an operation is each of its beginnings that is one shorter, and the operation
pub one_more : (xs ys : List Op) (op : Op) → EndsWith ys op → IsPrefix xs ys → length ys ≡ length xs + 1 → ys ≡ xs ++ op ∷ []
one_more xs ys op ends pre len =
    let b = ends.0 in
    let at_b : IsPrefix b ys = (op ∷ [], sym ends.1) in
    let long : length b ≡ length xs = omega (arith, ap length ends.1, length-append b (op ∷ [])) in
    let same : b ≡ xs = prefix_whole b xs (prefix_shorter b xs ys at_b pre (omega arith)) (omega arith) in
    ends.1 ∙ ap (λ l. l ++ op ∷ []) same

pub list_more : (xs ys : PublishedList) (op : Op) → EndsWith ys.operations op → Begins xs ys → length ys.operations ≡ length xs.operations + 1 → ys ≡ with_operations xs (op ∷ [])
list_more xs ys op ends begins len = λ i. record { share = sym begins.0 i; operations = one_more xs.operations ys.operations op ends begins.1 len i }

-- what is kept of a list is kept of the list with one operation more
pub kept_more : (old new : Summary) (last : Option Refusal) (xs ys : PublishedList) (op : Op)
    → ys ≡ with_operations xs (op ∷ []) → old ≡ summary (history xs) → Performs old op last new
    → (new ≡ summary (history ys)) × (last ≡ outcome ys)
kept_more old new last xs ys op is stands performs =
    let i = xs.share.incarnation in let r = xs.share.root in
    let h = history xs in
    let went = performs h (i, r, xs.operations, refl) (sym stands) in
    subst (λ (l : PublishedList). (new ≡ summary (history l)) × (last ≡ outcome l)) (sym is) (
      sym went.1 ∙ ap summary (sym (after_more (new_history i r) xs.operations op)),
      sym went.0 ∙ sym (refusal_more (new_history i r) None xs.operations op),
    )

-- a fold that adds each operation puts them behind the list
pub fold_adds : (f : PublishedList → Op → PublishedList) → ((list : PublishedList) (op : Op) → f list op ≡ with_operations list (op ∷ [])) → (list : PublishedList) (ops : List Op) → fold f list ops ≡ with_operations list ops
fold_adds f adds list [] = ap (λ l. record list { operations = l }) (sym (append-nil list.operations))
fold_adds f adds list (op ∷ ops) =
    fold_adds f adds (f list op) ops ∙ (ap (λ l. with_operations l ops) (adds list op) ∙ ap (λ l. record list { operations = l }) (append_assoc list.operations (op ∷ []) ops))

-- where all that was sent is absorbed by the shown list, the list is the one before with all that waited
pub shown_whole : (f : PublishedList → Op → PublishedList) → ((list : PublishedList) (op : Op) → f list op ≡ with_operations list (op ∷ [])) → (list shown now : PublishedList) (sent waited : List Op)
    → now ≡ fold f shown sent → shown ≡ list → sent ≡ waited → now ≡ with_operations list waited
shown_whole f adds list shown now sent waited absorbed same is = absorbed ∙ fold_adds f adds shown sent ∙ ap₂ with_operations same is

-- no operation is added
pub nothing_more : (list : PublishedList) (xs ys : List Op) → xs ≡ [] → ys ≡ [] → list ≡ with_operations list (xs ++ ys)
nothing_more list xs ys none nor = ap (λ ops. record list { operations = ops }) (sym (append-nil list.operations)) ∙ ap₂ (λ (first rest : List Op). with_operations list (first ++ rest)) (sym none) (sym nor)
