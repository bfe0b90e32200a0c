-- The list of a share, in a log that grows.
use Rattle.std.proofs.Common.{◌≡◌, ◌≢◌, ℕ, ◌≤◌, ◌==◌, Bool, true, false, cond, List, [], ◌∷◌, ◌++◌, map, filter, length, refl, ap, sym, ◌∙◌, subst}
use mathlib.Core.Logic.{⊎_elim}
use Rattle.std.proofs.lemmas.List.{append-nil, map-append}
use Rattle.std.proofs.lemmas.List.Elements.{filter-append}
use Rattle.std.proofs.lemmas.Bool.Decides.{eqb_tells}
use mathlib.Core.List.{IsPrefix}
use Rattle.wm_view.specs.declared.op.Op.{Op}
use Rattle.wm_share.specs.declared.entry.Entry.{Entry}
use Rattle.wm_share.specs.declared.share_id.ShareId.{ShareId}
use Rattle.wm_share.specs.Logs.{operations_of}
use Rattle.wm_share.specs.PublishedLists.{PublishedList, Begins}
use Rattle.wm_share.proofs.Fronts.{prefix_shorter}

pub operations-append : (n : ℕ) (xs ys : List Entry) → operations_of n (xs ++ ys) ≡ operations_of n xs ++ operations_of n ys
operations-append n xs ys = ap (map (λ (e : Entry). e.op)) (filter-append (λ (e : Entry). e.share == n) xs ys) ∙ map-append (λ (e : Entry). e.op) (filter (λ (e : Entry). e.share == n) xs) (filter (λ (e : Entry). e.share == n) ys)

pub operations-prefix : (n : ℕ) (xs ys : List Entry) → IsPrefix xs ys → IsPrefix (operations_of n xs) (operations_of n ys)
operations-prefix n xs ys p = (operations_of n p.0, sym (operations-append n xs p.0) ∙ ap (operations_of n) p.1)

equal_tells : (a b : ℕ) → a ≡ b → (a == b) ≡ true
equal_tells a b e = ⊎_elim (λ p. p.0) (λ p. absurd (p.1 e)) (eqb_tells a b)

other_tells : (a b : ℕ) → a ≢ b → (a == b) ≡ false
other_tells a b h = ⊎_elim (λ p. absurd (h p.1)) (λ p. p.0) (eqb_tells a b)

abbrev one_of : Entry → Bool → List Op
one_of e b = map (λ (x : Entry). x.op) (cond b (e ∷ []) [])

pub own_more : (n : ℕ) (log : List Entry) (e : Entry) → e.share ≡ n → operations_of n (log ++ e ∷ []) ≡ operations_of n log ++ e.op ∷ []
own_more n log e is = operations-append n log (e ∷ []) ∙ ap (λ b. operations_of n log ++ one_of e b) (equal_tells e.share n is)

pub others_stay : (n : ℕ) (log : List Entry) (e : Entry) → e.share ≢ n → operations_of n (log ++ e ∷ []) ≡ operations_of n log
others_stay n log e h = operations-append n log (e ∷ []) ∙ (ap (λ b. operations_of n log ++ one_of e b) (other_tells e.share n h) ∙ append-nil (operations_of n log))

-- ---- two beginnings of one list

-- a share's list in a log
abbrev pub list_in : ShareId → List Entry → PublishedList
list_in share log = record { share = share; operations = operations_of share.number log }

-- the shorter is a beginning of the longer
pub begins_shorter : (s t : ShareId) (xs ys both : List Entry) → s ≡ t → IsPrefix xs both → IsPrefix ys both
    → length (operations_of s.number xs) ≤ length (operations_of t.number ys) → Begins (list_in s xs) (list_in t ys)
begins_shorter s t xs ys both e p q =
    subst (λ (u : ShareId). length (operations_of s.number xs) ≤ length (operations_of u.number ys) → Begins (list_in s xs) (list_in u ys)) e
    (λ le. (refl, prefix_shorter (operations_of s.number xs) (operations_of s.number ys) (operations_of s.number both) (operations-prefix s.number xs both p) (operations-prefix s.number ys both q) le))
