-- What is printed line by line is printed whole.
use Rattle.std.proofs.Common.{◌≡◌, ◌∙◌, ◌&&◌, ◌+◌, ℕ, Bool, true, List, [], ◌∷◌, ◌++◌, Option, length, refl, sym, ap, ap₂, subst, append_assoc, append-nil, length-append}
use Rattle.std.specs.Io.KnownBytes.{Appends}
use Rattle.std.specs.List.{concat}
use Rattle.std.proofs.lemmas.List.Folds.{list_all-append}
use Rattle.wm_client.specs.Talks.{PrintsLines, has_come_whole}
use Rattle.wm_client.proofs.Lines.{grown_twice}

pub concat-append : (xs ys : List (List ℕ)) → concat (xs ++ ys) ≡ concat xs ++ concat ys
concat-append [] ys = refl
concat-append (x ∷ xs) ys = ap (λ (bytes : List ℕ). x ++ bytes) (concat-append xs ys) ∙ sym (append_assoc x (concat xs) (concat ys))

-- lines, and then others
pub lines_joined : (xs ys : List (List ℕ)) (held mid holds : Option (List ℕ)) → PrintsLines xs held mid → PrintsLines ys mid holds → PrintsLines (xs ++ ys) held holds
lines_joined xs ys held mid holds p q = (
  list_all-append has_come_whole xs ys ∙ ap₂ (λ (a b : Bool). a && b) p.0 q.0,
  subst (Appends held holds) (sym (concat-append xs ys)) (grown_twice held mid holds _ _ p.1 q.1),
)

pub one_line : (line : List ℕ) (held holds : Option (List ℕ)) → has_come_whole line ≡ true → Appends held holds line → PrintsLines (line ∷ []) held holds
one_line line held holds whole printed = (ap (λ (b : Bool). b && true) whole, subst (Appends held holds) (sym (append-nil line)) printed)

-- so many lines were printed
abbrev pub PrintsCount : ℕ → Option (List ℕ) → Option (List ℕ) → Type 0
PrintsCount n held holds = (lines : List (List ℕ)) × PrintsLines lines held holds × (length lines ≡ n)

pub one_line_more : (n : ℕ) (line : List ℕ) (held mid holds : Option (List ℕ)) → PrintsCount n held mid → PrintsLines (line ∷ []) mid holds → PrintsCount (n + 1) held holds
one_line_more n line held mid holds p q = (p.0 ++ line ∷ [], lines_joined p.0 (line ∷ []) held mid holds p.1 q, length-append p.0 (line ∷ []) ∙ ap (λ (m : ℕ). m + 1) p.2)
