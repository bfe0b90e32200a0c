-- What is sent of a line, byte by byte and line by line.
use Rattle.std.proofs.Common.{◌≡◌, ◌∙◌, ◌≤◌, ◌+◌, ◌++◌, ◌∷◌, ℕ, List, [], Option, Some, None, length, take, drop, sym, ap, subst, append_assoc, append-nil, take_all}
use Rattle.std.proofs.lemmas.List.{take-append-drop}
use Rattle.std.proofs.lemmas.List.Elements.{All-append, All-cons, All-nil}
use Rattle.std.specs.Io.KnownBytes.{Appends, Keeps}
use Rattle.std.specs.List.{concat}
use Rattle.wm_client.specs.Syncs.{SendsStarts}
use Rattle.wm_client.specs.Talks.{AppendsStart, IsStartOf}
use Rattle.wm_client.proofs.Lines.{grown_twice}
use Rattle.wm_client.proofs.Printing.{concat-append}

-- known bytes that stay grow by nothing
kept_none : (a b : Option (List ℕ)) → Keeps a b → Appends a b []
kept_none None b kept = tt
kept_none (Some x) None kept = kept
kept_none (Some x) (Some y) kept = kept ∙ sym (append-nil x)

pub none_grown : (a : Option (List ℕ)) → Appends a a []
none_grown None = tt
none_grown (Some x) = sym (append-nil x)

-- what was appended before stays if the bytes are kept
pub kept_grown : (a b c : Option (List ℕ)) (xs : List ℕ) → Appends a b xs → Keeps b c → Appends a c xs
kept_grown a b c xs grown kept = subst (Appends a c) (append-nil xs) (grown_twice a b c xs [] grown (kept_none b c kept))

-- so many bytes of a line, and then more of the rest
pub more_sent : (a b c : Option (List ℕ)) (bs : List ℕ) (s n : ℕ) → take (s + n) bs ≡ take s bs ++ take n (drop s bs) → Appends a b (take s bs) → Appends b c (take n (drop s bs)) → Appends a c (take (s + n) bs)
more_sent a b c bs s n split before now = subst (Appends a c) (sym split) (grown_twice a b c _ _ before now)

-- so many bytes of a line are a start of it
pub start_taken : (a b : Option (List ℕ)) (bs : List ℕ) (n : ℕ) → Appends a b (take n bs) → AppendsStart a b bs
start_taken a b bs n grown = (take n bs, (drop n bs, sym (take-append-drop n bs)), grown)

pub all_taken : (a b : Option (List ℕ)) (bs : List ℕ) (n : ℕ) → length bs ≤ n → Appends a b (take n bs) → Appends a b bs
all_taken a b bs n above grown = subst (Appends a b) (take_all n bs above) grown

-- a start of the first part of a line is a start of the line
pub start_first : (a b : Option (List ℕ)) (first second : List ℕ) → AppendsStart a b first → AppendsStart a b (first ++ second)
start_first a b first second (start, (rest, is), grown) = (start, (rest ++ second, ap (λ (l : List ℕ). l ++ second) is ∙ append_assoc start rest second), grown)

-- the first part of a line, and then a start of the second
pub start_second : (a b c : Option (List ℕ)) (first second : List ℕ) → Appends a b first → AppendsStart b c second → AppendsStart a c (first ++ second)
start_second a b c first second whole (start, (rest, is), grown) = (
  first ++ start,
  (rest, ap (λ (l : List ℕ). first ++ l) is ∙ sym (append_assoc first start rest)),
  grown_twice a b c first start whole grown,
)

-- ---- starts of a line, one behind the other

pub none_sent : (line : List ℕ) (a : Option (List ℕ)) → SendsStarts line a a
none_sent line a = ([], All-nil (IsStartOf line), none_grown a)

pub one_more_sent : (line : List ℕ) (a b c : Option (List ℕ)) → SendsStarts line a b → AppendsStart b c line → SendsStarts line a c
one_more_sent line a b c (starts, all, before) (start, is, now) = (
  starts ++ start ∷ [],
  All-append (IsStartOf line) starts (start ∷ []) all (All-cons (IsStartOf line) start [] is (All-nil (IsStartOf line))),
  subst (Appends a c) (sym (concat-append starts (start ∷ []) ∙ ap (λ (l : List ℕ). concat starts ++ l) (append-nil start))) (grown_twice a b c _ _ before now),
)
