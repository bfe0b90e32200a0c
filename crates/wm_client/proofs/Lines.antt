-- What is printed line by line is the first lines of the input.
use Rattle.std.proofs.Common.{◌≡◌, ◌∙◌, ◌<◌, ℕ, true, List, ◌++◌, refl, sym, subst, ap, append_assoc, append-nil, ◌+◌, arith, zero, suc, Option, Some, None}
use Rattle.std.specs.Io.KnownBytes.{Appends}
use Rattle.std.specs.Io.BufRead.{drop_through, take_through}
use Rattle.wm_client.specs.Talks.{HasLines, has_come_whole, lines_first}

-- what stands behind the first n lines
abbrev pub lines_behind : ℕ → List ℕ → List ℕ
lines_behind zero input = input
lines_behind (suc n) input = lines_behind n (drop_through 10 input)

one_more : (n : ℕ) (input : List ℕ) → lines_first (suc n) input ≡ lines_first n input ++ take_through 10 (lines_behind n input)
one_more zero input = append-nil (take_through 10 input)
one_more (suc n) input = ap (λ l. take_through 10 input ++ l) (one_more n (drop_through 10 input)) ∙ sym (append_assoc (take_through 10 input) _ _)

one_behind : (n : ℕ) (input : List ℕ) → lines_behind (suc n) input ≡ drop_through 10 (lines_behind n input)
one_behind zero input = refl
one_behind (suc n) input = one_behind n (drop_through 10 input)

plus_one : (n : ℕ) → n + 1 ≡ suc n
plus_one n = omega arith

-- the same of one more line
pub next_line : (n : ℕ) (input : List ℕ) → lines_first (n + 1) input ≡ lines_first n input ++ take_through 10 (lines_behind n input)
next_line n input = ap (λ m. lines_first m input) (plus_one n) ∙ one_more n input

pub next_behind : (n : ℕ) (input : List ℕ) → lines_behind (n + 1) input ≡ drop_through 10 (lines_behind n input)
next_behind n input = ap (λ m. lines_behind m input) (plus_one n) ∙ one_behind n input

whole_more : (n : ℕ) (input : List ℕ) → HasLines n input → has_come_whole (take_through 10 (lines_behind n input)) ≡ true → HasLines (suc n) input
whole_more zero input has whole = (whole, tt)
whole_more (suc n) input has whole = (has.0, whole_more n (drop_through 10 input) has.1 whole)

-- one more line has come whole
pub one_more_whole : (n : ℕ) (input : List ℕ) → HasLines n input → has_come_whole (take_through 10 (lines_behind n input)) ≡ true → HasLines (n + 1) input
one_more_whole n input has whole = subst (λ m. HasLines m input) (sym (plus_one n)) (whole_more n input has whole)

pub whole_first : (n : ℕ) (input : List ℕ) → has_come_whole (take_through 10 input) ≡ true → HasLines n (drop_through 10 input) → HasLines (n + 1) input
whole_first n input whole has = subst (λ m. HasLines m input) (sym (plus_one n)) (whole, has)

pub rest_whole : (n : ℕ) (input : List ℕ) → HasLines (n + 1) input → HasLines n (drop_through 10 input)
rest_whole n input has = (subst (λ m. HasLines m input) (plus_one n) has).1

-- each of n whole lines has come whole
pub line_whole : (n k : ℕ) (input : List ℕ) → k < n → HasLines n input → has_come_whole (take_through 10 (lines_behind k input)) ≡ true
line_whole zero k input below has = absurd (omega (arith, below))
line_whole (suc n) zero input below has = has.0
line_whole (suc n) (suc k) input below has = line_whole n k (drop_through 10 input) (omega (arith, below)) has.1

-- the first line, and then n more
pub reply_first : (n : ℕ) (input : List ℕ) → lines_first (n + 1) input ≡ take_through 10 input ++ lines_first n (drop_through 10 input)
reply_first n input = ap (λ m. lines_first m input) (plus_one n)

pub one_first : (input : List ℕ) → lines_first 1 input ≡ take_through 10 input
one_first input = append-nil (take_through 10 input)

-- known bytes that grow twice grow by both
pub grown_twice : (a b c : Option (List ℕ)) (xs ys : List ℕ) → Appends a b xs → Appends b c ys → Appends a c (xs ++ ys)
grown_twice None b c xs ys p q = tt
grown_twice (Some x) None c xs ys p q = absurd p
grown_twice (Some x) (Some y) None xs ys p q = absurd q
grown_twice (Some x) (Some y) (Some z) xs ys p q = q ∙ ap (λ l. l ++ ys) p ∙ append_assoc x xs ys
