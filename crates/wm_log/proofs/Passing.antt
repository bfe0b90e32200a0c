-- A text that was let through in a second isn't let through in it again.
use Rattle.std.proofs.Common.{◌≡◌, ◌≤◌, ◌<◌, ◌&&◌, ◌||◌, ◌++◌, ◌∷◌, ℕ, Bool, true, false, List, [], inl, inr, refl, sym, ap, ap₂, subst, ◌∙◌, arith, true≢false}
use Rattle.std.specs.Prelude.{◌⊎◌, ◌==◌, not, if◌then◌else◌}
use Rattle.std.specs.List.{list_any}
use Rattle.std.specs.Str.{bytes_eq}
use Rattle.std.proofs.lemmas.Bool.{eqb-true}
use Rattle.std.proofs.lemmas.Bool.Decides.{nat_tests}
use Rattle.std.proofs.lemmas.List.Folds.{list_any-append}
use Rattle.std.proofs.lemmas.Slice.Eq.{bytes_eq-Decides}
use Rattle.wm_log.specs.LogLaws.{GoesOn, NoneTwice, OneLineASecond, are_alike, let_through}
use Rattle.wm_log.specs.LogLimits.{LimitState, after_logging, at_second, has_text, passes_limit}

-- ---- what is past: a text of an earlier second, or one that was let through in this one

abbrev Past : ℕ → List ℕ → LimitState → Type 0
Past second text state = (second < state.second) ⊎ ((second ≡ state.second) × (has_text text state.texts ≡ true))

past_at : (second : ℕ) (text : List ℕ) (state : LimitState) (t : ℕ) (b : Bool) → (state.second == t) ≡ b → state.second ≤ t → Past second text state → Past second text (if b then state else record { second = t; texts = [] })
past_at second text state t true is le past = past
past_at second text state t false is le (inl lt) = inl (omega arith)
past_at second text state t false is le (inr (same, has)) = inl (grind (arith, nat_tests))

or_true : (a b : Bool) → a ≡ true → (a || b) ≡ true
or_true true b e = refl
or_true false b e = absurd (true≢false (sym e))

past_after : (second : ℕ) (text c : List ℕ) (state : LimitState) (b : Bool) → Past second text state → Past second text (if b then state else record state { texts = state.texts ++ c ∷ [] })
past_after second text c state true past = past
past_after second text c state false (inl lt) = inl lt
past_after second text c state false (inr (same, has)) = inr (same, list_any-append (bytes_eq text) state.texts (c ∷ []) ∙ or_true _ _ has)

second_at : (state : LimitState) (t : ℕ) (b : Bool) → (state.second == t) ≡ b → (if b then state else record { second = t; texts = [] }).second ≡ t
second_at state t true is = eqb-true state.second t is
second_at state t false is = refl

second_after : (c : List ℕ) (state : LimitState) (b : Bool) → (if b then state else record state { texts = state.texts ++ c ∷ [] }).second ≡ state.second
second_after c state true = refl
second_after c state false = refl

-- a line of what is past isn't let through
and_false : (a b : Bool) → b ≡ false → (a && b) ≡ false
and_false true b e = e
and_false false b e = refl

false_and : (a b : Bool) → a ≡ false → (a && b) ≡ false
false_and true b e = absurd (true≢false e)
false_and false b e = refl

earlier : (n m : ℕ) → n < m → (n == m) ≡ false
earlier n m lt = grind (arith, nat_tests)

by_same : (text c : List ℕ) (state : LimitState) (b : Bool) → bytes_eq text c ≡ b → has_text text state.texts ≡ true → has_text c state.texts ≡ false → b ≡ false
by_same text c state false is has hasnt = refl
by_same text c state true is has hasnt = absurd (true≢false (sym has ∙ ap (λ (x : List ℕ). has_text x state.texts) ((bytes_eq-Decides text c).0 is) ∙ hasnt))

not_true : (a : Bool) → not a ≡ true → a ≡ false
not_true true e = absurd (true≢false (sym e))
not_true false e = refl

differs : (second : ℕ) (text c : List ℕ) (state : LimitState) → Past second text state → not (has_text c state.texts) ≡ true → are_alike (second, text) (state.second, c) ≡ false
differs second text c state (inl lt) passes = false_and (second == state.second) (bytes_eq text c) (earlier second state.second lt)
differs second text c state (inr (same, has)) passes =
    and_false (second == state.second) (bytes_eq text c) (by_same text c state (bytes_eq text c) refl has (not_true _ passes))

among_rest : (p : Bool) (line head : ℕ × List ℕ) (rest : List (ℕ × List ℕ)) → (p ≡ true → are_alike line head ≡ false) → list_any (are_alike line) rest ≡ false → list_any (are_alike line) (if p then head ∷ rest else rest) ≡ false
among_rest true line head rest other none = ap₂ (λ x y. x || y) (other refl) none
among_rest false line head rest other none = none

module _ (line : ℕ × List ℕ) (state : LimitState) where
  abbrev here : LimitState
  here = at_second line.0 state

  abbrev next : LimitState
  next = after_logging line.0 line.1 state

  here_second : here.second ≡ line.0
  here_second = second_at state line.0 (state.second == line.0) refl

  next_second : next.second ≡ line.0
  next_second = second_after line.1 here (has_text line.1 here.texts) ∙ here_second

  past_here : (second : ℕ) (c : List ℕ) → state.second ≤ line.0 → Past second c state → Past second c here
  past_here second c le past = past_at second c state line.0 (state.second == line.0) refl le past

  past_next : (second : ℕ) (c : List ℕ) → Past second c here → Past second c next
  past_next second c past = past_after second c line.1 here (has_text line.1 here.texts) past

never_again : (lines : List (ℕ × List ℕ)) (state : LimitState) (second : ℕ) (c : List ℕ) → GoesOn state.second lines → Past second c state → list_any (are_alike (second, c)) (let_through lines state) ≡ false
never_again [] state second c goes past = refl
never_again (line ∷ lines) state second c goes past =
    let now = past_here line state second c goes.0 past in
    let rest = never_again lines (next line state) second c (subst (λ (t : ℕ). GoesOn t lines) (sym (next_second line state)) goes.1) (past_next line state second c now) in
    among_rest (passes_limit line.0 line.1 state) (second, c) line (let_through lines (next line state))
    (λ passes. subst (λ (t : ℕ). are_alike (second, c) (t, line.1) ≡ false) (here_second line state) (differs second c line.1 (here line state) now passes)) rest

logged_after : (c : List ℕ) (state : LimitState) (b : Bool) → has_text c state.texts ≡ b → has_text c (if b then state else record state { texts = state.texts ++ c ∷ [] }).texts ≡ true
logged_after c state true has = has
logged_after c state false has = list_any-append (bytes_eq c) state.texts (c ∷ []) ∙ ap₂ (λ x y. x || (y || false)) has ((bytes_eq-Decides c c).1 refl)

put_first : (p : Bool) (head : ℕ × List ℕ) (rest : List (ℕ × List ℕ)) → list_any (are_alike head) rest ≡ false → NoneTwice rest → NoneTwice (if p then head ∷ rest else rest)
put_first true head rest none twice = (none, twice)
put_first false head rest none twice = twice

none_twice : (lines : List (ℕ × List ℕ)) (state : LimitState) → GoesOn state.second lines → NoneTwice (let_through lines state)
none_twice [] state goes = tt
none_twice (line ∷ lines) state goes =
    let goes_on = subst (λ (t : ℕ). GoesOn t lines) (sym (next_second line state)) goes.1 in
    let logged = logged_after line.1 (here line state) (has_text line.1 (here line state).texts) refl in
    put_first (passes_limit line.0 line.1 state) line (let_through lines (next line state))
    (never_again lines (next line state) line.0 line.1 goes_on (inr (sym (next_second line state), logged))) (none_twice lines (next line state) goes_on)

pub one_line : OneLineASecond
one_line lines goes = none_twice lines (record { second = 0; texts = [] }) goes
