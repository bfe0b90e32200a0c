-- Of the crawls that were asked for one is changed: its place, what it is then, and that the tickets rise as before.
use Rattle.std.proofs.Common.{◌≡◌, ◌⊎◌, inl, inr, ℕ, zero, suc, ◌+◌, ◌-◌, ◌^◌, ◌==◌, min, Result, ◌<◌, Bool, true, false, ◌||◌, cond, List, [], ◌∷◌, ◌++◌, length, get_or, set, Option, Some, None, position, refl, sym, ap, subst, ◌∙◌, arith, true≢false}
use Rattle.std.proofs.lemmas.Iterator.Adapters.{position_from-zero}
use Rattle.std.proofs.lemmas.List.Quantifiers.{position-Some}
use Rattle.std.specs.Prelude.{IfSome, MatchBool}
use Rattle.std.specs.List.{find, list_any, position_from, remove}
use Rattle.wm_disk.specs.declared.refusal.Refusal.{Refusal}
use Rattle.wm_lines.specs.declared.progress.Progress.{Progress}
use Rattle.wm_root.specs.AskedCrawls.{AskedState, TicketsRise, collected, end_stage, ended_crawl, one_more_waits, running, with_first}
use Rattle.wm_root.specs.declared.asked_crawl.Stage.TheVariants.{Running}
use Rattle.wm_root.specs.declared.asked_crawl.AskedCrawl.{AskedCrawl}

-- ---- the place of the first that passes a test

record IsPlace (test : AskedCrawl → Bool) (crawls : List AskedCrawl) (i : ℕ) : Type 0 where
  pub within : i < length crawls
  pub passes : (d : AskedCrawl) → test (get_or crawls i d) ≡ true
  pub others : (k : ℕ) (d : AskedCrawl) → k < i → test (get_or crawls k d) ≡ false

is_place : (test : AskedCrawl → Bool) (crawls : List AskedCrawl) (i : ℕ) (d : AskedCrawl) → position test crawls ≡ Some i → IsPlace test crawls i
is_place test crawls i d e = record {
  within = (position-Some test crawls i d e).0;
  passes = λ z. (position-Some test crawls i z e).1;
  others = λ k z. (position-Some test crawls i z e).2 k;
}

behind : (test : AskedCrawl → Bool) (first : AskedCrawl) (crawls : List AskedCrawl) (i : ℕ) → IsPlace test (first ∷ crawls) (suc i) → IsPlace test crawls i
behind test first crawls i p = record {
  within = omega (arith, p.within);
  passes = p.passes;
  others = λ k d lt. p.others (suc k) d (omega arith);
}

set_first : (test : AskedCrawl → Bool) (change : AskedCrawl → List AskedCrawl) (crawls : List AskedCrawl) (i : ℕ) (x y : AskedCrawl) → IsPlace test crawls i → x ≡ get_or crawls i x → change x ≡ y ∷ [] → with_first test change crawls ≡ set crawls i y
set_first test change [] i x y p at is = absurd (omega (arith, p.within))
set_first test change (first ∷ crawls) zero x y p at is =
    let here = p.passes first in
    rw here (ap (λ (l : List AskedCrawl). l ++ crawls) (ap change (sym at) ∙ is))
set_first test change (first ∷ crawls) (suc i) x y p at is =
    let here = p.others 0 first (omega arith) in
    rw here (ap (λ (l : List AskedCrawl). first ∷ l) (set_first test change crawls i x y (behind test first crawls i p) at is))

gone_first : (test : AskedCrawl → Bool) (change : AskedCrawl → List AskedCrawl) (crawls : List AskedCrawl) (i : ℕ) (x y : AskedCrawl) → IsPlace test crawls i → x ≡ get_or crawls i x → change x ≡ [] → with_first test change crawls ≡ remove (set crawls i y) i
gone_first test change [] i x y p at is = absurd (omega (arith, p.within))
gone_first test change (first ∷ crawls) zero x y p at is =
    let here = p.passes first in
    rw here (ap (λ (l : List AskedCrawl). l ++ crawls) (ap change (sym at) ∙ is))
gone_first test change (first ∷ crawls) (suc i) x y p at is =
    let here = p.others 0 first (omega arith) in
    rw here (ap (λ (l : List AskedCrawl). first ∷ l) (gone_first test change crawls i x y (behind test first crawls i p) at is))

find_first : (test : AskedCrawl → Bool) (crawls : List AskedCrawl) (i : ℕ) (x : AskedCrawl) → IsPlace test crawls i → x ≡ get_or crawls i x → find test crawls ≡ Some x
find_first test [] i x p at = absurd (omega (arith, p.within))
find_first test (first ∷ crawls) zero x p at =
    let here = p.passes first in
    rw here (ap (λ (c : AskedCrawl). Some c) (sym at))
find_first test (first ∷ crawls) (suc i) x p at =
    let here = p.others 0 first (omega arith) in
    rw here (find_first test crawls i x (behind test first crawls i p) at)

pub set-at : (test : AskedCrawl → Bool) (change : AskedCrawl → List AskedCrawl) (crawls : List AskedCrawl) (i : ℕ) (x y : AskedCrawl) → position test crawls ≡ Some i → x ≡ get_or crawls i x → change x ≡ y ∷ [] → with_first test change crawls ≡ set crawls i y
set-at test change crawls i x y e at is = set_first test change crawls i x y (is_place test crawls i x e) at is

pub gone-at : (test : AskedCrawl → Bool) (change : AskedCrawl → List AskedCrawl) (crawls : List AskedCrawl) (i : ℕ) (x y : AskedCrawl) → position test crawls ≡ Some i → x ≡ get_or crawls i x → change x ≡ [] → with_first test change crawls ≡ remove (set crawls i y) i
gone-at test change crawls i x y e at is = gone_first test change crawls i x y (is_place test crawls i x e) at is

pub passes-at : (test : AskedCrawl → Bool) (crawls : List AskedCrawl) (i : ℕ) (x : AskedCrawl) → position test crawls ≡ Some i → x ≡ get_or crawls i x → test x ≡ true
passes-at test crawls i x e at = ap test at ∙ (is_place test crawls i x e).passes x

pub find-at : (test : AskedCrawl → Bool) (crawls : List AskedCrawl) (i : ℕ) (x : AskedCrawl) → position test crawls ≡ Some i → x ≡ get_or crawls i x → find test crawls ≡ Some x
find-at test crawls i x e at = find_first test crawls i x (is_place test crawls i x e) at

-- ---- none passes

none_from : (test : AskedCrawl → Bool) (i : ℕ) (crawls : List AskedCrawl) → position_from test i crawls ≡ None → list_any test crawls ≡ false
none_from test i [] e = refl
none_from test i (x ∷ crawls) e = by (test x) e (none_from test (i + 1) crawls)
  where
    by : (b : Bool) → cond b (Some i) (position_from test (i + 1) crawls) ≡ None → (position_from test (i + 1) crawls ≡ None → list_any test crawls ≡ false) → (b || list_any test crawls) ≡ false
    by true f rest = absurd cc
    by false f rest = rest f

neither : (a b : Bool) → (a || b) ≡ false → (a ≡ false) × (b ≡ false)
neither true b e = absurd (true≢false e)
neither false b e = (refl, e)

any_none : (test : AskedCrawl → Bool) (crawls : List AskedCrawl) → position test crawls ≡ None → list_any test crawls ≡ false
any_none test crawls e = none_from test 0 crawls (sym (position_from-zero test crawls) ∙ e)

unchanged : (test : AskedCrawl → Bool) (change : AskedCrawl → List AskedCrawl) (crawls : List AskedCrawl) → list_any test crawls ≡ false → with_first test change crawls ≡ crawls
unchanged test change [] h = refl
unchanged test change (x ∷ crawls) h =
    let both = neither (test x) (list_any test crawls) h in
    let first : test x ≡ false = both.0 in
    rw first (ap (λ (l : List AskedCrawl). x ∷ l) (unchanged test change crawls both.1))

unfound : (test : AskedCrawl → Bool) (crawls : List AskedCrawl) → list_any test crawls ≡ false → find test crawls ≡ None
unfound test [] h = refl
unfound test (x ∷ crawls) h =
    let both = neither (test x) (list_any test crawls) h in
    let first : test x ≡ false = both.0 in
    rw first (unfound test crawls both.1)

pub none_found : (test : AskedCrawl → Bool) (crawls : List AskedCrawl) → find test crawls ≡ None → list_any test crawls ≡ false
none_found test [] e = refl
none_found test (x ∷ crawls) e = by (test x) e (none_found test crawls)
  where
    by : (b : Bool) → cond b (Some x) (find test crawls) ≡ None → (find test crawls ≡ None → list_any test crawls ≡ false) → (b || list_any test crawls) ≡ false
    by true f rest = absurd cc
    by false f rest = rest f

pub same-none : (test : AskedCrawl → Bool) (change : AskedCrawl → List AskedCrawl) (crawls : List AskedCrawl) → position test crawls ≡ None → with_first test change crawls ≡ crawls
same-none test change crawls e = unchanged test change crawls (any_none test crawls e)

pub find-none : (test : AskedCrawl → Bool) (crawls : List AskedCrawl) → position test crawls ≡ None → find test crawls ≡ None
find-none test crawls e = unfound test crawls (any_none test crawls e)

-- ---- the tickets

abbrev pub KeepsTickets : (AskedCrawl → List AskedCrawl) → Type 0
KeepsTickets change = (c : AskedCrawl) → (change c ≡ []) ⊎ ((d : AskedCrawl) × (change c ≡ d ∷ []) × (d.ticket ≡ c.ticket))

lower : (before above : ℕ) (crawls : List AskedCrawl) (last : ℕ) → before < above → TicketsRise above crawls last → TicketsRise before crawls last
lower before above [] last lt h = omega (arith, h)
lower before above (c ∷ crawls) last lt h = (omega (arith, h.0), h.1)

pub rise-first : (test : AskedCrawl → Bool) (change : AskedCrawl → List AskedCrawl) → KeepsTickets change → (before : ℕ) (crawls : List AskedCrawl) (last : ℕ) → TicketsRise before crawls last → TicketsRise before (with_first test change crawls) last
rise-first test change keeps before [] last h = h
rise-first test change keeps before (c ∷ crawls) last h = by (test c) (rise-first test change keeps c.ticket crawls last h.1)
  where
    changed : (one : List AskedCrawl) → (one ≡ []) ⊎ ((d : AskedCrawl) × (one ≡ d ∷ []) × (d.ticket ≡ c.ticket)) → TicketsRise before (one ++ crawls) last
    changed one (inl e) = rw e (lower before c.ticket crawls last h.0 h.1)
    changed one (inr (d, e, t)) = rw (e, t) h

    by : (b : Bool) → TicketsRise c.ticket (with_first test change crawls) last → TicketsRise before (cond b (change c ++ crawls) (c ∷ with_first test change crawls)) last
    by true rest = changed (change c) (keeps c)
    by false rest = (h.0, rest)

pub rise-more : (before : ℕ) (crawls : List AskedCrawl) (last : ℕ) (c : AskedCrawl) → TicketsRise before crawls last → last < c.ticket → TicketsRise before (crawls ++ c ∷ []) c.ticket
rise-more before [] last c h lt = (omega (arith, h), omega arith)
rise-more before (x ∷ crawls) last c h lt = (h.0, rise-more x.ticket crawls last c h.1 lt)

-- ---- each change keeps the ticket

pub more-keeps : KeepsTickets one_more_waits
more-keeps c = inr (record c { waiters = min (c.waiters + 1) (2 ^ 64 - 1) }, refl, refl)

pub running-keeps : KeepsTickets running
running-keeps c = inr (record c { stage = Running }, refl, refl)

pub ended-keeps : (ended : Result Progress Refusal) → KeepsTickets (ended_crawl ended)
ended-keeps ended c = by (c.waiters == 0)
  where
    by : (b : Bool) → (cond b [] (record c { stage = end_stage ended } ∷ []) ≡ []) ⊎ ((d : AskedCrawl) × (cond b [] (record c { stage = end_stage ended } ∷ []) ≡ d ∷ []) × (d.ticket ≡ c.ticket))
    by true = inl refl
    by false = inr (record c { stage = end_stage ended }, refl, refl)

pub collected-keeps : KeepsTickets collected
collected-keeps c = by (c.waiters - 1 == 0)
  where
    by : (b : Bool) → (cond b [] (record c { waiters = c.waiters - 1 } ∷ []) ≡ []) ⊎ ((d : AskedCrawl) × (cond b [] (record c { waiters = c.waiters - 1 } ∷ []) ≡ d ∷ []) × (d.ticket ≡ c.ticket))
    by true = inl refl
    by false = inr (record c { waiters = c.waiters - 1 }, refl, refl)

-- ---- the whole state

abbrev pub state : List AskedCrawl → ℕ → ℕ → Bool → AskedState
state crawls last changes ended = record { crawls = crawls; last_ticket = last; changes = changes; has_ended = ended }

pub changed : (test : AskedCrawl → Bool) (change : AskedCrawl → List AskedCrawl) (crawls after : List AskedCrawl) (last changes : ℕ) (ended : Bool) (old : AskedState) → state crawls last changes ended ≡ old → with_first test change crawls ≡ after
    → state after last changes ended ≡ record old { crawls = with_first test change old.crawls }
changed test change crawls after last changes ended old view is =
    ap (λ (l : List AskedCrawl). state l last changes ended) (sym is) ∙ ap (λ (s : AskedState). record s { crawls = with_first test change s.crawls }) view

pub unchanged_state : (test : AskedCrawl → Bool) (change : AskedCrawl → List AskedCrawl) (crawls : List AskedCrawl) (last changes : ℕ) (ended : Bool) (old : AskedState) → state crawls last changes ended ≡ old → position test crawls ≡ None
    → old ≡ record old { crawls = with_first test change old.crawls }
unchanged_state test change crawls last changes ended old view none = sym view ∙ changed test change crawls crawls last changes ended old view (same-none test change crawls none)

pub found_state : (test : AskedCrawl → Bool) (crawls : List AskedCrawl) (last changes : ℕ) (ended : Bool) (old : AskedState) (i : ℕ) (x : AskedCrawl) → state crawls last changes ended ≡ old → position test crawls ≡ Some i → x ≡ get_or crawls i x → find test old.crawls ≡ Some x
found_state test crawls last changes ended old i x view e at = ap (λ (s : AskedState). find test s.crawls) (sym view) ∙ find-at test crawls i x e at

pub unfound_state : (test : AskedCrawl → Bool) (crawls : List AskedCrawl) (last changes : ℕ) (ended : Bool) (old : AskedState) → state crawls last changes ended ≡ old → position test crawls ≡ None → find test old.crawls ≡ None
unfound_state test crawls last changes ended old view e = ap (λ (s : AskedState). find test s.crawls) (sym view) ∙ find-none test crawls e

pub if_found : (o : Option AskedCrawl) (x : AskedCrawl) (P : AskedCrawl → Type 0) → o ≡ Some x → P x → IfSome o P
if_found o x P e p = subst (λ (v : Option AskedCrawl). IfSome v P) (sym e) p

pub if_none : (o : Option AskedCrawl) (P : AskedCrawl → Type 0) → o ≡ None → IfSome o P
if_none o P e = subst (λ (v : Option AskedCrawl). IfSome v P) (sym e) tt

pub some_none : (o : Option AskedCrawl) (x : AskedCrawl) (A : Type 0) → o ≡ Some x → o ≡ None → A
some_none o x A e n = cc

pub when_true : (b : Bool) (P Q : Type 0) → MatchBool b P Q → b ≡ true → P
when_true true P Q h e = h
when_true false P Q h e = absurd (true≢false (sym e))

pub when_false : (b : Bool) (P Q : Type 0) → MatchBool b P Q → b ≡ false → Q
when_false true P Q h e = absurd (true≢false e)
when_false false P Q h e = h
