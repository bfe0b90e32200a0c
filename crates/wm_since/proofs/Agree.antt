-- The answer from the summary is the answer about the history.
use Rattle.std.proofs.Common.{◌≡◌, ℕ, zero, suc, ◌≤◌, ◌<◌, Bool, true, false, cond, not, ◌&&◌, List, [], ◌∷◌, ◌++◌, map, filter, flat_map, Option, Some, None, is_some, nat_lt, nat_le, ◌==◌, refl, sym, ap, ◌∙◌, arith, true≢false, ltb-true, leb-true, eqb-true, lt-ltb}
use Rattle.wm_clock.specs.declared.clock_id.ClockId.{ClockId}
use Rattle.wm_names.specs.Paths.{Path}
use Rattle.wm_names.specs.declared.entry.Entry.{Entry}
use Rattle.wm_view.specs.declared.known.Known.{Known}
use Rattle.wm_view.specs.Files.{is_in}
use Rattle.wm_view.specs.Histories.{History, IsMade, tick_of, ever, change_moment, last_change, has_changed, exists_now}
use Rattle.wm_view.specs.HistoryLaws.{Low}
use Rattle.wm_view.specs.Summaries.{Summary, summary, tagged, known_paths, known_of, by_last, changed_from_moment, changed_since, existing_now}
use Rattle.wm_disk.specs.laws.Tests.{both_first, both_second}
use Rattle.wm_since.specs.declared.listed.Listed.{Listed}
use Rattle.wm_since.specs.declared.query.Answer.{Answer}
use Rattle.wm_since.specs.declared.query.Since.{Since}
use Rattle.wm_since.specs.declared.query.Since.TheVariants.{Clock, Moment}
use Rattle.wm_view.specs.laws.Tagged.{tagged_where, map-tagged}
use Rattle.wm_since.specs.Laws.{AnswersBySummary}
use Rattle.wm_since.specs.Answers.{Question, can_tell, can_tell_from, is_fresh, down_from, has_changed_from, matches_now, all_existing, difference, difference_from, difference_since, answer_to, answerable_since, entry_in, listed_in, listed_all, files_by, answer_by}

filter_filter : {A : Type 0} (f g : A → Bool) (xs : List A) → filter f (filter g xs) ≡ filter (λ x. g x && f x) xs
filter_filter f g [] = refl
filter_filter {A} f g (x ∷ xs) =
    elim (g x) as (λ b. filter f (cond b (x ∷ filter g xs) (filter g xs)) ≡ cond (b && f x) (x ∷ filter (λ x. g x && f x) xs) (filter (λ x. g x && f x) xs)) [
      | true ↦ ap (λ m. cond (f x) (x ∷ m) m) (filter_filter f g xs)
      | false ↦ filter_filter f g xs
    ]

filter-append : {A : Type 0} (f : A → Bool) (xs ys : List A) → filter f (xs ++ ys) ≡ filter f xs ++ filter f ys
filter-append f [] ys = refl
filter-append {A} f (x ∷ xs) ys =
    elim (f x) as (λ b. cond b (x ∷ filter f (xs ++ ys)) (filter f (xs ++ ys)) ≡ cond b (x ∷ filter f xs) (filter f xs) ++ filter f ys) [
      | true ↦ ap (λ (m : List A). x ∷ m) (filter-append f xs ys)
      | false ↦ filter-append f xs ys
    ]

map-append : {A B : Type 0} (f : A → B) (xs ys : List A) → map f (xs ++ ys) ≡ map f xs ++ map f ys
map-append f [] ys = refl
map-append {A} {B} f (x ∷ xs) ys = ap (λ (m : List B). f x ∷ m) (map-append f xs ys)

-- the four tests in the one order or the other
row : (nf keep here m : Bool) → (keep ≡ true → nf ≡ true) → (((nf && keep) && here) && m) ≡ (here && (keep && m))
row true true true m h = refl
row true true false m h = refl
row true false true m h = refl
row true false false m h = refl
row false true here m h = absurd (true≢false (sym (h refl)))
row false false true m h = refl
row false false false m h = refl

-- and the five
row_of : (nf kept here changed m : Bool) → (here ≡ true → changed ≡ true) → (((nf && kept) && here) && m) ≡ (here && ((changed && (nf && kept)) && m))
row_of true true true changed m h = ap (λ c. (c && true) && m) (sym (h refl))
row_of true true false changed m h = refl
row_of true false true true m h = refl
row_of true false true false m h = refl
row_of true false false changed m h = refl
row_of false kept true true m h = refl
row_of false kept true false m h = refl
row_of false kept false changed m h = refl

module _ (h : History) (keep : Path → Bool) (m : Path → Bool) (kept match : Path × Known → Bool) where
  -- the tests of what is known and those of the history come to the same, of a path that changed last at the tick
  abbrev pub AreAlike : ℕ → Type 0
  AreAlike u = (p : Path) → (((not (is_in p h.forgotten) && kept (p, known_of h p)) && (last_change h p == u)) && match (p, known_of h p)) ≡ ((last_change h p == u) && (keep p && m p))

  one_tick : (u : ℕ) → AreAlike u → filter match (filter (λ e. e.1.last == u) (filter kept (summary h).known)) ≡ tagged (known_of h) (filter (λ p. (last_change h p == u) && (keep p && m p)) (ever h.ticks))
  one_tick u alike =
      let of_kept = λ (p : Path). kept (p, known_of h p) in
      let of_match = λ (p : Path). match (p, known_of h p) in
      ap (λ l. filter match (filter (λ e. e.1.last == u) l)) (tagged_where (known_of h) kept (known_paths h))
      ∙ ap (filter match) (tagged_where (known_of h) (λ e. e.1.last == u) (filter of_kept (known_paths h)))
      ∙ tagged_where (known_of h) match (filter (λ p. last_change h p == u) (filter of_kept (known_paths h)))
      ∙ ap (λ l. tagged (known_of h) (filter of_match (filter (λ p. last_change h p == u) l))) (filter_filter of_kept (λ p. not (is_in p h.forgotten)) (ever h.ticks))
      ∙ ap (λ l. tagged (known_of h) (filter of_match l)) (filter_filter (λ p. last_change h p == u) (λ p. not (is_in p h.forgotten) && of_kept p) (ever h.ticks))
      ∙ ap (tagged (known_of h)) (filter_filter of_match (λ p. (not (is_in p h.forgotten) && of_kept p) && (last_change h p == u)) (ever h.ticks))
      ∙ (λ i. tagged (known_of h) (filter (λ p. alike p i) (ever h.ticks)))

  pub by_ticks : ((u : ℕ) → AreAlike (suc u)) → (L : Path × Known → Listed) (n : ℕ)
      → map L (filter match (by_last (filter kept (summary h).known) n)) ≡ map (λ p. L (p, known_of h p)) (flat_map (λ u. filter (λ p. (last_change h p == u) && (keep p && m p)) (ever h.ticks)) (down_from n))
  by_ticks alike L zero = refl
  by_ticks alike L (suc n) =
      ap (map L) (filter-append match (filter (λ e. e.1.last == suc n) (filter kept (summary h).known)) (by_last (filter kept (summary h).known) n))
      ∙ map-append L (filter match (filter (λ e. e.1.last == suc n) (filter kept (summary h).known))) (filter match (by_last (filter kept (summary h).known) n))
      ∙ (λ i. (ap (map L) (one_tick (suc n) (alike n)) ∙ map-tagged (known_of h) L (filter (λ p. (last_change h p == suc n) && (keep p && m p)) (ever h.ticks))) i ++ by_ticks alike L n i)
      ∙ sym (map-append (λ p. L (p, known_of h p)) (filter (λ p. (last_change h p == suc n) && (keep p && m p)) (ever h.ticks)) (flat_map (λ u. filter (λ p. (last_change h p == u) && (keep p && m p)) (ever h.ticks)) (down_from n)))

there : (h : History) → Low h → (p : Path) → exists_now h p ≡ true → not (is_in p h.forgotten) ≡ true
there h low p e = ap not (elim (is_in p h.forgotten) as (λ b. is_in p h.forgotten ≡ b → b ≡ false) [
  | true ↦ λ f. absurd (true≢false (sym e ∙ (low p f).0))
  | false ↦ λ _. refl
] refl)

later : (h : History) → Low h → (t : ℕ) → h.floor ≤ t → (p : Path) → has_changed h t p ≡ true → not (is_in p h.forgotten) ≡ true
later h low t high p e = ap not (elim (is_in p h.forgotten) as (λ b. is_in p h.forgotten ≡ b → b ≡ false) [
  | true ↦ λ f.
      let a : t < last_change h p = ltb-true t (last_change h p) e in
      let b : last_change h p ≤ h.floor = (low p f).1 in
      absurd (omega arith)
  | false ↦ λ _. refl
] refl)

existing_agrees : (x : Entry → Bool) (h : History) → Low h → listed_all x None (existing_now (summary h)) ≡ all_existing h x
existing_agrees x h low =
    by_ticks h (exists_now h) (matches_now h x) (λ e. e.1.exists) (λ e. x (entry_in e))
    (λ u p. row (not (is_in p h.forgotten)) (exists_now h p) (last_change h p == suc u) (matches_now h x p) (there h low p)) (listed_in None) (tick_of h)

changed_agrees : (x : Entry → Bool) (h : History) → Low h → (c : ClockId) → h.floor ≤ c.tick → listed_all x (Some (Clock c)) (changed_since (summary h) c.tick) ≡ difference h x c.tick
changed_agrees x h low c high =
    by_ticks h (has_changed h c.tick) (matches_now h x) (λ e. nat_lt c.tick e.1.last) (λ e. x (entry_in e))
    (λ u p. row (not (is_in p h.forgotten)) (has_changed h c.tick p) (last_change h p == suc u) (matches_now h x p) (later h low c.tick high p)) (listed_in (Some (Clock c))) (tick_of h)

at_a_tick : (l u : ℕ) → (l == suc u) ≡ true → nat_lt 0 l ≡ true
at_a_tick l u e = let same : l ≡ suc u = eqb-true l (suc u) e in lt-ltb 0 l (omega arith)

from_agrees : (x : Entry → Bool) (h : History) (m : ℕ) → listed_all x (Some (Moment m)) (changed_from_moment (summary h) m) ≡ difference_from h x m
from_agrees x h m =
    by_ticks h (has_changed_from h m) (matches_now h x) (λ e. nat_le m e.1.moment) (λ e. x (entry_in e))
    (λ u p. row_of (not (is_in p h.forgotten)) (nat_le m (change_moment h p)) (last_change h p == suc u) (has_changed h 0 p) (matches_now h x p) (at_a_tick (last_change h p) u)) (listed_in (Some (Moment m))) (tick_of h)

pub agree : (x : Entry → Bool) (h : History) (q : Question) → Low h → answer_by x (summary h) q ≡ answer_to x h q
agree x h q low = λ i. record { clock = record { incarnation = h.incarnation; root = h.root; tick = tick_of h }; fresh = (told_so q.since).0 i; files = (told_so q.since).1 i }
  where
    told_so : (since : Option Since) → (not (is_some (answerable_since (summary h) since)) ≡ is_fresh h since)
        × (files_by x (summary h) q.empty_on_fresh (answerable_since (summary h) since) ≡ cond (is_fresh h since) (cond q.empty_on_fresh [] (all_existing h x)) (difference_since h x since))
    told_so None = (refl, ap (λ l. cond q.empty_on_fresh [] l) (existing_agrees x h low))
    told_so (Some (Clock c)) = elim (can_tell h c) as (λ b. can_tell h c ≡ b → (not (is_some (cond b (Some (Clock c)) None)) ≡ not b)
        × (files_by x (summary h) q.empty_on_fresh (cond b (Some (Clock c)) None) ≡ cond (not b) (cond q.empty_on_fresh [] (all_existing h x)) (difference h x c.tick))) [
          | true ↦ λ e. (refl, changed_agrees x h low c (floor_low e))
          | false ↦ λ _. (refl, ap (λ l. cond q.empty_on_fresh [] l) (existing_agrees x h low))
        ] refl
      where
        floor_low : can_tell h c ≡ true → h.floor ≤ c.tick
        floor_low e = leb-true h.floor c.tick (both_second ((c.incarnation == h.incarnation) && (c.root == h.root)) (nat_le h.floor c.tick) (both_first ((c.incarnation == h.incarnation) && (c.root == h.root) && nat_le h.floor c.tick) (nat_le c.tick (tick_of h)) e))
    told_so (Some (Moment m)) = elim (can_tell_from h m) as (λ b. (not (is_some (cond b (Some (Moment m)) None)) ≡ not b)
        × (files_by x (summary h) q.empty_on_fresh (cond b (Some (Moment m)) None) ≡ cond (not b) (cond q.empty_on_fresh [] (all_existing h x)) (difference_from h x m))) [
          | true ↦ (refl, from_agrees x h m)
          | false ↦ (refl, ap (λ l. cond q.empty_on_fresh [] l) (existing_agrees x h low))
        ]

pub by_summary : AnswersBySummary → (x : Entry → Bool) (h : History) (s : Summary) (q : Question) (a : Answer) → a ≡ answer_by x s q → IsMade h → summary h ≡ s → a ≡ answer_to x h q
by_summary every x h s q a e made same = e ∙ ap (λ s. answer_by x s q) (sym same) ∙ every x h q made
