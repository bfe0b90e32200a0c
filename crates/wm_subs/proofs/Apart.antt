-- The subscriptions of a session stay apart, and are never too many.
use Rattle.std.proofs.Common.{◌≡◌, ℕ, zero, suc, ◌+◌, ◌≤◌, ◌<◌, Bool, true, false, cond, not, ◌&&◌, ◌||◌, List, [], ◌∷◌, ◌++◌, length, filter, nat_lt, refl, sym, ap, ◌∙◌, arith, true≢false, ltb-true, length-append, get_or, slice_set}
use Rattle.std.specs.List.{list_any}
use Rattle.std.specs.Cmp.Lexicographic.{nat_list_eq_equiv}
use Rattle.std.proofs.lemmas.List.Folds.{list_any-append}
use Rattle.wm_disk.specs.laws.Tests.{both_first, both_second}
use Rattle.wm_names.specs.Paths.{Path}
use Rattle.wm_clock.specs.declared.clock_id.ClockId.{ClockId}
use Rattle.wm_subs.specs.declared.subscribed.Subscribed.{Subscribed}
use Rattle.wm_subs.specs.Subscribers.{told_up_to}
use Rattle.wm_subs.specs.SessionLists.{IsSession, are_apart, is_subscribed, is_subscription, max_subscriptions, may_subscribe, told_at, with_subscription, without_subscription}

-- ---- filters

module _ {A : Type 0} where
  no_more : (f : A → Bool) (xs : List A) → length (filter f xs) ≤ length xs
  no_more f [] = omega arith
  no_more f (x ∷ xs) =
      let ih : length (filter f xs) ≤ length xs = no_more f xs in
      elim (f x) as (λ b. length (cond b (x ∷ filter f xs) (filter f xs)) ≤ length (x ∷ xs)) [ true ↦ omega arith | false ↦ omega arith ]

  -- what passes is taken out
  fewer : (p : A → Bool) (xs : List A) → list_any p xs ≡ true → length (filter (λ x. not (p x)) xs) < length xs
  fewer p [] h = absurd (true≢false (sym h))
  fewer p (x ∷ xs) h =
      elim (p x) as (λ b. (b || list_any p xs) ≡ true → length (cond (not b) (x ∷ filter (λ x. not (p x)) xs) (filter (λ x. not (p x)) xs)) < length (x ∷ xs)) [
        | true ↦ λ _. let less : length (filter (λ x. not (p x)) xs) ≤ length xs = no_more (λ x. not (p x)) xs in omega arith
        | false ↦ λ q. let ih : length (filter (λ x. not (p x)) xs) < length xs = fewer p xs q in omega arith
      ] h

  none_left : (p : A → Bool) (xs : List A) → list_any p (filter (λ x. not (p x)) xs) ≡ false
  none_left p [] = refl
  none_left p (x ∷ xs) =
      elim (p x) as (λ b. p x ≡ b → list_any p (cond (not b) (x ∷ filter (λ x. not (p x)) xs) (filter (λ x. not (p x)) xs)) ≡ false) [
        | true ↦ λ _. none_left p xs
        | false ↦ λ e. ap (λ b. b || list_any p (filter (λ x. not (p x)) xs)) e ∙ none_left p xs
      ] refl

  none_of_some : (p f : A → Bool) (xs : List A) → list_any p xs ≡ false → list_any p (filter f xs) ≡ false
  none_of_some p f [] h = refl
  none_of_some p f (x ∷ xs) h =
      elim (f x) as (λ b. list_any p (cond b (x ∷ filter f xs) (filter f xs)) ≡ false) [
        | true ↦ ap (λ b. b || list_any p (filter f xs)) (neither (p x) (list_any p xs) h).0 ∙ none_of_some p f xs (neither (p x) (list_any p xs) h).1
        | false ↦ none_of_some p f xs (neither (p x) (list_any p xs) h).1
      ]
    where
      neither : (a b : Bool) → (a || b) ≡ false → (a ≡ false) × (b ≡ false)
      neither true b e = absurd (true≢false e)
      neither false b e = (refl, e)

is_false : (b : Bool) → not b ≡ true → b ≡ false
is_false true h = absurd (true≢false (sym h))
is_false false h = refl

module _ {T : Type 0} where
  -- ---- apart

  apart_some : (f : Subscribed T → Bool) (ss : List (Subscribed T)) → are_apart ss ≡ true → are_apart (filter f ss) ≡ true
  apart_some f [] h = refl
  apart_some f (s ∷ ss) h =
      let alone : is_subscribed s.root s.subscription.name ss ≡ false = is_false (is_subscribed s.root s.subscription.name ss) (both_first (not (is_subscribed s.root s.subscription.name ss)) (are_apart ss) h) in
      let rest : are_apart (filter f ss) ≡ true = apart_some f ss (both_second (not (is_subscribed s.root s.subscription.name ss)) (are_apart ss) h) in
      elim (f s) as (λ b. are_apart (cond b (s ∷ filter f ss) (filter f ss)) ≡ true) [
        | true ↦ ap (λ b. not b && are_apart (filter f ss)) (none_of_some (is_subscription s.root s.subscription.name) f ss alone) ∙ rest
        | false ↦ rest
      ]

  -- of the same root and name: in either direction
  same_both : (s t : Subscribed T) → is_subscription t.root t.subscription.name s ≡ is_subscription s.root s.subscription.name t
  same_both s t = λ i. nat_list_eq_equiv.symm t.root s.root i && nat_list_eq_equiv.symm t.subscription.name s.subscription.name i

  apart_last : (s : Subscribed T) (ss : List (Subscribed T)) → are_apart ss ≡ true → is_subscribed s.root s.subscription.name ss ≡ false → are_apart (ss ++ s ∷ []) ≡ true
  apart_last s [] h none = refl
  apart_last s (t ∷ ss) h none =
      let alone : is_subscribed t.root t.subscription.name ss ≡ false = is_false (is_subscribed t.root t.subscription.name ss) (both_first (not (is_subscribed t.root t.subscription.name ss)) (are_apart ss) h) in
      let neither = split (is_subscription s.root s.subscription.name t) (is_subscribed s.root s.subscription.name ss) none in
      let other : is_subscription t.root t.subscription.name s ≡ false = same_both s t ∙ neither.0 in
      let of_all : is_subscribed t.root t.subscription.name (ss ++ s ∷ []) ≡ false =
      list_any-append (is_subscription t.root t.subscription.name) ss (s ∷ []) ∙ ap (λ b. b || (is_subscription t.root t.subscription.name s || false)) alone ∙ ap (λ b. b || false) other in
      ap (λ b. not b && are_apart (ss ++ s ∷ [])) of_all ∙ apart_last s ss (both_second (not (is_subscribed t.root t.subscription.name ss)) (are_apart ss) h) neither.1
    where
      split : (a b : Bool) → (a || b) ≡ false → (a ≡ false) × (b ≡ false)
      split true b e = absurd (true≢false e)
      split false b e = (refl, e)

  apart_with : (s : Subscribed T) (ss : List (Subscribed T)) → are_apart ss ≡ true → are_apart (with_subscription s ss) ≡ true
  apart_with s ss h =
      apart_last s (without_subscription s.root s.subscription.name ss)
      (apart_some (λ t. not (is_subscription s.root s.subscription.name t)) ss h)
      (none_left (is_subscription s.root s.subscription.name) ss)

  -- ---- how many

  few_with : (s : Subscribed T) (ss : List (Subscribed T)) → length ss ≤ max_subscriptions → may_subscribe s.root s.subscription.name ss ≡ true → length (with_subscription s ss) ≤ max_subscriptions
  few_with s ss most may =
      let p : Subscribed T → Bool = is_subscription s.root s.subscription.name in
      let all : length (with_subscription s ss) ≡ length (filter (λ t. not (p t)) ss) + 1 = length-append (filter (λ t. not (p t)) ss) (s ∷ []) in
      elim (list_any p ss) as (λ b. list_any p ss ≡ b → (b || nat_lt (length ss) max_subscriptions) ≡ true → length (with_subscription s ss) ≤ max_subscriptions) [
        | true ↦ λ e _. let less : length (filter (λ t. not (p t)) ss) < length ss = fewer p ss e in omega arith
        | false ↦ λ _ q.
            let room : length ss < max_subscriptions = ltb-true (length ss) max_subscriptions q in
            let less : length (filter (λ t. not (p t)) ss) ≤ length ss = no_more (λ t. not (p t)) ss in
            omega arith
      ] refl may

  -- ---- one that was told

  told_len : (i : ℕ) (clock : ClockId) (ss : List (Subscribed T)) → length (told_at i clock ss) ≡ length ss
  told_len i clock [] = refl
  told_len zero clock (s ∷ ss) = refl
  told_len (suc i) clock (s ∷ ss) = ap suc (told_len i clock ss)

  told_any : (root : Path) (name : List ℕ) (i : ℕ) (clock : ClockId) (ss : List (Subscribed T)) → is_subscribed root name (told_at i clock ss) ≡ is_subscribed root name ss
  told_any root name i clock [] = refl
  told_any root name zero clock (s ∷ ss) = refl
  told_any root name (suc i) clock (s ∷ ss) = ap (λ b. is_subscription root name s || b) (told_any root name i clock ss)

  told_apart : (i : ℕ) (clock : ClockId) (ss : List (Subscribed T)) → are_apart (told_at i clock ss) ≡ are_apart ss
  told_apart i clock [] = refl
  told_apart zero clock (s ∷ ss) = refl
  told_apart (suc i) clock (s ∷ ss) = λ j. not (told_any s.root s.subscription.name i clock ss j) && told_apart i clock ss j

  pub told_is : (ss : List (Subscribed T)) (i : ℕ) (clock : ClockId) (s : Subscribed T) → i < length ss → s ≡ get_or ss i s
      → slice_set ss i (record s { subscription = told_up_to s.subscription clock }) ≡ told_at i clock ss
  told_is [] i clock s l e = absurd (omega arith)
  told_is (t ∷ ss) zero clock s l e = ap (λ (u : Subscribed T). record u { subscription = told_up_to u.subscription clock } ∷ ss) e
  told_is (t ∷ ss) (suc i) clock s l e = ap (λ (us : List (Subscribed T)). t ∷ us) (told_is ss i clock s (omega arith) e)

  -- ---- each change keeps them so

  pub session_some : (f : Subscribed T → Bool) (ss : List (Subscribed T)) → IsSession ss → IsSession (filter f ss)
  session_some f ss h = let less : length (filter f ss) ≤ length ss = no_more f ss in let most : length ss ≤ max_subscriptions = h.0 in (omega arith, apart_some f ss h.1)

  pub session_with : (s : Subscribed T) (ss : List (Subscribed T)) → IsSession ss → may_subscribe s.root s.subscription.name ss ≡ true → IsSession (with_subscription s ss)
  session_with s ss h may = (few_with s ss h.0 may, apart_with s ss h.1)

  pub session_told : (i : ℕ) (clock : ClockId) (ss : List (Subscribed T)) → IsSession ss → IsSession (told_at i clock ss)
  session_told i clock ss h =
      let same : length (told_at i clock ss) ≡ length ss = told_len i clock ss in
      let most : length ss ≤ max_subscriptions = h.0 in
      (omega arith, told_apart i clock ss ∙ h.1)
