-- The places that a name may stand for, as they are found.
use Rattle.std.proofs.Common.{◌≡◌, ◌⊎◌, inl, inr, ℕ, zero, suc, ◌+◌, ◌<◌, ◌≤◌, Bool, true, false, not, cond, List, [], ◌∷◌, ◌++◌, length, get_or, Option, Some, None, refl, sym, ap, ◌∙◌, arith, true≢false}
use Rattle.std.specs.Prelude.{◌||◌, ◌&&◌}
use Rattle.std.specs.List.{fold}
use Rattle.std.proofs.lemmas.Bool.{and_from, and_parts, cases_lt, not-true, or_cases, or_left, or_parts, or_right}
use Rattle.std.proofs.lemmas.List.{append-nil, append_assoc, get_or_append_left, length-append}
use Rattle.std.proofs.lemmas.List.Folds.{Any-from_list_any, list_any-append, list_any_at}
use Rattle.wm_names.specs.Paths.{Path, same_path}
use Rattle.wm_feed.specs.Renames.{AreClosed, ArePlaces, Renamed, StandsForMany, are_different, has, has_next, held_moved, is_place, with_ends, with_place}
use Rattle.wm_feed.proofs.Asking.{path_itself}
use Rattle.wm_feed.proofs.Below.{same→≡}

-- ---- paths in front stay

abbrev pub IsExtended : List Path → List Path → Type 0
IsExtended old new = (more : List Path) × (new ≡ old ++ more)

extended_itself : (xs : List Path) → IsExtended xs xs
extended_itself xs = ([], sym (append-nil xs))

extended_twice : (xs ys zs : List Path) → IsExtended xs ys → IsExtended ys zs → IsExtended xs zs
extended_twice xs ys zs (m, e) (n, f) = (m ++ n, f ∙ ap (λ l. l ++ n) e ∙ append_assoc xs m n)

place_extends : (o : Option Path) (xs : List Path) → IsExtended xs (with_place o xs)
place_extends None xs = extended_itself xs
place_extends (Some p) xs = elim (is_place p xs) as (λ b. IsExtended xs (cond b xs (xs ++ p ∷ []))) [ true ↦ extended_itself xs | false ↦ (p ∷ [], refl) ]

place_kept : (p : Path) (xs ys : List Path) → IsExtended xs ys → is_place p xs ≡ true → is_place p ys ≡ true
place_kept p xs ys (more, e) h = ap (is_place p) e ∙ list_any-append (λ q. same_path p q) xs more ∙ or_left (is_place p xs) (is_place p more) h

has_kept : (o : Option Path) (xs ys : List Path) → IsExtended xs ys → has xs o ≡ true → has ys o ≡ true
has_kept None xs ys e h = refl
has_kept (Some p) xs ys e h = place_kept p xs ys e h

place_last : (p : Path) (xs : List Path) → is_place p (xs ++ p ∷ []) ≡ true
place_last p [] = ap (λ v. v || false) (path_itself p)
place_last p (x ∷ xs) = or_right (same_path p x) (is_place p (xs ++ p ∷ [])) (place_last p xs)

place_has : (o : Option Path) (xs : List Path) → has (with_place o xs) o ≡ true
place_has None xs = refl
place_has (Some p) xs = by (is_place p xs) refl
  where
    by : (b : Bool) → is_place p xs ≡ b → is_place p (cond b xs (xs ++ p ∷ [])) ≡ true
    by true e = e
    by false e = place_last p xs

next_kept : (renamed : List Renamed) (p : Path) (xs ys : List Path) → IsExtended xs ys → has_next renamed p xs ≡ true → has_next renamed p ys ≡ true
next_kept [] p xs ys e h = refl
next_kept (one ∷ renamed) p xs ys e h =
    let there : Option Path = held_moved one.from one.to p in
    let back : Option Path = held_moved one.to one.from p in
    let parts = and_parts (has xs there && has xs back) (has_next renamed p xs) h in
    let ends = and_parts (has xs there) (has xs back) parts.0 in
    and_from (has ys there && has ys back) (has_next renamed p ys)
    (and_from (has ys there) (has ys back) (has_kept there xs ys e ends.0) (has_kept back xs ys e ends.1))
    (next_kept renamed p xs ys e parts.1)

-- ---- what is a rename away

-- ---- no path stands twice

same_turned : (p x : Path) → same_path p x ≡ false → same_path x p ≡ false
same_turned p x h = by (same_path x p) refl
  where
    by : (b : Bool) → same_path x p ≡ b → b ≡ false
    by false e = refl
    by true e = sym (ap (same_path p) (same→≡ x p e) ∙ path_itself p) ∙ h

different_more : (p : Path) (xs : List Path) → is_place p xs ≡ false → are_different xs ≡ true → are_different (xs ++ p ∷ []) ≡ true
different_more p [] h d = refl
different_more p (x ∷ xs) h d =
    let first : same_path p x ≡ false = (or_parts (same_path p x) (is_place p xs) h).0 in
    let later : is_place p xs ≡ false = (or_parts (same_path p x) (is_place p xs) h).1 in
    let parts = and_parts (not (is_place x xs)) (are_different xs) d in
    let alone : is_place x xs ≡ false = not-true (is_place x xs) parts.0 in
    let new : is_place x (xs ++ p ∷ []) ≡ false = list_any-append (λ q. same_path x q) xs (p ∷ []) ∙ ap (λ b. b || (same_path x p || false)) alone ∙ ap (λ b. b || false) (same_turned p x first) in
    and_from (not (is_place x (xs ++ p ∷ []))) (are_different (xs ++ p ∷ [])) (ap not new) (different_more p xs later parts.1)

place_different : (o : Option Path) (xs : List Path) → are_different xs ≡ true → are_different (with_place o xs) ≡ true
place_different None xs d = d
place_different (Some p) xs d = by (is_place p xs) refl
  where
    by : (b : Bool) → is_place p xs ≡ b → are_different (cond b xs (xs ++ p ∷ [])) ≡ true
    by true e = d
    by false e = different_more p xs e d

module _ (p : Path) where
  abbrev pub all_ends : List Path → List Renamed → List Path
  all_ends xs renamed = fold (λ all one. with_ends p one all) xs renamed

  ends_extend : (one : Renamed) (xs : List Path) → IsExtended xs (with_ends p one xs)
  ends_extend one xs =
      let there : List Path = with_place (held_moved one.from one.to p) xs in
      extended_twice xs there (with_ends p one xs) (place_extends (held_moved one.from one.to p) xs) (place_extends (held_moved one.to one.from p) there)

  pub all_extend : (renamed : List Renamed) (xs : List Path) → IsExtended xs (all_ends xs renamed)
  all_extend [] xs = extended_itself xs
  all_extend (one ∷ renamed) xs = extended_twice xs (with_ends p one xs) (all_ends (with_ends p one xs) renamed) (ends_extend one xs) (all_extend renamed (with_ends p one xs))

  pub all_next : (renamed : List Renamed) (xs : List Path) → has_next renamed p (all_ends xs renamed) ≡ true
  all_next [] xs = refl
  all_next (one ∷ renamed) xs =
      let there : Option Path = held_moved one.from one.to p in
      let back : Option Path = held_moved one.to one.from p in
      let first : List Path = with_place there xs in
      let second : List Path = with_ends p one xs in
      let last : List Path = all_ends second renamed in
      let later : IsExtended second last = all_extend renamed second in
      and_from (has last there && has last back) (has_next renamed p last)
      (and_from (has last there) (has last back)
      (has_kept there second last later (has_kept there first second (place_extends back first) (place_has there xs)))
      (has_kept back second last later (place_has back first)))
      (all_next renamed second)

  pub all_different : (renamed : List Renamed) (xs : List Path) → are_different xs ≡ true → are_different (all_ends xs renamed) ≡ true
  all_different [] xs d = d
  all_different (one ∷ renamed) xs d =
      all_different renamed (with_ends p one xs)
      (place_different (held_moved one.to one.from p) (with_place (held_moved one.from one.to p) xs) (place_different (held_moved one.from one.to p) xs d))

  pub all_longer : (renamed : List Renamed) (xs : List Path) → length xs ≤ length (all_ends xs renamed)
  all_longer renamed xs =
      let more = all_extend renamed xs in
      let longer : length (all_ends xs renamed) ≡ length xs + length more.0 = ap length more.1 ∙ length-append xs more.0 in
      omega (arith, longer)

  -- ---- and nothing else

  abbrev pub Within : List Path → List Path → Type 0
  Within xs others = (q : Path) → is_place q xs ≡ true → is_place q others ≡ true

  place_within : (o : Option Path) (xs others : List Path) → Within xs others → has others o ≡ true → Within (with_place o xs) others
  place_within None xs others w h = w
  place_within (Some s) xs others w h = by (is_place s xs)
    where
      new : (q : Path) → (is_place q xs ≡ true) ⊎ (is_place q (s ∷ []) ≡ true) → is_place q others ≡ true
      new q (inl e) = w q e
      new q (inr e) = by_last (or_cases (same_path q s) false e)
        where
          by_last : (same_path q s ≡ true) ⊎ (false ≡ true) → is_place q others ≡ true
          by_last (inl same) = ap (λ x. is_place x others) (same→≡ q s same) ∙ h
          by_last (inr f) = absurd (true≢false (sym f))

      by : (b : Bool) → Within (cond b xs (xs ++ s ∷ [])) others
      by true = w
      by false = λ q e. new q (or_cases (is_place q xs) (is_place q (s ∷ [])) (sym (list_any-append (λ x. same_path q x) xs (s ∷ [])) ∙ e))

  pub all_within : (renamed : List Renamed) (xs others : List Path) → has_next renamed p others ≡ true → Within xs others → Within (all_ends xs renamed) others
  all_within [] xs others h w = w
  all_within (one ∷ renamed) xs others h w =
      let there : Option Path = held_moved one.from one.to p in
      let back : Option Path = held_moved one.to one.from p in
      let parts = and_parts (has others there && has others back) (has_next renamed p others) h in
      let ends = and_parts (has others there) (has others back) parts.0 in
      all_within renamed (with_ends p one xs) others parts.1
      (place_within back (with_place there xs) others (place_within there xs others w ends.0) ends.1)

-- ---- the places so far

get_same : (xs : List Path) (k : ℕ) (d e : Path) → k < length xs → get_or xs k d ≡ get_or xs k e
get_same [] k d e h = absurd (omega arith)
get_same (x ∷ xs) zero d e h = refl
get_same (x ∷ xs) (suc k) d e h = get_same xs k d e (omega arith)

-- there are n different places, and of the first n of them each that is a rename away is among them
pub record AreSoFar (renamed : List Renamed) (name : Path) (n : ℕ) (places : List Path) : Type 0 where
  pub there : is_place name places ≡ true
  pub next : (k : ℕ) → k < n → k < length places → has_next renamed (get_or places k name) places ≡ true
  pub fewest : (others : List Path) → is_place name others ≡ true → AreClosed renamed others → (q : Path) → is_place q places ≡ true → is_place q others ≡ true
  pub many : n ≤ length places
  pub different : are_different places ≡ true

module _ (renamed : List Renamed) (name : Path) where
  pub places_begin : AreSoFar renamed name 0 (name ∷ [])
  places_begin = record {
    there = place_last name [];
    next = λ k low high. absurd (omega arith);
    fewest = λ others h closed q e. by q others h (or_cases (same_path q name) false e);
    many = omega arith;
    different = refl;
  }
    where
      by : (q : Path) (others : List Path) → is_place name others ≡ true → (same_path q name ≡ true) ⊎ (false ≡ true) → is_place q others ≡ true
      by q others h (inl same) = ap (λ x. is_place x others) (same→≡ q name same) ∙ h
      by q others h (inr f) = absurd (true≢false (sym f))

  pub places_next : (n : ℕ) (places : List Path) (p : Path) → AreSoFar renamed name n places → n < length places → p ≡ get_or places n p → AreSoFar renamed name (n + 1) (all_ends p places renamed)
  places_next n places p before low same_p = record {
    there = place_kept name places (all_ends p places renamed) (all_extend p renamed places) before.there;
    next = λ k small high. by k (cases_lt k n) small;
    fewest = λ others h closed. all_within p renamed places others (closed p (before.fewest others h closed p among)) (before.fewest others h closed);
    many = let longer = all_longer p renamed places in omega (arith, longer, low);
    different = all_different p renamed places before.different;
  }
    where
      here : p ≡ get_or places n name
      here = same_p ∙ get_same places n p name low

      among : is_place p places ≡ true
      among = list_any_at (λ q. same_path p q) places n name low (ap (same_path p) (sym here) ∙ path_itself p)

      same : (k : ℕ) → k < length places → get_or (all_ends p places renamed) k name ≡ get_or places k name
      same k h = let more = all_extend p renamed places in ap (λ l. get_or l k name) more.1 ∙ get_or_append_left places more.0 name k h

      by : (k : ℕ) → (k < n) ⊎ (n ≤ k) → k < n + 1 → has_next renamed (get_or (all_ends p places renamed) k name) (all_ends p places renamed) ≡ true
      by k (inl h) small =
          ap (λ q. has_next renamed q (all_ends p places renamed)) (same k (omega arith))
          ∙ next_kept renamed (get_or places k name) places (all_ends p places renamed) (all_extend p renamed places) (before.next k h (omega arith))
      by k (inr h) small =
          let at : k ≡ n = omega arith in
          let is : get_or (all_ends p places renamed) k name ≡ p = same k (omega arith) ∙ ap (λ i. get_or places i name) at ∙ sym here in
          ap (λ q. has_next renamed q (all_ends p places renamed)) is ∙ all_next p renamed places

  pub places_many : (n : ℕ) (places : List Path) → AreSoFar renamed name n places → 64 ≤ n → StandsForMany renamed name
  places_many n places done high = record {
    places = places;
    many = let long = done.many in omega (arith, long, high);
    different = done.different;
    needed = done.fewest;
  }

  pub places_end : (n : ℕ) (places : List Path) → AreSoFar renamed name n places → length places ≤ n → ArePlaces renamed name places
  places_end n places done high = record {
    there = done.there;
    closed = closed;
    fewest = done.fewest;
  }
    where
      closed : AreClosed renamed places
      closed p h =
          let found = Any-from_list_any (λ q. same_path p q) places h in
          let k : ℕ = found.0 in
          let low : k < length places = found.2 in
          let is : get_or places k name ≡ p = get_same places k name found.1 low ∙ found.3 ∙ sym (same→≡ p found.1 found.4) in
          ap (λ q. has_next renamed q places) (sym is) ∙ done.next k (omega arith) low
