-- What is left of a session's subscriptions and viewers as their roots end.
use Rattle.std.proofs.Common.{◌≡◌, ◌∙◌, ◌⊎◌, inl, inr, ◌<◌, ◌≤◌, ◌+◌, ℕ, nat_eq, zero, suc, List, [], ◌∷◌, length, get_or, drop, Bool, true, false, true≢false, not, ◌&&◌, cond, ap, sym, subst, refl, arith, bytes_eq, MatchBool}
use Rattle.std.specs.List.{AllByRecursion, filter, items_where_true}
use Rattle.std.specs.List.Retain.{IsFiltered, ReturnsInTurn}
use Rattle.std.proofs.lemmas.List.{drop_more}
use Rattle.std.proofs.lemmas.Slice.Eq.{bytes_eq-Decides}
use Rattle.wm_expr.specs.Terms.{Term}
use Rattle.wm_names.specs.Paths.{Path}
use Rattle.wm_session.specs.session.Sessions.{SubscriptionList}
use Rattle.wm_subs.specs.SessionLists.{is_on_earlier, without_earlier, without_subscribed}
use Rattle.wm_subs.specs.declared.subscribed.Subscribed.{Subscribed}
use Rattle.wm_share.specs.PublishedLists.{ViewerState}
use Rattle.wm_front.specs.RootsSeen.{ViewerList}
use Rattle.wm_front.specs.Ended.{AreWatched, HaveEnded, HaveEndedOn, IsOnWatched}

-- ---- truth values

not_false : (b : Bool) → not b ≡ false → b ≡ true
not_false true e = refl
not_false false e = absurd (true≢false e)

not_true : (b : Bool) → not b ≡ true → b ≡ false
not_true true e = absurd (true≢false (sym e))
not_true false e = refl

both : (a b : Bool) → (a && b) ≡ true → (a ≡ true) × (b ≡ true)
both true b e = (refl, e)
both false b e = absurd (true≢false (sym e))

either_not : (a b : Bool) → (a && b) ≡ false → (a ≡ false) ⊎ (b ≡ false)
either_not true b e = inr e
either_not false b e = inl refl

second_not : (a b : Bool) → (a && b) ≡ false → a ≡ true → b ≡ false
second_not true b e is = e
second_not false b e is = absurd (true≢false (sym is))

-- ---- filters

filter_both : {X : Type 0} (f g : X → Bool) (xs : List X) → filter g (filter f xs) ≡ filter (λ x. f x && g x) xs
filter_both f g [] = refl
filter_both {X} f g (x ∷ xs) =
    let rest = filter_both f g xs in
    elim (f x) as (λ (b : Bool). filter g (cond b (x ∷ filter f xs) (filter f xs)) ≡ cond (b && g x) (x ∷ filter (λ y. f y && g y) xs) (filter (λ y. f y && g y) xs)) [
      | true ↦ ap (λ (l : List X). cond (g x) (x ∷ l) l) rest
      | false ↦ rest
    ]

filter_all : {X : Type 0} (xs : List X) → xs ≡ filter (λ x. true) xs
filter_all [] = refl
filter_all {X} (x ∷ xs) = ap (λ (l : List X). x ∷ l) (filter_all xs)

module _ {X : Type 0} (P : X → Type 0) where
  all_filtered : (stays : X → Bool) (xs : List X) → AllByRecursion P xs → AllByRecursion P (filter stays xs)
  all_filtered stays [] all = tt
  all_filtered stays (x ∷ xs) (p, all) =
      let rest = all_filtered stays xs all in
      elim (stays x) as (λ (b : Bool). AllByRecursion P (cond b (x ∷ filter stays xs) (filter stays xs))) [
        | true ↦ (p, rest)
        | false ↦ rest
      ]

  all_fewer : (q : ℕ) (xs : List X) → AllByRecursion P (drop q xs) → AllByRecursion P (drop (suc q) xs)
  all_fewer zero [] all = tt
  all_fewer zero (x ∷ xs) (p, all) = all
  all_fewer (suc q) [] all = tt
  all_fewer (suc q) (x ∷ xs) all = all_fewer q xs all

  all_behind : (stays : X → Bool) (q : ℕ) (xs : List X) → AllByRecursion P (filter stays (drop q xs)) → AllByRecursion P (drop q (filter stays xs))
  all_behind stays zero xs all = all
  all_behind stays (suc q) [] all = tt
  all_behind stays (suc q) (x ∷ xs) all =
      let rest = all_behind stays q xs all in
      elim (stays x) as (λ (b : Bool). AllByRecursion P (drop (suc q) (cond b (x ∷ filter stays xs) (filter stays xs)))) [
        | true ↦ rest
        | false ↦ all_fewer q (filter stays xs) rest
      ]

  -- one more of them is looked at, and is P if it stays
  all_from : (stays : X → Bool) (q : ℕ) (xs : List X) (d : X) → q < length xs → (stays (get_or xs q d) ≡ true → P (get_or xs q d)) → AllByRecursion P (drop (q + 1) xs) → AllByRecursion P (drop q (filter stays xs))
  all_from stays q xs d lt here all =
      let x = get_or xs q d in
      let rest = all_filtered stays (drop (q + 1) xs) all in
      let first : AllByRecursion P (filter stays (x ∷ drop (q + 1) xs)) = elim (stays x) as (λ (b : Bool). (b ≡ true → P x) → AllByRecursion P (cond b (x ∷ filter stays (drop (q + 1) xs)) (filter stays (drop (q + 1) xs)))) [
        | true ↦ λ h. (h refl, rest)
        | false ↦ λ h. rest
      ] here in
      all_behind stays q xs (subst (λ (l : List X). AllByRecursion P (filter stays l)) (sym (drop_more xs q d lt)) first)

module _ {X : Type 0} (P : X → Type 0) where
  pub left_all : (n : ℕ) (xs : List X) → n ≡ 0 → AllByRecursion P (drop n xs) → AllByRecursion P xs
  left_all n xs e all = subst (λ (m : ℕ). AllByRecursion P (drop m xs)) e all

-- ---- subscriptions

same : (path other : Path) → bytes_eq path other ≡ true → path ≡ other
same path other e = (bytes_eq-Decides path other).0 e

module _ (has : Path → ℕ → Type 0) (lacks : Path → Type 0) where
  pub none_ended : (all : SubscriptionList) → HaveEnded has lacks all all
  none_ended all = (λ s. true, filter_all all, λ s e. absurd (true≢false e))

  pub ended_without : (path : Path) (old now : SubscriptionList) → lacks path → now ≡ without_subscribed path old → HaveEndedOn has lacks path old now
  ended_without path old now gone is = (
    λ s. not (bytes_eq path s.root),
    is,
    λ s e. inl (subst lacks (same path s.root (not_false _ e)) gone),
    λ s e at. absurd (true≢false (sym ((bytes_eq-Decides path s.root).1 (sym at)) ∙ not_true _ e)),
  )

  pub ended_earlier : (path : Path) (number : ℕ) (old now : SubscriptionList) → has path number → now ≡ without_earlier path number old → HaveEndedOn has lacks path old now
  ended_earlier path number old now root is = (
    λ s. not (is_on_earlier path number s),
    is,
    λ s e. let at = both (bytes_eq path s.root) (not (nat_eq s.number number)) (not_false _ e) in inr (number, subst (λ (p : Path). has p number) (same path s.root at.0) root, not_true _ at.1),
    λ s e at.
        let here : bytes_eq path s.root ≡ true = (bytes_eq-Decides path s.root).1 (sym at) in
        (number, subst (λ (p : Path). has p number) (sym at) root, not_false _ (second_not (bytes_eq path s.root) (not (nat_eq s.number number)) (not_true _ e) here)),
  )

  pub ended_then : (path : Path) (old mid now : SubscriptionList) → HaveEnded has lacks old mid → HaveEndedOn has lacks path mid now → HaveEnded has lacks old now
  ended_then path old mid now x y = (
    λ s. x.0 s && y.0 s,
    y.1 ∙ ap (λ (l : SubscriptionList). filter y.0 l) x.1 ∙ filter_both x.0 y.0 old,
    λ s e. elim (either_not (x.0 s) (y.0 s) e) [
      | inl went ↦ x.2 s went
      | inr went ↦ y.2 s went
    ],
  )

  -- those from the place on are on watched roots, once the one there is looked at
  pub left_from : (path : Path) (place : ℕ) (mid now : SubscriptionList) (s : Subscribed Term) → place < length mid → s ≡ get_or mid place s → s.root ≡ path → HaveEndedOn has lacks path mid now
      → AllByRecursion (IsOnWatched has lacks) (drop (place + 1) mid) → AllByRecursion (IsOnWatched has lacks) (drop place now)
  left_from path place mid now s lt at on y all =
      let here : y.0 (get_or mid place s) ≡ true → IsOnWatched has lacks (get_or mid place s) = subst (λ (x : Subscribed Term). y.0 x ≡ true → IsOnWatched has lacks x) at (λ e. y.3 s e on) in
      subst (λ (l : SubscriptionList). AllByRecursion (IsOnWatched has lacks) (drop place l)) (sym y.1) (all_from (IsOnWatched has lacks) y.0 place mid s lt here all)

  -- the same, as the loop has it
  pub left_next : (path : Path) (place next : ℕ) (seen mid now : SubscriptionList) (s : Subscribed Term) → next + 1 ≡ place → seen ≡ mid → next < length seen → s ≡ get_or seen next s → path ≡ s.root → HaveEndedOn has lacks path mid now
      → AllByRecursion (IsOnWatched has lacks) (drop place mid) → AllByRecursion (IsOnWatched has lacks) (drop next now)
  left_next path place next seen mid now s more is lt at on y all =
      let within : next < length mid = subst (λ (l : SubscriptionList). next < length l) is lt in
      let there : s ≡ get_or mid next s = at ∙ ap (λ (l : SubscriptionList). get_or l next s) is in
      left_from path next mid now s within there (sym on) y (subst (λ (n : ℕ). AllByRecursion (IsOnWatched has lacks) (drop n mid)) (sym more) all)

  -- there is none at the place
  pub left_beyond : (place : ℕ) (all : SubscriptionList) → length all ≤ place → AllByRecursion (IsOnWatched has lacks) (drop place all)
  left_beyond place [] le = nothing place
    where
      nothing : (n : ℕ) → AllByRecursion (IsOnWatched has lacks) (drop n [])
      nothing zero = tt
      nothing (suc n) = tt
  left_beyond zero (s ∷ all) le = absurd (omega (arith, le))
  left_beyond (suc place) (s ∷ all) le = left_beyond place all (omega (arith, le))

-- ---- viewers

-- A closure that no call changes said of each viewer whether its root is watched.
module _ {F : Type 0} (R : F → ViewerState → Bool → F → Type 0) (watched ended : ℕ → Type 0) (f : F) (says : (x : ViewerState) (b : Bool) (f' : F) → R f x b f' → MatchBool b (watched x.list.share.root) (ended x.list.share.root) × (f' ≡ f)) where
  first_left : (b : Bool) (x : ViewerState) (xs left : ViewerList) → MatchBool b (watched x.list.share.root) (ended x.list.share.root) → AreWatched watched ended xs left → AreWatched watched ended (x ∷ xs) (cond b (x ∷ left) left)
  first_left true x xs left is rest = inl (left, refl, is, rest)
  first_left false x xs left is rest = inr (is, rest)

  shown_first : (b : Bool) (bs : List Bool) (x : ViewerState) (xs : ViewerList) → items_where_true (b ∷ bs) (x ∷ xs) ≡ cond b (x ∷ items_where_true bs xs) (items_where_true bs xs)
  shown_first true bs x xs = refl
  shown_first false bs x xs = refl

  each_left : (bs : List Bool) (xs : ViewerList) (q : F) → length bs ≡ length xs → ReturnsInTurn R f bs xs q → AreWatched watched ended xs (items_where_true bs xs)
  each_left [] [] q e t = refl
  each_left [] (x ∷ xs) q e t = absurd (omega arith)
  each_left (b ∷ bs) [] q e t = absurd t
  each_left (b ∷ bs) (x ∷ xs) q e t =
      let one = says x b t.0 t.1 in
      let rest = each_left bs xs q (omega arith) (subst (λ (y : F). ReturnsInTurn R y bs xs q) one.1 t.2) in
      subst (λ (l : ViewerList). AreWatched watched ended (x ∷ xs) l) (sym (shown_first b bs x xs)) (first_left b x xs (items_where_true bs xs) one.0 rest)

  pub watched_left : (xs ys : ViewerList) → IsFiltered R f xs ys → AreWatched watched ended xs ys
  watched_left xs ys k = subst (λ (l : ViewerList). AreWatched watched ended xs l) (sym k.4) (each_left k.0 xs k.1 k.2 k.3)
