-- Room in what is known of each path.
use Rattle.std.proofs.Common.{BTreeMap, ◌≡◌, ℕ, ◌<◌, ◌≤◌, lt-ltb, le-ltb, ltb-true, rules, arith, ◌-◌, ◌≢◌, Bool, true, false, cond, T, List, [], ◌∷◌, Option, Some, None, filter, unwrap_or, is_some, refl, sym, ap, subst, ◌∙◌, nat_lt, Less, Equal, Greater, true≢false}
use Rattle.std.specs.Ordering.{is_lt, is_eq, match_ordering, ordering_then, nat_cmp}
use Rattle.std.specs.declared.cmp.Ordering.{Ordering}
use Rattle.std.specs.FinMap.{nat_cmp-IsAntisymmetric, find, put, is_sorted}
use Rattle.std.specs.List.{AllByRecursion, list_any}
use Rattle.std.specs.List.Sorted.{IsStrictlySortedBy}
use Rattle.std.specs.Map.{lookup, keys_of, set_value, remove_entry}
use Rattle.std.proofs.lemmas.Map.{lookup-set_value, keys-set_value}
use Rattle.std.specs.Cmp.{eq_by_cmp_equiv}
use Rattle.std.specs.BTreeMap.{insert_entry, is_at}
use Rattle.std.specs.Cmp.Lexicographic.{nat_list_cmp_total}
use Rattle.std.specs.FinMap.Entries.{below_all, is_sorted-put, find-put, same_entries, is_some-find}
use Rattle.std.proofs.lemmas.Map.Keys.{sorted_head, sorted_tail}
use Rattle.wm_disk.specs.Counters.{max_counter}
use Rattle.wm_names.specs.Paths.{Path, path_cmp, same_path}
use Rattle.wm_view.specs.declared.known.Known.{Known}
use Rattle.wm_view.specs.Summaries.{Knowns, unknown}
use Rattle.wm_view.specs.Steps.{known_or}
use Rattle.std.specs.Prelude.{IsSome, IfSome}
use Rattle.std.specs.BTreeMap as tree
use Rattle.std.specs.BTreeSet as sorted
use Rattle.std.specs.BTreeSet.{BTreeSet}
use Rattle.wm_view.specs.declared.known_paths.KnownPaths.{KnownPaths}
use Rattle.wm_view.specs.KnownPaths.{is_told, told, Place, place_cmp, IsPlaced, IsAmongGone, IsSound, HasChangeRoom, KeepsChangeRoom, KeepsOtherRoom, HaveRoom}
use Rattle.wm_view.proofs.Orders.{both, first, second, not_found}
use Rattle.wm_view.specs.laws.PathSets.{same→≡, tied→≡}
use Rattle.wm_view.proofs.Maps.{same_swap}
use Rattle.wm_view.proofs.KnownPaths.{same_itself}

-- a look-up is a find
pub lookup_finds : {V : Type 0} (p : Path) (es : List (Path × V)) → lookup (is_at (path_cmp p)) es ≡ find path_cmp p es
lookup_finds p [] = refl
lookup_finds p (e ∷ es) = ap (λ o. cond (is_eq (path_cmp p e.0)) (Some e.1) o) (lookup_finds p es)

below_from : {V : Type 0} (p : Path) (es : List (Path × V)) → AllByRecursion (λ q. path_cmp p q ≡ Less) (keys_of es) → T (below_all path_cmp p es)
below_from p [] h = tt
below_from p (e ∷ es) h = both (is_lt (path_cmp p e.0)) (below_all path_cmp p es) (subst (λ o. T (is_lt o)) (sym h.0) tt) (below_from p es h.1)

-- the keys of a tree are in order
pub sorted_from : {V : Type 0} (es : List (Path × V)) → IsStrictlySortedBy path_cmp (keys_of es) → T (is_sorted path_cmp es)
sorted_from [] s = tt
sorted_from (e ∷ es) s =
    both (below_all path_cmp e.0 es) (is_sorted path_cmp es) (below_from e.0 es (sorted_head path_cmp e.0 (keys_of es) s)) (sorted_from es (sorted_tail path_cmp e.0 (keys_of es) s))

-- ---- what is told

below_told : (p : Path) (es : Knowns) → T (below_all path_cmp p es) → T (below_all path_cmp p (filter is_told es))
below_told p [] h = tt
below_told p (e ∷ es) h =
    let rest : T (below_all path_cmp p (filter is_told es)) = below_told p es (second (is_lt (path_cmp p e.0)) (below_all path_cmp p es) h) in
    elim (is_told e) as (λ b. T (below_all path_cmp p (cond b (e ∷ filter is_told es) (filter is_told es)))) [
      | true ↦ both (is_lt (path_cmp p e.0)) (below_all path_cmp p (filter is_told es)) (first (is_lt (path_cmp p e.0)) (below_all path_cmp p es) h) rest
      | false ↦ rest
    ]

pub told_sorted : (es : Knowns) → T (is_sorted path_cmp es) → T (is_sorted path_cmp (filter is_told es))
told_sorted [] s = tt
told_sorted (e ∷ es) s =
    let rest : T (is_sorted path_cmp (filter is_told es)) = told_sorted es (second (below_all path_cmp e.0 es) (is_sorted path_cmp es) s) in
    elim (is_told e) as (λ b. T (is_sorted path_cmp (cond b (e ∷ filter is_told es) (filter is_told es)))) [
      | true ↦ both (below_all path_cmp e.0 (filter is_told es)) (is_sorted path_cmp (filter is_told es)) (below_told e.0 es (first (below_all path_cmp e.0 es) (is_sorted path_cmp es) s)) rest
      | false ↦ rest
    ]

-- nothing, where what is known only has room
abbrev pub if_told : Option Known → Option Known
if_told None = None
if_told (Some x) = cond (nat_lt 0 x.last) (Some x) None

pub find_told : (p : Path) (es : Knowns) → T (is_sorted path_cmp es) → find path_cmp p (filter is_told es) ≡ if_told (find path_cmp p es)
find_told p [] s = refl
find_told p (e ∷ es) s =
    let rest : find path_cmp p (filter is_told es) ≡ if_told (find path_cmp p es) = find_told p es (second (below_all path_cmp e.0 es) (is_sorted path_cmp es) s) in
    elim (same_path p e.0) as (λ b. same_path p e.0 ≡ b → find path_cmp p (filter is_told (e ∷ es)) ≡ if_told (cond b (Some e.1) (find path_cmp p es))) [
      | true ↦ λ same.
          let none : find path_cmp p (filter is_told es) ≡ None =
          rest ∙ ap if_told (ap (λ q. find path_cmp q es) (same→≡ p e.0 same) ∙ not_found e.0 es (first (below_all path_cmp e.0 es) (is_sorted path_cmp es) s)) in
          elim (is_told e) as (λ b. find path_cmp p (cond b (e ∷ filter is_told es) (filter is_told es)) ≡ cond b (Some e.1) None) [
            | true ↦ ap (λ b. cond b (Some e.1) (find path_cmp p (filter is_told es))) same
            | false ↦ none
          ]
      | false ↦ λ other.
          elim (is_told e) as (λ b. find path_cmp p (cond b (e ∷ filter is_told es) (filter is_told es)) ≡ if_told (find path_cmp p es)) [
            | true ↦ ap (λ b. cond b (Some e.1) (find path_cmp p (filter is_told es))) other ∙ rest
            | false ↦ rest
          ]
    ] refl

-- what a look-up finds says what is known
pub known_found : (p : Path) (es : Knowns) → IsStrictlySortedBy path_cmp (keys_of es) → known_or (filter is_told es) p ≡ unwrap_or (if_told (lookup (is_at (path_cmp p)) es)) unknown
known_found p es s = ap (λ o. unwrap_or o unknown) (find_told p es (sorted_from es s) ∙ ap if_told (sym (lookup_finds p es)))

-- ---- room

-- a new path with room only is not told
pub told_insert : (p : Path) (v : Known) (es : Knowns) → nat_lt 0 v.last ≡ false → lookup (is_at (path_cmp p)) es ≡ None → filter is_told (insert_entry path_cmp es p v) ≡ filter is_told es
told_insert p v [] low none = ap (λ b. cond b ((p, v) ∷ []) []) low
told_insert p v (e ∷ es) low none =
    elim (path_cmp p e.0) as (λ o. cond (is_eq o) (Some e.1) (lookup (is_at (path_cmp p)) es) ≡ None → filter is_told (match_ordering o ((p, v) ∷ e ∷ es) ((e.0, v) ∷ es) (e ∷ insert_entry path_cmp es p v)) ≡ filter is_told (e ∷ es)) [
      | Less ↦ λ _. ap (λ b. cond b ((p, v) ∷ filter is_told (e ∷ es)) (filter is_told (e ∷ es))) low
      | Equal ↦ λ some. absurd (subst (λ o. T (is_some o)) some tt)
      | Greater ↦ λ rest. ap (λ l. cond (is_told e) (e ∷ l) l) (told_insert p v es low rest)
    ] none

-- an entry that has room only is taken out
pub told_remove : (p : Path) (es : Knowns) → ((x : Known) → lookup (is_at (path_cmp p)) es ≡ Some x → nat_lt 0 x.last ≡ false) → filter is_told (remove_entry (is_at (path_cmp p)) es) ≡ filter is_told es
told_remove p [] low = refl
told_remove p (e ∷ es) low =
    elim (is_eq (path_cmp p e.0)) as (λ b. ((x : Known) → cond b (Some e.1) (lookup (is_at (path_cmp p)) es) ≡ Some x → nat_lt 0 x.last ≡ false) → filter is_told (cond b es (e ∷ remove_entry (is_at (path_cmp p)) es)) ≡ filter is_told (e ∷ es)) [
      | true ↦ λ here. ap (λ b. cond b (e ∷ filter is_told es) (filter is_told es)) (sym (here e.1 refl))
      | false ↦ λ rest. ap (λ l. cond (is_told e) (e ∷ l) l) (told_remove p es rest)
    ] low

-- ---- what a look-up says, by what it finds

pub known_some : (p : Path) (es : Knowns) (x : Known) → IsStrictlySortedBy path_cmp (keys_of es) → Some x ≡ lookup (is_at (path_cmp p)) es → 0 < x.last → x ≡ known_or (filter is_told es) p
known_some p es x s e l =
    sym (known_found p es s ∙ ap (λ o. unwrap_or (if_told o) unknown) (sym e) ∙ ap (λ b. unwrap_or (cond b (Some x) None) unknown) (lt-ltb 0 x.last l))

pub known_room : (p : Path) (es : Knowns) (x : Known) → IsStrictlySortedBy path_cmp (keys_of es) → Some x ≡ lookup (is_at (path_cmp p)) es → x.last ≤ 0 → unknown ≡ known_or (filter is_told es) p
known_room p es x s e l =
    sym (known_found p es s ∙ ap (λ o. unwrap_or (if_told o) unknown) (sym e) ∙ ap (λ b. unwrap_or (cond b (Some x) None) unknown) (le-ltb 0 x.last l))

pub known_none : (p : Path) (es : Knowns) → IsStrictlySortedBy path_cmp (keys_of es) → None ≡ lookup (is_at (path_cmp p)) es → unknown ≡ known_or (filter is_told es) p
known_none p es s e =
    sym (known_found p es s ∙ ap (λ o. unwrap_or (if_told o) unknown) (sym e))

-- ---- the paths stay sound, and rooms stay

pub sound_entries : (k : KnownPaths) (m : BTreeMap Path Known) → IsSound k → filter is_told m.entries ≡ told k → tree.IsOrdered path_cmp m → IsSound (record { known = m; order = k.order; gone = k.gone })
sound_entries k m s same o = record {
  ordered = o;
  in_order = s.in_order;
  gone_ordered = s.gone_ordered;
  placed = λ p x e. s.placed p x (ap (find path_cmp p) (sym same) ∙ e);
  gone = λ p x e g. s.gone p x (ap (find path_cmp p) (sym same) ∙ e) g;
}

pub sound_order : (k : KnownPaths) (o : BTreeSet Place) → IsSound k → ((q : Place) → sorted.contains place_cmp k.order q ≡ true → sorted.contains place_cmp o q ≡ true) → sorted.IsOrdered place_cmp o → IsSound (record { known = k.known; order = o; gone = k.gone })
sound_order k o s stay ordered = record {
  ordered = s.ordered;
  in_order = ordered;
  gone_ordered = s.gone_ordered;
  placed = λ p x e. ((s.placed p x e).0, stay _ (s.placed p x e).1);
  gone = s.gone;
}

pub room_order : (k : KnownPaths) (o : BTreeSet Place) → ((q : Place) → sorted.contains place_cmp k.order q ≡ true → sorted.contains place_cmp o q ≡ true) → KeepsChangeRoom k (record { known = k.known; order = o; gone = k.gone })
room_order k o stay tick p exists room = record { entry = room.entry; place = stay _ room.place; gone = room.gone }

pub stays : (b c : Bool) → c ≡ true → cond b true c ≡ true
stays true c e = refl
stays false c e = e

pub nothing_there : {A : Type 0} (o : Option A) → is_some o ≡ false → o ≡ None
nothing_there None e = refl
nothing_there (Some x) e = absurd (true≢false e)

-- ---- a write in place

some_is : {A : Type 0} (o : Option A) → is_some o ≡ true → IsSome o
some_is None e = absurd (true≢false (sym e))
some_is (Some x) e = search rules

find_set : (p : Path) (w : Known) (es : Knowns) (q : Path) → is_some (lookup (is_at (path_cmp p)) es) ≡ true → find path_cmp q (set_value (is_at (path_cmp p)) es w) ≡ cond (same_path p q) (Some w) (find path_cmp q es)
find_set p w es q there =
    sym (lookup_finds q (set_value (is_at (path_cmp p)) es w))
    ∙ lookup-set_value (eq_by_cmp_equiv nat_list_cmp_total) (is_at (path_cmp p)) (λ x y e. ap (λ r. same_path r y) (same→≡ p x e)) q w es (some_is (lookup (is_at (path_cmp p)) es) there)
    ∙ ap (λ o. cond (same_path p q) (Some w) o) (lookup_finds q es)

set_sorted : (p : Path) (w : Known) (es : Knowns) → IsStrictlySortedBy path_cmp (keys_of es) → T (is_sorted path_cmp (set_value (is_at (path_cmp p)) es w))
set_sorted p w es s = sorted_from (set_value (is_at (path_cmp p)) es w) (subst (IsStrictlySortedBy path_cmp) (sym (keys-set_value (is_at (path_cmp p)) es w)) s)

if_told_put : (b : Bool) (w : Known) (o : Option Known) → 0 < w.last → if_told (cond b (Some w) o) ≡ cond b (Some w) (if_told o)
if_told_put true w o l = ap (λ b. cond b (Some w) None) (lt-ltb 0 w.last l)
if_told_put false w o l = refl

pub told_set : (p : Path) (w : Known) (es : Knowns) → IsStrictlySortedBy path_cmp (keys_of es) → is_some (lookup (is_at (path_cmp p)) es) ≡ true → 0 < w.last → filter is_told (set_value (is_at (path_cmp p)) es w) ≡ put path_cmp p w (filter is_told es)
told_set p w es s there l =
    same_entries path_cmp nat_list_cmp_total tied→≡ (filter is_told (set_value (is_at (path_cmp p)) es w)) (put path_cmp p w (filter is_told es))
    (told_sorted (set_value (is_at (path_cmp p)) es w) (set_sorted p w es s))
    (is_sorted-put path_cmp nat_list_cmp_total p w (filter is_told es) (told_sorted es (sorted_from es s)))
    (λ q.
    find_told q (set_value (is_at (path_cmp p)) es w) (set_sorted p w es s)
    ∙ ap if_told (find_set p w es q there)
    ∙ if_told_put (same_path p q) w (find path_cmp q es) l
    ∙ (λ i. cond (same_swap p q i) (Some w) (sym (find_told q es (sorted_from es s)) i))
    ∙ sym (find-put path_cmp nat_list_cmp_total q p w (filter is_told es)))

pub put_cases : (k : KnownPaths) (p : Path) (w : Known) (P : Path → Known → Type 0) → P p w → ((q : Path) (x : Known) → find path_cmp q (told k) ≡ Some x → P q x) → (q : Path) (x : Known) → find path_cmp q (put path_cmp p w (told k)) ≡ Some x → P q x
put_cases k p w P here there q x e =
    elim (same_path q p) as (λ b. same_path q p ≡ b → cond b (Some w) (find path_cmp q (told k)) ≡ Some x → P q x) [
      | true ↦ λ same f. subst (λ r. P r x) (sym (same→≡ q p same)) (subst (P p) (ap (λ o. unwrap_or o w) f) here)
      | false ↦ λ _ f. there q x f
    ] refl (sym (find-put path_cmp nat_list_cmp_total q p w (told k)) ∙ e)

-- a write where there is room
pub sound_write : (k : KnownPaths) (m : BTreeMap Path Known) (p : Path) (w : Known) → IsSound k → HasChangeRoom k w.last p w.exists → w.last ≤ max_counter → filter is_told m.entries ≡ put path_cmp p w (told k) → tree.IsOrdered path_cmp m → IsSound (record { known = m; order = k.order; gone = k.gone })
sound_write k m p w s room low e o = record {
  ordered = o;
  in_order = s.in_order;
  gone_ordered = s.gone_ordered;
  placed = λ q x f. put_cases k p w (λ q x. (x.last ≤ max_counter) × IsPlaced k x.last q) (low, room.place) s.placed q x (ap (find path_cmp q) (sym e) ∙ f);
  gone = λ q x f. put_cases k p w (λ q x. x.exists ≡ false → IsAmongGone k q) room.gone s.gone q x (ap (find path_cmp q) (sym e) ∙ f);
}

pub room_write : (k : KnownPaths) (m : BTreeMap Path Known) → tree.keys m ≡ tree.keys k.known → KeepsChangeRoom k (record { known = m; order = k.order; gone = k.gone })
room_write k m same tick p exists room = record {
  entry = is_some-lookup p m.entries ∙ ap (list_any (same_path p)) same ∙ sym (is_some-lookup p k.known.entries) ∙ room.entry;
  place = room.place;
  gone = room.gone;
}
  where
    is_some-lookup : (p : Path) (es : Knowns) → is_some (lookup (is_at (path_cmp p)) es) ≡ list_any (same_path p) (keys_of es)
    is_some-lookup p es = ap is_some (lookup_finds p es) ∙ is_some-find path_cmp p es

-- ---- what is taken out

pub sound_gone : (k : KnownPaths) (g : BTreeSet Path) (p : Path) → IsSound k → IfSome (find path_cmp p (told k)) (λ x. x.exists ≡ true) → ((q : Path) → same_path p q ≡ false → sorted.contains path_cmp g q ≡ sorted.contains path_cmp k.gone q) → sorted.IsOrdered path_cmp g → IsSound (record { known = k.known; order = k.order; gone = g })
sound_gone k g p s there others o = record {
  ordered = s.ordered;
  in_order = s.in_order;
  gone_ordered = o;
  placed = s.placed;
  gone = λ q x e f. elim (same_path p q) as (λ b. same_path p q ≡ b → IsAmongGone (record { known = k.known; order = k.order; gone = g }) q) [
    | true ↦ λ same. absurd (true≢false (sym (exists_so q x same e) ∙ f))
    | false ↦ λ other. others q other ∙ s.gone q x e f
  ] refl;
}
  where
    exists_so : (q : Path) (x : Known) → same_path p q ≡ true → find path_cmp q (told k) ≡ Some x → x.exists ≡ true
    exists_so q x same e = subst (λ o. IfSome o (λ x. x.exists ≡ true)) (ap (λ r. find path_cmp r (told k)) (same→≡ p q same) ∙ e) there

pub room_gone : (k : KnownPaths) (g : BTreeSet Path) (p : Path) → ((q : Path) → same_path p q ≡ false → sorted.contains path_cmp g q ≡ sorted.contains path_cmp k.gone q) → KeepsOtherRoom p k (record { known = k.known; order = k.order; gone = g })
room_gone k g p others tick q exists other room = record { entry = room.entry; place = room.place; gone = λ f. others q other ∙ room.gone f }

then_first : (a b : Ordering) → is_eq (ordering_then a b) ≡ true → a ≡ Equal
then_first Less b e = absurd (true≢false (sym e))
then_first Equal b e = refl
then_first Greater b e = absurd (true≢false (sym e))

then_second : (a b : Ordering) → is_eq (ordering_then a b) ≡ true → is_eq b ≡ true
then_second Less b e = absurd (true≢false (sym e))
then_second Equal b e = e
then_second Greater b e = absurd (true≢false (sym e))

then_other : (a b : Ordering) → is_eq b ≡ false → is_eq (ordering_then a b) ≡ false
then_other Less b e = refl
then_other Equal b e = e
then_other Greater b e = refl

same_left : (a b n : ℕ) → a ≤ n → b ≤ n → n - a ≡ n - b → b ≡ a
same_left a b n l m e = omega arith

-- ---- a place that doesn't count is taken out

module _ (k : KnownPaths) (o : BTreeSet Place) (last : ℕ) (p : Path) (out : (q : Place) → sorted.contains place_cmp o q ≡ cond (is_at (place_cmp (max_counter - last, p)) q) false (sorted.contains place_cmp k.order q)) where
  pub sound_place : IsSound k → last ≤ max_counter → IfSome (find path_cmp p (told k)) (λ x. x.last ≢ last) → sorted.IsOrdered place_cmp o → IsSound (record { known = k.known; order = o; gone = k.gone })
  sound_place s low other ordered = record {
    ordered = s.ordered;
    in_order = ordered;
    gone_ordered = s.gone_ordered;
    placed = λ q x e. ((s.placed q x e).0, out (max_counter - x.last, q) ∙ ap (λ b. cond b false (sorted.contains place_cmp k.order (max_counter - x.last, q))) (apart q x e) ∙ (s.placed q x e).1);
    gone = s.gone;
  }
    where
      apart : (q : Path) (x : Known) → find path_cmp q (told k) ≡ Some x → is_at (place_cmp (max_counter - last, p)) (max_counter - x.last, q) ≡ false
      apart q x e =
          elim (is_at (place_cmp (max_counter - last, p)) (max_counter - x.last, q)) as (λ b. is_at (place_cmp (max_counter - last, p)) (max_counter - x.last, q) ≡ b → b ≡ false) [
            | true ↦ λ same.
                let tick : max_counter - last ≡ max_counter - x.last = nat_cmp-IsAntisymmetric (max_counter - last) (max_counter - x.last) (then_first (nat_cmp (max_counter - last) (max_counter - x.last)) (path_cmp p q) same) in
                let path : p ≡ q = same→≡ p q (then_second (nat_cmp (max_counter - last) (max_counter - x.last)) (path_cmp p q) same) in
                let here : IfSome (Some x) (λ x. x.last ≢ last) = subst (λ o. IfSome o (λ x. x.last ≢ last)) (ap (λ r. find path_cmp r (told k)) path ∙ e) other in
                absurd (here (same_left last x.last max_counter low (s.placed q x e).0 tick))
            | false ↦ λ _. refl
          ] refl

  pub room_place : KeepsOtherRoom p k (record { known = k.known; order = o; gone = k.gone })
  room_place tick q exists other room = record {
    entry = room.entry;
    place = out (max_counter - tick, q) ∙ ap (λ b. cond b false (sorted.contains place_cmp k.order (max_counter - tick, q))) (then_other (nat_cmp (max_counter - last) (max_counter - tick)) (path_cmp p q) other) ∙ room.place;
    gone = room.gone;
  }

-- ---- a path that has room only is taken out

pub found_put : (p : Path) (w : Known) (ks : Knowns) → find path_cmp p (put path_cmp p w ks) ≡ Some w
found_put p w ks = find-put path_cmp nat_list_cmp_total p p w ks ∙ ap (λ b. cond b (Some w) (find path_cmp p ks)) (same_itself p)

pub exists_there : (o : Option Known) (w : Known) → o ≡ Some w → w.exists ≡ true → IfSome o (λ x. x.exists ≡ true)
exists_there o w e there = subst (λ o. IfSome o (λ x. x.exists ≡ true)) (sym e) there

not_less : (a b : ℕ) → a ≡ b → b < a → ⊥
not_less a b e l = omega arith

pub last_there : (o : Option Known) (w : Known) (n : ℕ) → o ≡ Some w → n < w.last → IfSome o (λ x. x.last ≢ n)
last_there o w n e l = subst (λ o. IfSome o (λ x. x.last ≢ n)) (sym e) (λ f. not_less w.last n f l)

-- ---- room only

not_told : (o : Option Known) (x : Known) → o ≡ Some x → if_told o ≡ None → nat_lt 0 x.last ≡ false
not_told o x e none =
    elim (nat_lt 0 x.last) as (λ b. cond b (Some x) None ≡ None → b ≡ false) [
      | true ↦ λ some. absurd (subst (λ o. T (is_some o)) some tt)
      | false ↦ λ _. refl
    ] (sym (ap if_told e) ∙ none)

pub told_without : (p : Path) (es : Knowns) → IsStrictlySortedBy path_cmp (keys_of es) → find path_cmp p (filter is_told es) ≡ None → filter is_told (remove_entry (is_at (path_cmp p)) es) ≡ filter is_told es
told_without p es s none =
    told_remove p es (λ x e. not_told (find path_cmp p es) x (sym (lookup_finds p es) ∙ e) (sym (find_told p es (sorted_from es s)) ∙ none))

above : {n : ℕ} → 0 < n → n ≡ 0 → ⊥
above l e = omega arith

pub none_known : (p : Path) (es : Knowns) → IsStrictlySortedBy path_cmp (keys_of es) → (known_or (filter is_told es) p).last ≡ 0 → find path_cmp p (filter is_told es) ≡ None
none_known p es s zero =
    let told : find path_cmp p (filter is_told es) ≡ if_told (find path_cmp p es) = find_told p es (sorted_from es s) in
    told ∙ elim (find path_cmp p es) as (λ o. (unwrap_or (if_told o) unknown).last ≡ 0 → if_told o ≡ None) [
      | None ↦ λ _. refl
      | Some x ↦ λ z. elim (nat_lt 0 x.last) as (λ b. nat_lt 0 x.last ≡ b → (unwrap_or (cond b (Some x) None) unknown).last ≡ 0 → cond b (Some x) None ≡ None) [
        | true ↦ λ l f. absurd (above (ltb-true 0 x.last l) f)
        | false ↦ λ _ _. refl
      ] refl z
    ] (sym (ap (λ o. (unwrap_or o unknown).last) told) ∙ zero)

-- ---- the changes one by one

pub others_room : (old new : KnownPaths) (p : Path) (tick : ℕ) (es : Knowns) → AllByRecursion (λ q. path_cmp p q ≡ Less) (keys_of es) → KeepsOtherRoom p old new → HaveRoom old tick es → HaveRoom new tick es
others_room old new p tick [] less keeps room = room
others_room old new p tick (e ∷ es) less keeps room =
    (keeps tick e.0 e.1.exists (ap is_eq less.0) room.0, others_room old new p tick es less.1 keeps room.1)
