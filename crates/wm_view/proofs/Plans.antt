-- The changes of a tick against the map that it makes.
use Rattle.std.proofs.Common.{◌≡◌, ℕ, suc, length, nat_le, add-one, le-leb, le-ltb, Result, Ok, Err, ◌+◌, ◌<◌, ◌≤◌, Bool, true, false, cond, not, ◌&&◌, ◌||◌, T, List, [], ◌∷◌, map, Option, Some, None, filter, is_some, unwrap_or, option_and_then, refl, sym, ap, subst, ◌∙◌, arith, true≢false}
use Rattle.std.specs.Ordering.{is_lt}
use Rattle.std.specs.List.{AllByRecursion}
use Rattle.std.specs.Cmp.Lexicographic.{nat_list_cmp_total}
use Rattle.std.specs.FinMap.{find, put, is_sorted}
use Rattle.std.specs.FinMap.Entries.{below_all, is_sorted-put, find-put, same_entries}
use Rattle.wm_disk.specs.Counters.{max_counter}
use Rattle.wm_names.specs.Paths.{Path, path_cmp, same_path}
use Rattle.wm_names.specs.Entries.{same_state, same_meta}
use Rattle.wm_names.specs.declared.entry.Meta.{Meta}
use Rattle.wm_view.specs.declared.known.Known.{Known}
use Rattle.wm_view.specs.Files.{Files, IsMap, at, is_in, add_paths, same_files}
use Rattle.wm_view.specs.Summaries.{Summary, Knowns, known_meta, unknown, state_in, next_known, tagged}
use Rattle.wm_view.specs.Steps.{present, keys, known_or, known_next, next_in, grown_in, spent_in, refused_in, done_in}
use Rattle.wm_view.specs.Histories.{max_pairs, refuse_if, unless_refused, observed}
use Rattle.wm_disk.specs.declared.refusal.Refusal.TheVariants.{Exhausted, NotReady, TooMany}
use Rattle.wm_view.proofs.ByLast.{not_at_most}
use Rattle.wm_view.specs.KnownPaths.{AreAt, AreMadeAt, IsUpTo, after_changes}
use Rattle.wm_view.specs.ViewStates.{IsDoneOrRefused}
use Rattle.wm_view.specs.Changes.{IsPlan, change_of, told_change}
use Rattle.std.specs.Option.{option_or}
use Rattle.wm_disk.specs.declared.refusal.Refusal.{Refusal}
use Rattle.wm_view.specs.declared.op.Op.{Op}
use Rattle.wm_view.specs.declared.op.Op.TheVariants.{Observe}
use Rattle.wm_view.specs.Views.{IsStepped}
use Rattle.std.specs.Map.{lookup}
use Rattle.std.specs.BTreeMap.{is_at}
use Rattle.wm_view.specs.HistoryLaws.{last_told}
use Rattle.wm_view.proofs.Maps.{same_swap}
use Rattle.wm_view.proofs.Orders.{both, first, second, not_found}
use Rattle.wm_view.specs.laws.PathSets.{same→≡, tied→≡, add_in}
use Rattle.wm_disk.specs.laws.Tests.{both_first, both_second}
use Rattle.wm_view.proofs.PathLaws.{same_state→≡, same_meta→≡}
use Rattle.wm_view.proofs.TickLaws.{same_files_itself, same_meta_itself}
use Rattle.wm_view.proofs.KnownPaths.{same_itself}
use Rattle.wm_view.specs.laws.Tagged.{added_sorted, find_tagged}

none_after : (p : Path) (e : Path × Known) (es : Knowns) → same_path p e.0 ≡ true → T (is_sorted path_cmp (e ∷ es)) → find path_cmp p es ≡ None
none_after p e es same s = ap (λ r. find path_cmp r es) (same→≡ p e.0 same) ∙ not_found e.0 es (first (below_all path_cmp e.0 es) (is_sorted path_cmp es) s)

tail : (e : Path × Known) (es : Knowns) → T (is_sorted path_cmp (e ∷ es)) → T (is_sorted path_cmp es)
tail e es s = second (below_all path_cmp e.0 es) (is_sorted path_cmp es) s

-- ---- what is known after changes

pub find_after : (ks es : Knowns) (p : Path) → T (is_sorted path_cmp es) → find path_cmp p (after_changes ks es) ≡ option_or (find path_cmp p es) (find path_cmp p ks)
find_after ks [] p s = refl
find_after ks (e ∷ es) p s =
    find_after (put path_cmp e.0 e.1 ks) es p (tail e es s)
    ∙ ap (option_or (find path_cmp p es)) (find-put path_cmp nat_list_cmp_total p e.0 e.1 ks)
    ∙ elim (same_path p e.0) as (λ b. same_path p e.0 ≡ b → option_or (find path_cmp p es) (cond b (Some e.1) (find path_cmp p ks)) ≡ option_or (cond b (Some e.1) (find path_cmp p es)) (find path_cmp p ks)) [
      | true ↦ λ same. ap (λ o. option_or o (Some e.1)) (none_after p e es same s)
      | false ↦ λ _. refl
    ] refl

pub after_sorted : (ks es : Knowns) → T (is_sorted path_cmp ks) → T (is_sorted path_cmp (after_changes ks es))
after_sorted ks [] s = s
after_sorted ks (e ∷ es) s = after_sorted (put path_cmp e.0 e.1 ks) es (is_sorted-put path_cmp nat_list_cmp_total e.0 e.1 ks s)

-- each change is found, so what holds of those that are found holds of each
module _ (of : Known → ℕ) (t : ℕ) where
  all_from_points : (es : Knowns) → T (is_sorted path_cmp es) → ((p : Path) (x : Known) → find path_cmp p es ≡ Some x → of x ≡ t) → AllByRecursion (λ e. of e.1 ≡ t) es
  all_from_points [] s h = tt
  all_from_points (e ∷ es) s h = (
    h e.0 e.1 (ap (λ b. cond b (Some e.1) (find path_cmp e.0 es)) (same_itself e.0)),
    all_from_points es (tail e es s) (λ p x f. h p x (elim (same_path p e.0) as (λ b. same_path p e.0 ≡ b → cond b (Some e.1) (find path_cmp p es) ≡ Some x) [
      | true ↦ λ same. absurd (true≢false (sym (ap is_some f) ∙ ap is_some (none_after p e es same s)))
      | false ↦ λ _. f
    ] refl)),
  )

  all_points : (es : Knowns) → AllByRecursion (λ e. of e.1 ≡ t) es → (p : Path) (x : Known) → find path_cmp p es ≡ Some x → of x ≡ t
  all_points [] h p x f = absurd (true≢false (sym (ap is_some f)))
  all_points (e ∷ es) h p x f =
      elim (same_path p e.0) as (λ b. cond b (Some e.1) (find path_cmp p es) ≡ Some x → of x ≡ t) [
        | true ↦ λ g. ap (λ o. of (unwrap_or o x)) (sym g) ∙ h.0
        | false ↦ λ g. all_points es h.1 p x g
      ] f

pub at_points : (t : ℕ) (es : Knowns) → AreAt t es → (p : Path) (x : Known) → find path_cmp p es ≡ Some x → x.last ≡ t
at_points t es h p x f = all_points (λ k. k.last) t es h p x f

pub of_points : (m : ℕ) (es : Knowns) → AreMadeAt m es → (p : Path) (x : Known) → find path_cmp p es ≡ Some x → x.moment ≡ m
of_points m es h p x f = all_points (λ k. k.moment) m es h p x f

more : (a b : ℕ) → a ≤ b → a ≤ b + 1
more a b l = omega arith

at_more : (a b : ℕ) → a ≡ b + 1 → a ≤ b + 1
at_more a b e = omega arith

-- the last changes stay below the new tick
pub up_after : (n : ℕ) (ks es : Knowns) → T (is_sorted path_cmp es) → IsUpTo n ks → AreAt (n + 1) es → IsUpTo (n + 1) (after_changes ks es)
up_after n ks es s up h p x f =
    elim (find path_cmp p es) as (λ o. find path_cmp p es ≡ o → option_or o (find path_cmp p ks) ≡ Some x → x.last ≤ n + 1) [
      | None ↦ λ _ g. more x.last n (up p x g)
      | Some y ↦ λ e g. at_more x.last n (at_points (n + 1) es h p x (e ∙ g))
    ] refl (sym (find_after ks es p s) ∙ f)

-- ---- what is there now

below_present : (p : Path) (ks : Knowns) → T (below_all path_cmp p ks) → T (below_all path_cmp p (present ks))
below_present p [] h = tt
below_present p (e ∷ es) h =
    let rest : T (below_all path_cmp p (present es)) = below_present p es (second (is_lt (path_cmp p e.0)) (below_all path_cmp p es) h) in
    elim (e.1.exists) as (λ b. T (below_all path_cmp p (map (λ (e : Path × Known). (e.0, known_meta e.1)) (cond b (e ∷ filter (λ e. e.1.exists) es) (filter (λ e. e.1.exists) es))))) [
      | true ↦ both (is_lt (path_cmp p e.0)) (below_all path_cmp p (present es)) (first (is_lt (path_cmp p e.0)) (below_all path_cmp p es) h) rest
      | false ↦ rest
    ]

pub present_sorted : (ks : Knowns) → T (is_sorted path_cmp ks) → T (is_sorted path_cmp (present ks))
present_sorted [] s = tt
present_sorted (e ∷ es) s =
    let rest : T (is_sorted path_cmp (present es)) = present_sorted es (tail e es s) in
    elim (e.1.exists) as (λ b. T (is_sorted path_cmp (map (λ (e : Path × Known). (e.0, known_meta e.1)) (cond b (e ∷ filter (λ e. e.1.exists) es) (filter (λ e. e.1.exists) es))))) [
      | true ↦ both (below_all path_cmp e.0 (present es)) (is_sorted path_cmp (present es)) (below_present e.0 es (first (below_all path_cmp e.0 es) (is_sorted path_cmp es) s)) rest
      | false ↦ rest
    ]

pub at_present : (ks : Knowns) (p : Path) → T (is_sorted path_cmp ks) → at (present ks) p ≡ state_in (known_or ks p)
at_present [] p s = refl
at_present (e ∷ es) p s =
    let rest : at (present es) p ≡ state_in (known_or es p) = at_present es p (tail e es s) in
    elim (same_path p e.0) as (λ b. same_path p e.0 ≡ b → at (present (e ∷ es)) p ≡ state_in (unwrap_or (cond b (Some e.1) (find path_cmp p es)) unknown)) [
      | true ↦ λ same.
          let none : at (present es) p ≡ None = rest ∙ ap (λ o. state_in (unwrap_or o unknown)) (none_after p e es same s) in
          elim (e.1.exists) as (λ b. at (map (λ (e : Path × Known). (e.0, known_meta e.1)) (cond b (e ∷ filter (λ e. e.1.exists) es) (filter (λ e. e.1.exists) es))) p ≡ cond b (Some (known_meta e.1)) None) [
            | true ↦ ap (λ b. cond b (Some (known_meta e.1)) (at (present es) p)) same
            | false ↦ none
          ]
      | false ↦ λ other.
          elim (e.1.exists) as (λ b. at (map (λ (e : Path × Known). (e.0, known_meta e.1)) (cond b (e ∷ filter (λ e. e.1.exists) es) (filter (λ e. e.1.exists) es))) p ≡ state_in (known_or es p)) [
            | true ↦ ap (λ b. cond b (Some (known_meta e.1)) (at (present es) p)) other ∙ rest
            | false ↦ rest
          ]
    ] refl

-- ---- a plan

pub same_state_itself : (o : Option Meta) → same_state o o ≡ true
same_state_itself None = refl
same_state_itself (Some m) = same_meta_itself m

unchanged : (k : Known) (t m : ℕ) (o : Option Meta) → None ≡ change_of k t m o → same_state o (state_in k) ≡ true
unchanged k t m o e =
    elim (same_state o (state_in k)) as (λ b. None ≡ cond b None (Some (next_known k t m o)) → b ≡ true) [
      | true ↦ λ _. refl
      | false ↦ λ f. absurd (true≢false (ap is_some (sym f)))
    ] e

changed : (k : Known) (t m : ℕ) (o : Option Meta) (x : Known) → Some x ≡ change_of k t m o → same_state o (state_in k) ≡ false
changed k t m o x e =
    elim (same_state o (state_in k)) as (λ b. Some x ≡ cond b None (Some (next_known k t m o)) → b ≡ false) [
      | true ↦ λ f. absurd (true≢false (ap is_some f))
      | false ↦ λ _. refl
    ] e

-- where there is no change, the map is the present one
pub no_change : (ks : Knowns) (t m : ℕ) (files : Files) → T (is_sorted path_cmp ks) → IsMap files → IsPlan ks t m files [] → same_files files (present ks) ≡ true
no_change ks t m files s f plan =
    let same : files ≡ present ks = same_entries path_cmp nat_list_cmp_total tied→≡ files (present ks) f (present_sorted ks s) (λ q. same_state→≡ (at files q) (state_in (known_or ks q)) (unchanged (known_or ks q) t m (at files q) (plan q)) ∙ sym (at_present ks q s)) in
    ap (λ g. same_files g (present ks)) same ∙ same_files_itself (present ks)

same_files→≡ : (a b : Files) → same_files a b ≡ true → a ≡ b
same_files→≡ [] [] h = refl
same_files→≡ [] (y ∷ ys) h = absurd (true≢false (sym h))
same_files→≡ (x ∷ xs) [] h = absurd (true≢false (sym h))
same_files→≡ (x ∷ xs) (y ∷ ys) h =
    let head : (same_path x.0 y.0 && same_meta x.1 y.1) ≡ true = both_first (same_path x.0 y.0 && same_meta x.1 y.1) (same_files xs ys) h in
    let path : x.0 ≡ y.0 = same→≡ x.0 y.0 (both_first (same_path x.0 y.0) (same_meta x.1 y.1) head) in
    let meta : x.1 ≡ y.1 = same_meta→≡ x.1 y.1 (both_second (same_path x.0 y.0) (same_meta x.1 y.1) head) in
    λ i. (path i, meta i) ∷ same_files→≡ xs ys (both_second (same_path x.0 y.0 && same_meta x.1 y.1) (same_files xs ys) h) i

pub some_change : (ks : Knowns) (t m : ℕ) (files : Files) (e : Path × Known) (es : Knowns) → T (is_sorted path_cmp ks) → IsPlan ks t m files (e ∷ es) → same_files files (present ks) ≡ false
some_change ks t m files e es s plan =
    elim (same_files files (present ks)) as (λ b. same_files files (present ks) ≡ b → b ≡ false) [
      | true ↦ λ same.
          let here : Some e.1 ≡ change_of (known_or ks e.0) t m (at files e.0) = sym (ap (λ b. cond b (Some e.1) (find path_cmp e.0 es)) (same_itself e.0)) ∙ plan e.0 in
          let state : at files e.0 ≡ state_in (known_or ks e.0) = ap (λ f. at f e.0) (same_files→≡ files (present ks) same) ∙ at_present ks e.0 s in
          absurd (true≢false (sym (ap (λ o. same_state o (state_in (known_or ks e.0))) state ∙ same_state_itself (state_in (known_or ks e.0))) ∙ changed (known_or ks e.0) t m (at files e.0) e.1 here))
      | false ↦ λ _. refl
    ] refl

-- ---- what a tick makes of what is known

below_keys : (g : Path → Known) (p : Path) (ks : Knowns) → T (below_all path_cmp p ks) → T (below_all path_cmp p (tagged g (keys ks)))
below_keys g p [] h = tt
below_keys g p (e ∷ es) h =
    both (is_lt (path_cmp p e.0)) (below_all path_cmp p (tagged g (keys es))) (first (is_lt (path_cmp p e.0)) (below_all path_cmp p es) h) (below_keys g p es (second (is_lt (path_cmp p e.0)) (below_all path_cmp p es) h))

keys_sorted : (g : Path → Known) (ks : Knowns) → T (is_sorted path_cmp ks) → T (is_sorted path_cmp (tagged g (keys ks)))
keys_sorted g [] s = tt
keys_sorted g (e ∷ es) s =
    both (below_all path_cmp e.0 (tagged g (keys es))) (is_sorted path_cmp (tagged g (keys es))) (below_keys g e.0 es (first (below_all path_cmp e.0 es) (is_sorted path_cmp es) s)) (keys_sorted g es (tail e es s))

in_keys : (p : Path) (ks : Knowns) → is_in p (keys ks) ≡ is_some (find path_cmp p ks)
in_keys p [] = refl
in_keys p (e ∷ es) =
    elim (same_path p e.0) as (λ b. (b || is_in p (keys es)) ≡ is_some (cond b (Some e.1) (find path_cmp p es))) [ true ↦ refl | false ↦ in_keys p es ]

-- what becomes of a path whose state is another
abbrev next_new : Known → ℕ → ℕ → Option Meta → Known
next_new k t m o = record {
  exists = is_some o;
  kind = (unwrap_or o (known_meta k)).kind;
  size = (unwrap_or o (known_meta k)).size;
  mtime_ms = (unwrap_or o (known_meta k)).mtime_ms;
  last = t;
  created = cond (is_some o && not k.exists) t k.created;
  moment = m;
  created_moment = cond (is_some o && not k.exists) m k.created_moment;
}

or_true : (b : Bool) → (b || true) ≡ true
or_true true = refl
or_true false = refl

next_is : (k : Known) (t m : ℕ) (o : Option Meta) → option_or (change_of k t m o) (Some k) ≡ Some (next_known k t m o)
next_is k t m o =
    elim (same_state o (state_in k)) as (λ b. option_or (cond b None (Some (cond b k (next_new k t m o)))) (Some k) ≡ Some (cond b k (next_new k t m o))) [ true ↦ refl | false ↦ refl ]

next_at : (f : Option Known) (t m : ℕ) (o : Option Meta) → option_or (change_of (unwrap_or f unknown) t m o) f ≡ cond (is_some o || is_some f) (Some (next_known (unwrap_or f unknown) t m o)) None
next_at (Some k) t m o = next_is k t m o ∙ sym (ap (λ b. cond b (Some (next_known k t m o)) None) (or_true (is_some o)))
next_at None t m None = refl
next_at None t m (Some s) = refl

pub plan_next : (ks : Knowns) (t m : ℕ) (files : Files) (plan : Knowns) → T (is_sorted path_cmp ks) → T (is_sorted path_cmp plan) → IsPlan ks t m files plan → after_changes ks plan ≡ known_next ks t m files
plan_next ks t m files plan s p is =
    let next : Path → Known = λ q. next_known (known_or ks q) t m (at files q) in
    same_entries path_cmp nat_list_cmp_total tied→≡ (after_changes ks plan) (known_next ks t m files) (after_sorted ks plan s) (added_sorted next files (keys ks) (keys_sorted next ks s))
    (λ q. find_after ks plan q p
    ∙ ap (λ o. option_or o (find path_cmp q ks)) (is q)
    ∙ next_at (find path_cmp q ks) t m (at files q)
    ∙ ap (λ b. cond b (Some (next q)) None) (ap (λ b. is_some (at files q) || b) (sym (in_keys q ks)) ∙ sym (add_in q files (keys ks)))
    ∙ sym (find_tagged next q (add_paths files (keys ks))))

-- ---- a tick, where anything changes

module _ (s : Summary) (ready : s.ready ≡ true) (sorted : T (is_sorted path_cmp s.known)) (moment : ℕ) (files : Files) where
  and_false : (b : Bool) → (b && false) ≡ false
  and_false true = refl
  and_false false = refl

  pub next_none : (plan : Knowns) → length plan < 1 → IsMap files → IsPlan s.known (s.tick + 1) moment files plan → (refuse_if (spent_in s files) Exhausted None ≡ None) × (s ≡ next_in s moment files)
  next_none (e ∷ es) l f is = absurd (omega arith)
  next_none [] l f is =
      let same : same_files files (present s.known) ≡ true = no_change s.known (s.tick + 1) moment files sorted f is in (
        ap (λ b. refuse_if (nat_le max_counter s.tick && not b) Exhausted None) same ∙ ap (λ b. refuse_if b Exhausted None) (and_false (nat_le max_counter s.tick)),
        sym (ap (λ b. cond b s (grown_in s moment files)) same),
      )

  differs : (plan : Knowns) → 1 ≤ length plan → IsPlan s.known (s.tick + 1) moment files plan → same_files files (present s.known) ≡ false
  differs [] l is = absurd (omega arith)
  differs (e ∷ es) l is = some_change s.known (s.tick + 1) moment files e es sorted is

  pub next_spent : (plan : Knowns) → 1 ≤ length plan → max_counter ≤ s.tick → IsPlan s.known (s.tick + 1) moment files plan → refuse_if (spent_in s files) Exhausted None ≡ Some Exhausted
  next_spent plan l high is = λ i. refuse_if (le-leb max_counter s.tick high i && not (differs plan l is i)) Exhausted None

  and_true : (b : Bool) → (b && true) ≡ b
  and_true true = refl
  and_true false = refl

  pub next_grown : (plan : Knowns) → 1 ≤ length plan → s.tick < max_counter → T (is_sorted path_cmp plan) → IsPlan s.known (s.tick + 1) moment files plan
      → (refuse_if (spent_in s files) Exhausted None ≡ None) × (record s { ready = true; tick = suc s.tick; known = after_changes s.known plan } ≡ next_in s moment files)
  next_grown plan l low p is =
      let other : same_files files (present s.known) ≡ false = differs plan l is in
      let made : after_changes s.known plan ≡ known_next s.known (suc s.tick) moment files = plan_next s.known (suc s.tick) moment files plan sorted p (subst (λ t. IsPlan s.known t moment files plan) (add-one s.tick) is) in (
        ap (λ b. refuse_if (nat_le max_counter s.tick && not b) Exhausted None) other ∙ ap (λ b. refuse_if b Exhausted None) (and_true (nat_le max_counter s.tick) ∙ not_at_most max_counter s.tick low),
        (λ i. record s { ready = true; ready_moment = cond (sym ready i) s.ready_moment moment; tick = suc s.tick; known = made i }) ∙ sym (ap (λ b. cond b s (grown_in s moment files)) other),
      )

-- ---- what is told of each path

pub told_turn : (told : List (Path × Option Meta)) (new : List (Path × Option Meta)) (x : Path × Option Meta) (rest : List (Path × Option Meta)) (p : Path) (old : Option Meta)
    → lookup (is_at (path_cmp p)) new ≡ cond (is_at (path_cmp x.0) p) (Some x.1) (lookup (is_at (path_cmp p)) told)
    → last_told rest p (unwrap_or (lookup (is_at (path_cmp p)) new) old) ≡ last_told (x ∷ rest) p (unwrap_or (lookup (is_at (path_cmp p)) told) old)
told_turn told new x rest p old e =
    ap (λ o. last_told rest p (unwrap_or o old)) e
    ∙ ap (λ b. last_told rest p (unwrap_or (cond b (Some x.1) (lookup (is_at (path_cmp p)) told)) old)) (same_swap x.0 p)
    ∙ elim (same_path p x.0) as (λ b. last_told rest p (unwrap_or (cond b (Some x.1) (lookup (is_at (path_cmp p)) told)) old) ≡ last_told rest p (cond b x.1 (unwrap_or (lookup (is_at (path_cmp p)) told) old))) [ true ↦ refl | false ↦ refl ]

abbrev pub Told : Type 0
Told = List (Path × Option Meta)

-- ---- a change more, for one more entry of what is gone through

module _ {V : Type 0} (x : Path × V) (rest : List (Path × V)) (s : T (is_sorted path_cmp (x ∷ rest))) where
  none_left : (q : Path) → same_path q x.0 ≡ true → find path_cmp q rest ≡ None
  none_left q same = ap (λ r. find path_cmp r rest) (same→≡ q x.0 same) ∙ not_found x.0 rest (first (below_all path_cmp x.0 rest) (is_sorted path_cmp rest) s)

  -- what becomes of q by what is left to go through, and else what has become of it
  module _ (change : Path → V → Option Known) (q : Path) (had : Option Known) where
    abbrev pub TurnsInto : Option Known → Type 0
    TurnsInto has = option_or (option_and_then (change q) (find path_cmp q rest)) has ≡ option_or (option_and_then (change q) (find path_cmp q (x ∷ rest))) had

    pub change_turn : (c : Known) → Some c ≡ change x.0 x.1 → TurnsInto (cond (is_at (path_cmp x.0) q) (Some c) had)
    change_turn c e =
        ap (λ b. option_or (option_and_then (change q) (find path_cmp q rest)) (cond b (Some c) had)) (same_swap x.0 q)
        ∙ elim (same_path q x.0) as (λ b. same_path q x.0 ≡ b → option_or (option_and_then (change q) (find path_cmp q rest)) (cond b (Some c) had) ≡ option_or (option_and_then (change q) (cond b (Some x.1) (find path_cmp q rest))) had) [
          | true ↦ λ same.
              ap (λ o. option_or (option_and_then (change q) o) (Some c)) (none_left q same)
              ∙ ap (λ o. option_or o had) (e ∙ ap (λ r. change r x.1) (sym (same→≡ q x.0 same)))
          | false ↦ λ _. refl
        ] refl

    pub same_turn : None ≡ change x.0 x.1 → TurnsInto had
    same_turn e =
        elim (same_path q x.0) as (λ b. same_path q x.0 ≡ b → option_or (option_and_then (change q) (find path_cmp q rest)) had ≡ option_or (option_and_then (change q) (cond b (Some x.1) (find path_cmp q rest))) had) [
          | true ↦ λ same.
              ap (λ o. option_or (option_and_then (change q) o) had) (none_left q same)
              ∙ ap (λ o. option_or o had) (e ∙ ap (λ r. change r x.1) (sym (same→≡ q x.0 same)))
          | false ↦ λ _. refl
        ] refl

change_made : (k : Known) (t m : ℕ) (o : Option Meta) (x : Known) → change_of k t m o ≡ Some x → (x.last ≡ t) × (x.moment ≡ m)
change_made k t m o x e =
    elim (same_state o (state_in k)) as (λ b. cond b None (Some (cond b k (next_new k t m o))) ≡ Some x → (x.last ≡ t) × (x.moment ≡ m)) [
      | true ↦ λ f. absurd (true≢false (sym (ap is_some f)))
      | false ↦ λ f. (sym (ap (λ (r : Option Known). (unwrap_or r (next_new k t m o)).last) f), sym (ap (λ (r : Option Known). (unwrap_or r (next_new k t m o)).moment) f))
    ] e

told_made : (k : Known) (t m : ℕ) (f : Option (Option Meta)) (x : Known) → told_change k t m f ≡ Some x → (x.last ≡ t) × (x.moment ≡ m)
told_made k t m None x e = absurd (true≢false (sym (ap is_some e)))
told_made k t m (Some o) x e = change_made k t m o x e

module _ (ks : Knowns) (t m : ℕ) (told : Path → Option (Option Meta)) (plan : Knowns) (is : (p : Path) → find path_cmp p plan ≡ told_change (known_or ks p) t m (told p)) where
  pub told_at : T (is_sorted path_cmp plan) → AreAt t plan
  told_at s = all_from_points (λ k. k.last) t plan s (λ p x f. (told_made (known_or ks p) t m (told p) x (sym (is p) ∙ f)).0)

  pub told_of : T (is_sorted path_cmp plan) → AreMadeAt m plan
  told_of s = all_from_points (λ k. k.moment) m plan s (λ p x f. (told_made (known_or ks p) t m (told p) x (sym (is p) ∙ f)).1)

  -- a plan of what is told of each path, and of the rest nothing
  pub told_plan : (files : Files) → T (is_sorted path_cmp ks) → ((p : Path) → at files p ≡ unwrap_or (told p) (at (present ks) p)) → IsPlan ks t m files plan
  told_plan files s h p =
      is p ∙ elim (told p) as (λ f. at files p ≡ unwrap_or f (at (present ks) p) → told_change (known_or ks p) t m f ≡ change_of (known_or ks p) t m (at files p)) [
        | Some o ↦ λ e. ap (change_of (known_or ks p) t m) (sym e)
        | None ↦ λ e.
            let now : at files p ≡ state_in (known_or ks p) = e ∙ at_present ks p s in
            sym (ap (λ b. cond b None (Some (next_known (known_or ks p) t m (at files p)))) (ap (λ o. same_state o (state_in (known_or ks p))) now ∙ same_state_itself (state_in (known_or ks p))))
      ] (h p)

-- ---- done as the summary's step has it

pub moved_from : (s : Summary) (op : Op) (refused : Option Refusal) (r : Result (Unit {0}) Refusal) (new : Summary) → refused_in s op ≡ refused → IsDoneOrRefused refused (done_in s op) s r new → IsStepped s op r new
moved_from s op refused (Ok d) new e h = (e ∙ h.0, h.1 ∙ sym (ap (λ r. unless_refused r (done_in s op) s) (e ∙ h.0)))
moved_from s op refused (Err x) new e h = ((λ n. e ∙ h.0 n), h.1)

pub observe_refused : (s : Summary) (moment : ℕ) (pairs : List (Path × Option Meta)) → s.ready ≡ true → length pairs ≤ max_pairs → refused_in s (Observe moment pairs) ≡ refuse_if (spent_in s (observed (present s.known) pairs)) Exhausted None
observe_refused s moment pairs ready few = λ i. refuse_if (not (ready i)) NotReady (refuse_if (le-ltb max_pairs (length pairs) few i) TooMany (refuse_if (spent_in s (observed (present s.known) pairs)) Exhausted None))
