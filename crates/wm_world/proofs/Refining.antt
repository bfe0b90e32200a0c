-- From the views that the program keeps to the histories of the world.
use Rattle.std.proofs.Common.{◌≡◌, ◌≢◌, ℕ, zero, suc, ◌<◌, ◌≤◌, Bool, true, false, cond, ◌&&◌, List, [], ◌∷◌, ◌++◌, length, map, find, ◌==◌, Option, Some, None, option_map, Result, Ok, Err, IfErr, get_or, set, refl, sym, ap, subst, ◌∙◌, arith, true≢false, ne_eqb, eq-eqb}
use Rattle.std.specs.List.{AllByRecursion}
use Rattle.std.specs.Option.{option_map_or}
use Rattle.wm_disk.specs.declared.refusal.Refusal.{Refusal}
use Rattle.wm_disk.specs.declared.refusal.Refusal.TheVariants.{NoMemory}
use Rattle.wm_names.specs.Paths.{Path}
use Rattle.wm_registry.specs.declared.root.Root.{Root}
use Rattle.wm_registry.specs.Roots.{root_at}
use Rattle.wm_view.specs.declared.op.Op.{Op}
use Rattle.wm_view.specs.Histories.{History, IsMade, after_operation, is_ready, unless_refused}
use Rattle.wm_view.specs.Steps.{done_in, step}
use Rattle.wm_view.specs.Summaries.{Summary, summary}
use Rattle.wm_view.specs.Views.{IsStepped}
use Rattle.wm_since.specs.Clients.{next_question}
use Rattle.wm_since.specs.Laws.{AnswersBySummary}
use Rattle.wm_world.specs.declared.connection.Connection.{Connection}
use Rattle.wm_world.specs.Worlds.{World, at_first, history_in, is_of, live, registry, wants}
use Rattle.wm_world.specs.Steps.{answer_about, asking, changed_at, with_answer}
use Rattle.wm_world.specs.Refinement.{AreViews, answer_by_view, asking_by, is_root, view_at}
use Rattle.wm_world.proofs.Growing.{extends_after}

-- an operation that finds memory is a step
pub moved_step : (old new : Summary) (op : Op) (r : Result (Unit {0}) Refusal) → IsStepped old op r new → IfErr r (λ e. e ≢ NoMemory) → new ≡ step old op
moved_step old new op (Ok x) m fine = m.1
moved_step old new op (Err e) m fine = m.1 ∙ sym (ap (λ r. unless_refused r (done_in old op) old) (m.0 fine))

-- ---- lists

pub split_all : {A : Type 0} (P : A → Type 0) (xs ys : List A) → AllByRecursion P (xs ++ ys) → AllByRecursion P ys
split_all P [] ys h = h
split_all P (x ∷ xs) ys h = split_all P xs ys h.1

-- none of those before passes
behind : {A : Type 0} (test : A → Bool) (f : A → A) (xs ys : List A) → AllByRecursion (λ x. test x ≡ false) xs → at_first test f (xs ++ ys) ≡ xs ++ at_first test f ys
behind test f [] ys none = refl
behind test f (x ∷ xs) ys none = ap (λ b. cond b (f x ∷ (xs ++ ys)) (x ∷ at_first test f (xs ++ ys))) none.0 ∙ ap (λ zs. x ∷ zs) (behind test f xs ys none.1)

find_behind : {A : Type 0} (test : A → Bool) (xs ys : List A) → AllByRecursion (λ x. test x ≡ false) xs → find test (xs ++ ys) ≡ find test ys
find_behind test [] ys none = refl
find_behind test (x ∷ xs) ys none = ap (λ b. cond b (Some x) (find test (xs ++ ys))) none.0 ∙ find_behind test xs ys none.1

pub changed_set : (f : Connection → Connection) (n : ℕ) (cs : List Connection) (d : Connection) → n < length cs → changed_at f n cs ≡ set cs n (f (get_or cs n d))
changed_set f n [] d low = absurd (omega (arith, low))
changed_set f zero (c ∷ cs) d low = refl
changed_set f (suc n) (c ∷ cs) d low = ap (λ ds. c ∷ ds) (changed_set f n cs d (omega (arith, low)))

pub changed_none : (f : Connection → Connection) (n : ℕ) (cs : List Connection) → length cs ≤ n → changed_at f n cs ≡ cs
changed_none f n [] high = refl
changed_none f zero (c ∷ cs) high = absurd (omega (arith, high))
changed_none f (suc n) (c ∷ cs) high = ap (λ ds. c ∷ ds) (changed_none f n cs (omega (arith, high)))

-- ---- ids

not_of : (i n : ℕ) (hs : List History) → AllByRecursion (λ h. h.incarnation < i) hs → AllByRecursion (λ h. is_of i n h ≡ false) hs
not_of i n [] all = tt
not_of i n (h ∷ hs) all = (ap (λ b. b && (h.root == n)) (ne_eqb h.incarnation i (λ e. let low : h.incarnation < i = all.0 in omega (arith, e, low))), not_of i n hs all.1)

of_root : (i n : ℕ) (h : History) → h.incarnation ≡ i → is_of i n h ≡ is_root n (summary h)
of_root i n h e = ap (λ b. b && (h.root == n)) (eq-eqb h.incarnation i e)

-- ---- an operation

-- the summary after an operation is a function of the summary before it
abbrev pub StepsAgree : Type 0
StepsAgree = (h : History) (op : Op) → IsMade h → summary (after_operation h op) ≡ step (summary h) op

shown_at : StepsAgree → (i n : ℕ) (op : Op) (hs : List History) → AllByRecursion (λ h. h.incarnation ≡ i) hs → AllByRecursion IsMade hs
    → at_first (is_root n) (λ s. step s op) (map summary hs) ≡ map summary (at_first (is_of i n) (λ h. after_operation h op) hs)
shown_at agrees i n op [] now made = refl
shown_at agrees i n op (h ∷ hs) now made =
    ap (λ b. cond b (step (summary h) op ∷ map summary hs) (summary h ∷ at_first (is_root n) (λ s. step s op) (map summary hs))) (sym (of_root i n h now.0))
    ∙ by (shown_at agrees i n op hs now.1 made.1) (is_of i n h)
  where
    by : at_first (is_root n) (λ s. step s op) (map summary hs) ≡ map summary (at_first (is_of i n) (λ h. after_operation h op) hs) → (b : Bool)
        → cond b (step (summary h) op ∷ map summary hs) (summary h ∷ at_first (is_root n) (λ s. step s op) (map summary hs)) ≡ map summary (cond b (after_operation h op ∷ hs) (h ∷ at_first (is_of i n) (λ h. after_operation h op) hs))
    by rest true = ap (λ s. s ∷ map summary hs) (sym (agrees h op made.0))
    by rest false = ap (λ ss. summary h ∷ ss) rest

same_incarnation : (i n j : ℕ) (op : Op) (hs : List History) → AllByRecursion (λ h. h.incarnation ≡ j) hs → AllByRecursion (λ h. h.incarnation ≡ j) (at_first (is_of i n) (λ h. after_operation h op) hs)
same_incarnation i n j op [] all = tt
same_incarnation i n j op (h ∷ hs) all = by (same_incarnation i n j op hs all.1) (is_of i n h)
  where
    by : AllByRecursion (λ h. h.incarnation ≡ j) (at_first (is_of i n) (λ h. after_operation h op) hs) → (b : Bool) → AllByRecursion (λ h. h.incarnation ≡ j) (cond b (after_operation h op ∷ hs) (h ∷ at_first (is_of i n) (λ h. after_operation h op) hs))
    by rest true = (sym (extends_after h op).incarnation ∙ all.0, all.1)
    by rest false = (all.0, rest)

pub views_operated : StepsAgree → (views : List Summary) (w : World) (n : ℕ) (op : Op) → AllByRecursion IsMade w.histories → AreViews views w
    → AreViews (at_first (is_root n) (λ s. step s op) views) (record w { histories = at_first (is_of (registry w).incarnation n) (λ h. after_operation h op) w.histories })
views_operated agrees views w n op made v =
    let i : ℕ = (registry w).incarnation in
    let mine : AllByRecursion IsMade v.present = split_all IsMade v.past v.present (subst (λ hs. AllByRecursion IsMade hs) v.all made) in
    record {
      past = v.past;
      present = at_first (is_of i n) (λ h. after_operation h op) v.present;
      all = ap (λ hs. at_first (is_of i n) (λ h. after_operation h op) hs) v.all ∙ behind (is_of i n) (λ h. after_operation h op) v.past v.present (not_of i n v.past v.over);
      over = v.over;
      now = same_incarnation i n i op v.present v.now;
      shown = ap (λ ss. at_first (is_root n) (λ s. step s op) ss) v.shown ∙ shown_at agrees i n op v.present v.now mine;
    }

-- ---- a question

found_at : (i n : ℕ) (hs : List History) → AllByRecursion (λ h. h.incarnation ≡ i) hs → find (is_root n) (map summary hs) ≡ option_map summary (find (is_of i n) hs)
found_at i n [] now = refl
found_at i n (h ∷ hs) now =
    ap (λ b. cond b (Some (summary h)) (find (is_root n) (map summary hs))) (sym (of_root i n h now.0)) ∙ by (found_at i n hs now.1) (is_of i n h)
  where
    by : find (is_root n) (map summary hs) ≡ option_map summary (find (is_of i n) hs) → (b : Bool) → cond b (Some (summary h)) (find (is_root n) (map summary hs)) ≡ option_map summary (cond b (Some h) (find (is_of i n) hs))
    by rest true = refl
    by rest false = rest

view_live : (views : List Summary) (w : World) (path : Path) → AreViews views w → view_at (registry w) views path ≡ option_map summary (live w path)
view_live views w path v = by (root_at path (registry w))
  where
    i : ℕ
    i = (registry w).incarnation

    by : (o : Option Root) → option_map_or (λ root. find (is_root root.number) views) o None ≡ option_map summary (option_map_or (λ root. history_in w.histories (registry w).incarnation root.number) o None)
    by None = refl
    by (Some root) =
        ap (λ ss. find (is_root root.number) ss) v.shown ∙ found_at i root.number v.present v.now
        ∙ ap (option_map summary) (sym (ap (λ hs. find (is_of i root.number) hs) v.all ∙ find_behind (is_of i root.number) v.past v.present (not_of i root.number v.past v.over)))

found_made : (test : History → Bool) (hs : List History) → AllByRecursion IsMade hs → (h : History) → find test hs ≡ Some h → IsMade h
found_made test [] made h e = absurd (some_none h (sym e))
  where
    some_none : (h : History) → Some h ≡ None → ⊥
    some_none h e = true≢false (ap (λ o. option_map_or (λ _. true) o false) e)
found_made test (g ∷ gs) made h e = by (λ q. found_made test gs made.1 h q) (test g) e
  where
    by : (find test gs ≡ Some h → IsMade h) → (b : Bool) → cond b (Some g) (find test gs) ≡ Some h → IsMade h
    by rest true q = subst IsMade (ap (λ o. option_map_or (λ x. x) o h) q) made.0
    by rest false q = rest q

pub asking_same : AnswersBySummary → (views : List Summary) (w : World) (c : Connection) → AllByRecursion IsMade w.histories → AreViews views w → asking_by (registry w) views c ≡ asking w c
asking_same told views w c made v = ap (λ a. cond c.mirror.asked c (with_answer c a)) (ap (answer_by_view c) (view_live views w c.mirror.root v) ∙ by (live w c.mirror.root) refl)
  where
    is_made : (h : History) → live w c.mirror.root ≡ Some h → IsMade h
    is_made h e = at (root_at c.mirror.root (registry w)) e
      where
        at : (o : Option Root) → option_map_or (λ root. history_in w.histories (registry w).incarnation root.number) o None ≡ Some h → IsMade h
        at None q = absurd (true≢false (ap (λ o. option_map_or (λ _. true) o false) (sym q)))
        at (Some root) q = found_made (is_of (registry w).incarnation root.number) w.histories made h q

    by : (o : Option History) → live w c.mirror.root ≡ o → answer_by_view c (option_map summary o) ≡ answer_about c o
    by None e = refl
    by (Some h) e = ap (λ a. cond (is_ready h) (Some a) None) (told (wants c) h (next_question c.mirror) (is_made h e))
