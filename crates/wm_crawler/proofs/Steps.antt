-- What the loops over one level add, and what halves of it give.
use Rattle.std.proofs.Common.{◌≡◌, ℕ, zero, suc, ◌+◌, ◌<◌, ◌⊎◌, inl, inr, Bool, true, ◌&&◌, cond, length, get_or, map, List, [], ◌∷◌, ◌++◌, take, drop, Option, Some, None, is_some, refl, sym, ap, ◌∙◌, subst, arith, append-nil, length-append, true≢false, false}
use Rattle.std.specs.List.{cons_option, count_by, filter_map, flat_map}
use Rattle.std.proofs.lemmas.List.{take_more, map-append}
use Rattle.std.proofs.lemmas.List.Elements.{filter_map-append}
use Rattle.std.proofs.lemmas.List.Folds.{list_all-append}
use Rattle.std.proofs.lemmas.List.Sums.{sum_by-append}
use Rattle.std.proofs.lemmas.Grind.{flat_map-append}
use Rattle.wm_names.specs.Paths.{Path}
use Rattle.wm_names.specs.declared.entry.Meta.{Meta}
use Rattle.wm_names.specs.declared.subtree.Subtree.{Subtree}
use Rattle.wm_names.specs.declared.subtree.Subtree.TheVariants.{Below}
use Rattle.wm_names.specs.Entries.{is_fit, join}
use Rattle.wm_crawler.specs.Trees.{Content, Among, unfit_in, AreMetas, SomeFails}
use Rattle.wm_crawler.specs.Levels.{path_of, paths_in, paired, paired_each, counted, unfit_of, all_held, all_told, AreRead, AreTold, AllFrom, AllAmong}
use Rattle.wm_crawler.proofs.Elements.{among_left, among_right, among_either, among_get, among_map, made}

-- one more element of a filtered list
pub filtered_more : {X Y : Type 0} (h : X → Option Y) (xs : List X) (i : ℕ) (x : X) → i < length xs → x ≡ get_or xs i x → filter_map h (take (i + 1) xs) ≡ filter_map h (take i xs) ++ cons_option (h x) []
filtered_more h xs i x l e =
    ap (filter_map h) (take_more xs i x l ∙ ap (λ y. take i xs ++ y ∷ []) (sym e))
    ∙ filter_map-append h (take i xs) (x ∷ [])

pub mapped_more : {X Y : Type 0} (f : X → Y) (xs : List X) (i : ℕ) (x : X) → i < length xs → x ≡ get_or xs i x → map f (take (i + 1) xs) ≡ map f (take i xs) ++ f x ∷ []
mapped_more f xs i x l e =
    ap (map f) (take_more xs i x l ∙ ap (λ y. take i xs ++ y ∷ []) (sym e))
    ∙ map-append f (take i xs) (x ∷ [])

pub count_more : {X : Type 0} (p : X → Bool) (xs : List X) (i : ℕ) (x : X) → i < length xs → x ≡ get_or xs i x → count_by p (take (i + 1) xs) ≡ count_by p (take i xs) + count_by p (x ∷ [])
count_more p xs i x l e =
    ap (count_by p) (take_more xs i x l ∙ ap (λ y. take i xs ++ y ∷ []) (sym e))
    ∙ sum_by-append (λ y. cond (p y) 1 0) (take i xs) (x ∷ [])

pub ruleset one_more = (filtered_more, count_more, mapped_more, filter_map-append)

-- ---- counts

pub counted_more : (a b : ℕ) → counted (counted a + b) ≡ counted (a + b)
counted_more a b = omega arith

pub counted_twice : (a : ℕ) → counted (counted a) ≡ counted a
counted_twice a = omega arith

pub counted_step : (a b d total old new : ℕ) → old ≡ counted (a + b) → new ≡ counted (old + d) → total ≡ b + d → new ≡ counted (a + total)
counted_step a b d total old new e g h = omega (arith, e, g, h)

pub counted_both : (a b : ℕ) → counted (counted a + counted b) ≡ counted (a + b)
counted_both a b = omega arith

pub counted_then : (a b : ℕ) → counted (a + counted b) ≡ counted (a + b)
counted_then a b = omega arith

-- ---- folders one after another

pub both_true : (a b : Bool) → a ≡ true → b ≡ true → (a && b) ≡ true
both_true true b e f = f
both_true false b e f = absurd (true≢false (sym e))

pub read_none : (c : Content) → AreRead c [] [] 0
read_none c = record { found = refl; left_out = refl; held = refl }

pub read_both : (c : Content) (fs gs : List Subtree) (ps qs : List Path) (u v : ℕ) → AreRead c fs ps u → AreRead c gs qs v → AreRead c (fs ++ gs) (ps ++ qs) (counted (u + v))
read_both c fs gs ps qs u v a b = record {
  found = ap (λ x. x ++ qs) a.found ∙ ap (λ x. flat_map (paths_in c) fs ++ x) b.found ∙ sym (flat_map-append (paths_in c) fs gs);
  left_out = ap (λ x. counted (x + v)) a.left_out ∙ ap (λ x. counted (counted (unfit_of c fs) + x)) b.left_out
      ∙ counted_both (unfit_of c fs) (unfit_of c gs) ∙ ap counted (sym (sum_by-append (λ f. unfit_in f (c.held f)) fs gs));
  held = list_all-append (λ f. is_some (c.held f)) fs gs ∙ both_true (all_held c fs) (all_held c gs) a.held b.held;
}

one_folder : (c : Content) (f : Subtree) → is_some (c.held f) ≡ true → AreRead c (f ∷ []) (paths_in c f) (counted (unfit_in f (c.held f)))
one_folder c f h =
    let one : unfit_of c (f ∷ []) ≡ unfit_in f (c.held f) = omega arith in
    record { found = sym (append-nil (paths_in c f)); left_out = ap counted (sym one); held = both_true (is_some (c.held f)) true h refl }

pub read_more : (c : Content) (fs : List Subtree) (i : ℕ) (f : Subtree) (ps qs : List Path) (u v : ℕ) → i < length fs → f ≡ get_or fs i f → AreRead c (take i fs) ps u
    → qs ≡ ps ++ paths_in c f → v ≡ counted (u + unfit_in f (c.held f)) → is_some (c.held f) ≡ true → AreRead c (take (i + 1) fs) qs v
read_more c fs i f ps qs u v l at a e g h =
    subst (λ x. AreRead c x qs v) (sym (take_more fs i f l ∙ ap (λ y. take i fs ++ y ∷ []) (sym at)))
    (subst (λ x. AreRead c (take i fs ++ f ∷ []) x v) (sym e)
    (subst (λ x. AreRead c (take i fs ++ f ∷ []) (ps ++ paths_in c f) x) (counted_then u (unfit_in f (c.held f)) ∙ sym g)
    (read_both c (take i fs) (f ∷ []) ps (paths_in c f) u (counted (unfit_in f (c.held f))) a (one_folder c f h))))

take_drop : {X : Type 0} (n : ℕ) (xs : List X) → take n xs ++ drop n xs ≡ xs
take_drop zero xs = refl
take_drop (suc n) [] = refl
take_drop (suc n) (x ∷ xs) = ap (λ m. x ∷ m) (take_drop n xs)

parts : {X : Type 0} (n : ℕ) (xs ls ms : List X) → ls ≡ take n xs → ms ≡ drop n xs → ls ++ ms ≡ xs
parts n xs ls ms l m = ap (λ y. y ++ ms) l ∙ ap (λ y. take n xs ++ y) m ∙ take_drop n xs

pub read_halves : (c : Content) (n : ℕ) (fs ls ms : List Subtree) (ps qs rs : List Path) (u v w : ℕ) → ls ≡ take n fs → ms ≡ drop n fs → AreRead c ls ps u → AreRead c ms qs v → rs ≡ ps ++ qs → w ≡ counted (u + v) → AreRead c fs rs w
read_halves c n fs ls ms ps qs rs u v w l m a b e g =
    subst (λ x. AreRead c x rs w) (parts n fs ls ms l m)
    (subst (λ x. AreRead c (ls ++ ms) x w) (sym e)
    (subst (λ x. AreRead c (ls ++ ms) (ps ++ qs) x) (sym g) (read_both c ls ms ps qs u v a b)))

-- ---- where the paths come from

pub fitting : (f : Subtree) (name p : Path) (b : Bool) → cond b (Some (join f name)) None ≡ Some p → p ≡ join f name
fitting f name p b e = grind arith

pub from_more : (fs : List Subtree) (f : Subtree) (ps qs : List Path) (names : List Path) → Among f fs → AllFrom fs ps → qs ≡ ps ++ filter_map (path_of f) names → AllFrom fs qs
from_more fs f ps qs names a from e p h = step (among_either p ps (filter_map (path_of f) names) (subst (λ x. Among p x) e h))
  where
    step : Among p ps ⊎ Among p (filter_map (path_of f) names) → (g : Subtree) × Among g fs × (name : Path) × (p ≡ join g name)
    step (inl b) = from p b
    step (inr b) = let m = made (path_of f) p names b in (f, a, m.0, fitting f m.0 p (is_fit f m.0) m.2)

pub from_halves : (n : ℕ) (fs ls ms : List Subtree) (ps qs rs : List Path) → ls ≡ take n fs → ms ≡ drop n fs → AllFrom ls ps → AllFrom ms qs → rs ≡ ps ++ qs → AllFrom fs rs
from_halves n fs ls ms ps qs rs l m a b e p h = step (among_either p ps qs (subst (λ x. Among p x) e h))
  where
    step : Among p ps ⊎ Among p qs → (g : Subtree) × Among g fs × (name : Path) × (p ≡ join g name)
    step (inl x) = let k = a p x in (k.0, subst (Among k.0) (parts n fs ls ms l m) (among_left k.0 ls ms k.1), k.2, k.3)
    step (inr x) = let k = b p x in (k.0, subst (Among k.0) (parts n fs ls ms l m) (among_right k.0 ls ms k.1), k.2, k.3)

-- ---- where a reading may fail

pub fails_at : (may_fail : Subtree → Type 0) (i : ℕ) (fs : List Subtree) (f : Subtree) → i < length fs → f ≡ get_or fs i f → may_fail f → SomeFails may_fail fs
fails_at may_fail i fs f l e m = (f, among_get f fs i l e, m)

pub fails_first : (may_fail : Subtree → Type 0) (n : ℕ) (fs ls ms : List Subtree) → ls ≡ take n fs → ms ≡ drop n fs → SomeFails may_fail ls → SomeFails may_fail fs
fails_first may_fail n fs ls ms l m (f, a, t) = (f, subst (Among f) (parts n fs ls ms l m) (among_left f ls ms a), t)

pub fails_last : (may_fail : Subtree → Type 0) (n : ℕ) (fs ls ms : List Subtree) → ls ≡ take n fs → ms ≡ drop n fs → SomeFails may_fail ms → SomeFails may_fail fs
fails_last may_fail n fs ls ms l m (f, a, t) = (f, subst (Among f) (parts n fs ls ms l m) (among_right f ls ms a), t)

-- ---- paths one after another

pub length_more : {X : Type 0} (i : ℕ) (xs ys : List X) (x : X) → length xs ≡ i → ys ≡ xs ++ x ∷ [] → length ys ≡ i + 1
length_more i xs ys x l e = omega (arith, ap length e, length-append xs (x ∷ []), l)

pub metas_more : (c : Content) (ps : List Path) (i : ℕ) (p : Path) (ms ns : List (Option Meta)) (m : Option Meta) → i < length ps → p ≡ get_or ps i p → AreMetas c (take i ps) ms
    → ns ≡ ms ++ m ∷ [] → c.meta p ≡ Some m → AreMetas c (take (i + 1) ps) ns
metas_more c ps i p ms ns m l at a e h =
    ap (map Some) e ∙ map-append Some ms (m ∷ []) ∙ ap (λ x. map Some ms ++ x ∷ []) (sym h) ∙ ap (λ x. x ++ c.meta p ∷ []) a
    ∙ sym (mapped_more c.meta ps i p l at)

pub metas_halves : (c : Content) (n : ℕ) (ps ls rs : List Path) (ms ns all : List (Option Meta)) → ls ≡ take n ps → rs ≡ drop n ps → AreMetas c ls ms → AreMetas c rs ns → all ≡ ms ++ ns → AreMetas c ps all
metas_halves c n ps ls rs ms ns all l r a b e =
    ap (map Some) e ∙ map-append Some ms ns ∙ ap (λ x. x ++ map Some ns) a ∙ ap (λ x. map c.meta ls ++ x) b
    ∙ sym (map-append c.meta ls rs) ∙ ap (map c.meta) (parts n ps ls rs l r)

first_or : {X : Type 0} → X → List X → X
first_or y [] = y
first_or y (x ∷ xs) = x

rest_of : {X : Type 0} → List X → List X
rest_of [] = []
rest_of (x ∷ xs) = xs

pub told_from : (c : Content) (ps : List Path) (ms : List (Option Meta)) → AreMetas c ps ms → AreTold c ps (paired_each ps ms)
unfolding first_or rest_of
told_from c [] ms e = record { found = refl; told = refl }
told_from c (p ∷ ps) [] e = absurd (omega (arith, ap length e))
told_from c (p ∷ ps) (m ∷ ms) e =
    let h : Some m ≡ c.meta p = ap (first_or None) e in
    let rest = told_from c ps ms (ap rest_of e) in
    record {
      found = ap (λ o. cons_option (paired p o) (paired_each ps ms)) h ∙ ap (λ es. cons_option (paired p (c.meta p)) es) rest.found;
      told = both_true (is_some (c.meta p)) (all_told c ps) (sym (ap is_some h)) rest.told;
    }

first_or_rest : (p : Path) (there : Option Meta) (es : List (Path × Meta)) (e : Path × Meta) → Among e (cons_option (paired p (Some there)) es) → (e.0 ≡ p) ⊎ Among e es
first_or_rest p None es e h = inr h
first_or_rest p (Some m) es e (inl s) = inl (ap (λ x. x.0) s)
first_or_rest p (Some m) es e (inr h) = inr h

among_rest : (p : Path) (ps : List Path) (es : List (Path × Meta)) (e : Path × Meta) → AllAmong ps es → (e.0 ≡ p) ⊎ Among e es → Among e.0 (p ∷ ps)
among_rest p ps es e all (inl s) = inl s
among_rest p ps es e all (inr x) = inr (all e x)

pub among_paired : (ps : List Path) (ms : List (Option Meta)) → AllAmong ps (paired_each ps ms)
among_paired [] ms e h = absurd h
among_paired (p ∷ ps) [] e h = absurd h
among_paired (p ∷ ps) (m ∷ ms) e h = among_rest p ps (paired_each ps ms) e (among_paired ps ms) (first_or_rest p m (paired_each ps ms) e h)

pub fails_at_one : (may_fail : Subtree → Type 0) (i : ℕ) (ps : List Path) (p : Path) → i < length ps → p ≡ get_or ps i p → may_fail (Below p) → SomeFails may_fail (map Below ps)
fails_at_one may_fail i ps p l e m = (Below p, among_map Below p ps (among_get p ps i l e), m)

both_below : (n : ℕ) (ps ls ms : List Path) → ls ≡ take n ps → ms ≡ drop n ps → map Below ls ++ map Below ms ≡ map Below ps
both_below n ps ls ms l m = sym (map-append Below ls ms) ∙ ap (map Below) (parts n ps ls ms l m)

pub fails_below_first : (may_fail : Subtree → Type 0) (n : ℕ) (ps ls ms : List Path) → ls ≡ take n ps → ms ≡ drop n ps → SomeFails may_fail (map Below ls) → SomeFails may_fail (map Below ps)
fails_below_first may_fail n ps ls ms l m (f, a, t) = (f, subst (Among f) (both_below n ps ls ms l m) (among_left f (map Below ls) (map Below ms) a), t)

pub fails_below_last : (may_fail : Subtree → Type 0) (n : ℕ) (ps ls ms : List Path) → ls ≡ take n ps → ms ≡ drop n ps → SomeFails may_fail (map Below ms) → SomeFails may_fail (map Below ps)
fails_below_last may_fail n ps ls ms l m (f, a, t) = (f, subst (Among f) (both_below n ps ls ms l m) (among_right f (map Below ls) (map Below ms) a), t)
