-- What is asked of the paths of a batch, by their whole paths.
use Rattle.std.proofs.Common.{◌≡◌, ℕ, ◌+◌, ◌<◌, List, [], ◌∷◌, ◌++◌, map, take, drop, length, get_or, Option, Some, Result, Ok, Err, IfErr, OnOk, refl, sym, ap, ap₂, ◌∙◌, subst, arith, append_assoc, append-nil}
use Rattle.std.proofs.lemmas.List.{length-append, length-take-le, map-append, take-append-drop}
use Rattle.wm_names.specs.Paths.{Path}
use Rattle.wm_names.specs.declared.subtree.Subtree.{Subtree}
use Rattle.wm_names.specs.declared.subtree.Subtree.TheVariants.{Below}
use Rattle.wm_crawler.specs.FileSystems.{SomePathFails}
use Rattle.wm_crawler.specs.Trees.{Among, SomeFails}
use Rattle.wm_crawler.proofs.Elements.{among_get, among_left, among_right, among_map, mapped, Mapped}

-- the whole paths were asked for
pub asked_behind : {A : Type 0} (f : Path → A) (prefix : Path) (paths texts : List Path) → texts ≡ map (λ p. prefix ++ p) paths → map f texts ≡ map (λ p. f (prefix ++ p)) paths
asked_behind f prefix [] texts e = ap (map f) e
asked_behind {A} f prefix (p ∷ paths) texts e = ap (map f) e ∙ ap (λ (l : List A). f (prefix ++ p) ∷ l) (asked_behind f prefix paths (map (λ p. prefix ++ p) paths) refl)

fails_by : (may_fail : Path → Type 0) (prefix t : Path) (paths : List Path) → may_fail t → Mapped (λ p. prefix ++ p) t paths → SomePathFails (λ p. may_fail (prefix ++ p)) paths
fails_by may_fail prefix t paths m (p, a, e) = (p, a, subst may_fail e m)

pub fails_behind : (may_fail : Path → Type 0) (prefix : Path) (paths texts : List Path) → texts ≡ map (λ p. prefix ++ p) paths → SomePathFails may_fail texts → SomePathFails (λ p. may_fail (prefix ++ p)) paths
fails_behind may_fail prefix paths texts e (t, a, m) = fails_by may_fail prefix t paths m (mapped (λ p. prefix ++ p) t paths (subst (Among t) e a))

-- one more batch of the paths
pub batch_more : {A : Type 0} (h : Path → A) (paths rest now later : List Path) (old new : List A)
    → rest ≡ now ++ later → old ++ map h rest ≡ map h paths → new ≡ old ++ map h now → new ++ map h later ≡ map h paths
batch_more {A} h paths rest now later old new e was is =
    ap (λ (l : List A). l ++ map h later) is ∙ append_assoc old (map h now) (map h later)
    ∙ ap (λ (l : List A). old ++ l) (sym (map-append h now later) ∙ ap (map h) (sym e)) ∙ was

pub among_now : (p : Path) (rest now later : List Path) → rest ≡ now ++ later → Among p now → Among p rest
among_now p rest now later e a = subst (Among p) (sym e) (among_left p now later a)

pub among_later : (p : Path) (rest now later : List Path) → rest ≡ now ++ later → Among p later → Among p rest
among_later p rest now later e a = subst (Among p) (sym e) (among_right p now later a)

-- the whole path of a path below a root
pub behind_slash : (root p : Path) → (root ++ 47 ∷ []) ++ p ≡ root ++ 47 ∷ p
behind_slash [] p = refl
behind_slash (b ∷ root) p = ap (λ (l : Path). b ∷ l) (behind_slash root p)

pub all_behind_slash : {A : Type 0} (f : Path → A) (root prefix : Path) (paths : List Path) → prefix ≡ root ++ 47 ∷ []
    → map Some (map (λ p. f (prefix ++ p)) paths) ≡ map (λ p. Some (f (root ++ 47 ∷ p))) paths
all_behind_slash f root prefix [] e = refl
all_behind_slash {A} f root prefix (p ∷ paths) e =
    ap₂ (λ (x : Option A) (xs : List (Option A)). x ∷ xs) (ap (λ (t : Path). Some (f t)) (ap (λ (l : Path). l ++ p) e ∙ behind_slash root p)) (all_behind_slash f root prefix paths e)

fails_slash : (may_fail : Subtree → Type 0) (paths : List Path) (p : Path) → Among p paths → may_fail (Below p) → SomeFails may_fail (map Below paths)
fails_slash may_fail paths p a m = (Below p, among_map Below p paths a, m)

pub fails_below_root : (may_fail : Path → Type 0) (root prefix : Path) (at : Subtree → Path) (paths now : List Path)
    → prefix ≡ root ++ 47 ∷ [] → ((p : Path) → at (Below p) ≡ root ++ 47 ∷ p) → ((p : Path) → Among p now → Among p paths)
    → SomePathFails (λ p. may_fail (prefix ++ p)) now → SomeFails (λ place. may_fail (at place)) (map Below paths)
fails_below_root may_fail root prefix at paths now e whole more (p, a, m) =
    fails_slash (λ place. may_fail (at place)) paths p (more p a)
    (subst may_fail (ap (λ (l : Path). l ++ p) e ∙ behind_slash root p ∙ sym (whole p)) m)

-- ---- what holds of one outcome

pub on_ok : {X E A B : Type 0} (r : Result X E) → (A → B) → OnOk r A → OnOk r B
on_ok (Ok x) f a = f a
on_ok (Err e) f a = a

pub if_err : {X E : Type 0} (P Q : E → Type 0) (r : Result X E) → ((e : E) → P e → Q e) → IfErr r P → IfErr r Q
if_err P Q (Ok x) f a = a
if_err P Q (Err e) f a = f e a

pub fails_at_text : {X : Type 0} (text_of : X → Path) (may_fail : Path → Type 0) (i : ℕ) (xs : List X) (x : X) → i < length xs → x ≡ get_or xs i x → may_fail (text_of x) → SomePathFails may_fail (map text_of xs)
fails_at_text text_of may_fail i xs x l e m = (text_of x, among_map text_of x xs (among_get x xs i l e), m)

pub both_parts : (n : ℕ) (rest now later : List Path) → now ≡ take n rest → later ≡ drop n rest → rest ≡ now ++ later
both_parts n rest now later e f = sym (ap (λ (x : List Path). x ++ later) e ∙ ap (λ (y : List Path). take n rest ++ y) f ∙ take-append-drop n rest)

pub all_asked : {A : Type 0} (h : Path → A) (paths rest : List Path) (metas : List A) → length rest ≡ 0 → metas ++ map h rest ≡ map h paths → metas ≡ map h paths
all_asked h paths [] metas l e = sym (append-nil metas) ∙ e
all_asked h paths (p ∷ rest) metas l e = absurd (omega (arith, l))

-- the texts are as many after one batch, whatever stands behind those that it wrote
pub as_many : {A : Type 0} (n : ℕ) (now rest : List A) → length now ≡ n → length (take n (now ++ rest)) ≡ n
as_many n now rest e =
    let all : length (now ++ rest) ≡ length now + length rest = length-append now rest in
    length-take-le n (now ++ rest) (omega (arith, all, e))
