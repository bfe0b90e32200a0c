-- One level read after another.
use Rattle.std.proofs.Common.{◌≡◌, ℕ, zero, suc, ◌+◌, ◌-◌, ◌<◌, inr, Bool, true, cond, ◌&&◌, List, [], ◌∷◌, ◌++◌, map, Some, None, refl, sym, ap, ◌∙◌, subst, arith, append_assoc, append-nil}
use Rattle.std.specs.List.{filter_map, flat_map}
use Rattle.wm_names.specs.Paths.{Path}
use Rattle.wm_names.specs.declared.entry.Meta.{Meta}
use Rattle.wm_names.specs.declared.subtree.Subtree.{Subtree}
use Rattle.wm_names.specs.declared.subtree.Subtree.TheVariants.{Whole, Below}
use Rattle.wm_names.specs.Entries.{is_fit, join}
use Rattle.wm_crawler.specs.Trees.{Content, Among, is_folder, SomeFails}
use Rattle.wm_crawler.specs.Crawls.{FailsBelow}
use Rattle.wm_crawler.specs.Levels.{path_of, with_meta, paths_in, folder_at, folders, next_level, levels, counted, unfit_of, unfit_levels, all_told, all_held, readable_levels, AreRead, AreTold, AreLevels, IsOneLevel, AllIn, AllFrom, AllAmong}
use Rattle.wm_crawler.proofs.Elements.{made, mapped}
use Rattle.wm_crawler.proofs.Steps.{both_true, counted_then, counted_twice, fitting}

-- ---- where paths stand

joined_twice : (top : Subtree) (rest name : Path) → join (Below (join top rest)) name ≡ join top (rest ++ 47 ∷ name)
joined_twice Whole rest name = refl
joined_twice (Below f) rest name = append_assoc f (47 ∷ rest) (47 ∷ name)

folder_place : (e : Path × Meta) (b : Bool) (f : Subtree) → cond b (Some (Below e.0)) None ≡ Some f → f ≡ Below e.0
folder_place e b f h = grind arith

-- a folder among what was found stands below the top
folder_in : (top : Subtree) (paths : List Path) (found : List (Path × Meta)) (f : Subtree) → AllIn top paths → AllAmong paths found → Among f (folders found) → (rest : Path) × (f ≡ Below (join top rest))
folder_in top paths found f inside among a =
    let (e, there, is) = made folder_at f found a in
    let (rest, s) = inside e.0 (among e there) in
    (rest, folder_place e (is_folder e.1) f is ∙ ap Below s)

pub next_in : (top : Subtree) (paths asked : List Path) (found : List (Path × Meta)) (fs : List Subtree) (next : List Path) → asked ≡ paths → fs ≡ folders found → AllIn top paths → AllAmong asked found → AllFrom fs next → AllIn top next
next_in top paths asked found fs next e g inside among from p a =
    let (f, there, name, s) = from p a in
    let (rest, t) = folder_in top paths found f inside (subst (λ x. AllAmong x found) e among) (subst (Among f) g there) in
    (rest ++ 47 ∷ name, s ∙ ap (λ h. join h name) t ∙ joined_twice top rest name)

pub top_in : (top : Subtree) (old new names : List Path) → old ≡ [] → new ≡ old ++ filter_map (path_of top) names → AllIn top new
top_in top old new names e s p a =
    let m = made (path_of top) p names (subst (Among p) (s ∙ ap (λ x. x ++ filter_map (path_of top) names) e) a) in
    (m.0, fitting top m.0 p (is_fit top m.0) m.2)

pub fails_at_path : (may_fail : Subtree → Type 0) (top : Subtree) (paths asked : List Path) → asked ≡ paths → AllIn top paths → SomeFails may_fail (map Below asked) → FailsBelow may_fail top
fails_at_path may_fail top paths asked e inside (place, a, m) =
    let (p, there, s) = mapped Below place asked a in
    let (rest, t) = inside p (subst (Among p) e there) in
    (place, inr (rest, s ∙ ap Below t), m)

pub fails_at_folder : (may_fail : Subtree → Type 0) (top : Subtree) (paths asked : List Path) (found : List (Path × Meta)) (fs : List Subtree) → asked ≡ paths → fs ≡ folders found → AllIn top paths → AllAmong asked found → SomeFails may_fail fs → FailsBelow may_fail top
fails_at_folder may_fail top paths asked found fs e g inside among (place, a, m) =
    let (rest, s) = folder_in top paths found place inside (subst (λ x. AllAmong x found) e among) (subst (Among place) g a) in
    (place, inr (rest, s), m)

-- ---- levels

one_level_of : (c : Content) (paths : List Path) (above : ℕ) (found : List (Path × Meta)) (next : List Path) (unfit all : ℕ) → AreTold c paths found → AreRead c (folders found) next unfit → all ≡ counted (above + unfit) → IsOneLevel c paths above found next all
one_level_of c paths above found next unfit all t r e = record {
  found = t.found;
  next_paths = r.found ∙ ap (λ x. flat_map (paths_in c) (folders x)) t.found;
  left_out = e ∙ ap (λ x. counted (above + x)) r.left_out ∙ counted_then above (unfit_of c (folders found)) ∙ ap (λ x. counted (above + unfit_of c (folders x))) t.found;
  told = t.told;
  held = ap (λ x. all_held c (folders x)) (sym t.found) ∙ r.held;
}

pub one_level : (c : Content) (paths asked : List Path) (above : ℕ) (found : List (Path × Meta)) (fs : List Subtree) (next : List Path) (unfit all : ℕ) → asked ≡ paths → fs ≡ folders found → AreTold c asked found → AreRead c fs next unfit → all ≡ counted (above + unfit) → IsOneLevel c paths above found next all
one_level c paths asked above found fs next unfit all e g t r h =
    one_level_of c paths above found next unfit all (subst (λ x. AreTold c x found) e t) (subst (λ x. AreRead c x next unfit) g r) h

-- what is read so far, with so many levels from these paths on, is all of the levels from the first on
pub record LeadTo (c : Content) (n : ℕ) (files : List (Path × Meta)) (paths : List Path) (unfit : ℕ) (first : List Path) (above : ℕ) : Type 0 where
  pub found : files ++ levels c n paths ≡ levels c 1024 first
  pub left_out : counted (unfit + unfit_levels c n paths) ≡ counted (above + unfit_levels c 1024 first)
  pub small : counted above ≡ above → counted unfit ≡ unfit
  pub read : readable_levels c n paths ≡ true → readable_levels c 1024 first ≡ true

pub lead_first : (c : Content) (files : List (Path × Meta)) (first : List Path) (above : ℕ) → files ≡ [] → LeadTo c 1024 files first above first above
lead_first c files first above e = record { found = ap (λ x. x ++ levels c 1024 first) e; left_out = refl; small = λ h. h; read = λ h. h }

pub lead_more : (c : Content) (n : ℕ) (files found : List (Path × Meta)) (paths next : List Path) (unfit all : ℕ) (first : List Path) (above : ℕ)
    → LeadTo c (suc n) files paths unfit first above → IsOneLevel c paths unfit found next all → LeadTo c n (files ++ found) next all first above
lead_more c n files found paths next unfit all first above l o = record {
  found = append_assoc files found (levels c n next)
      ∙ ap (λ x. files ++ (x ++ levels c n next)) o.found
      ∙ ap (λ x. files ++ (with_meta c paths ++ levels c n x)) o.next_paths
      ∙ l.found;
  left_out = ap (λ x. counted (x + unfit_levels c n next)) o.left_out
      ∙ counted_sum unfit (unfit_of c (folders (with_meta c paths))) (unfit_levels c n next)
      ∙ ap (λ x. counted (unfit + (unfit_of c (folders (with_meta c paths)) + unfit_levels c n x))) o.next_paths
      ∙ l.left_out;
  small = λ _. ap counted o.left_out ∙ counted_twice (unfit + unfit_of c (folders (with_meta c paths))) ∙ sym o.left_out;
  read = λ e. l.read (both_true (all_told c paths) (all_held c (folders (with_meta c paths)) && readable_levels c n (next_level c paths)) o.told (both_true (all_held c (folders (with_meta c paths))) (readable_levels c n (next_level c paths)) o.held (ap (readable_levels c n) (sym o.next_paths) ∙ e)));
}
  where
    counted_sum : (a b d : ℕ) → counted (counted (a + b) + d) ≡ counted (a + (b + d))
    counted_sum a b d = omega arith

pub lead_step : (c : Content) (k : ℕ) (files found all : List (Path × Meta)) (paths next : List Path) (unfit total : ℕ) (first : List Path) (above : ℕ) → k < 1024 → all ≡ files ++ found
    → LeadTo c (1024 - k) files paths unfit first above → IsOneLevel c paths unfit found next total → LeadTo c (1024 - (k + 1)) all next total first above
lead_step c k files found all paths next unfit total first above l e to o =
    let n : 1024 - k ≡ suc (1024 - (k + 1)) = omega arith in
    subst (λ x. LeadTo c (1024 - (k + 1)) x next total first above) (sym e)
    (lead_more c (1024 - (k + 1)) files found paths next unfit total first above (subst (λ x. LeadTo c x files paths unfit first above) n to) o)

no_levels : (c : Content) (n : ℕ) → levels c n [] ≡ []
no_levels c zero = refl
no_levels c (suc n) = no_levels c n

none_unfit : (c : Content) (n : ℕ) → unfit_levels c n [] ≡ 0
none_unfit c zero = refl
none_unfit c (suc n) = let e : unfit_levels c n [] ≡ 0 = none_unfit c n in omega (arith, e)

none_unread : (c : Content) (n : ℕ) → readable_levels c n [] ≡ true
none_unread c zero = refl
none_unread c (suc n) = none_unread c n

counted_none : (n : ℕ) → counted n ≡ counted (n + 0)
counted_none n = omega arith

pub all_levels : (c : Content) (n : ℕ) (files : List (Path × Meta)) (paths : List Path) (unfit : ℕ) (first : List Path) (above : ℕ) → paths ≡ [] → LeadTo c n files paths unfit first above → AreLevels c 1024 first above files unfit
all_levels c n files paths unfit first above e leads = of_none (subst (λ x. LeadTo c n files x unfit first above) e leads)
  where
    of_none : LeadTo c n files [] unfit first above → AreLevels c 1024 first above files unfit
    of_none l = record {
      found = sym (append-nil files) ∙ ap (λ x. files ++ x) (sym (no_levels c n)) ∙ l.found;
      left_out = λ s. sym (l.small s) ∙ counted_none unfit ∙ ap (λ x. counted (unfit + x)) (sym (none_unfit c n)) ∙ l.left_out;
      read = l.read (none_unread c n);
    }

pub last_level : (c : Content) (n : ℕ) (files : List (Path × Meta)) (paths : List Path) (unfit : ℕ) (first : List Path) (above : ℕ) → n ≡ 0 → LeadTo c n files paths unfit first above → AreLevels c 1024 first above files unfit
last_level c n files paths unfit first above e leads = of_zero (subst (λ x. LeadTo c x files paths unfit first above) e leads)
  where
    of_zero : LeadTo c 0 files paths unfit first above → AreLevels c 1024 first above files unfit
    of_zero l = record {
      found = sym (append-nil files) ∙ l.found;
      left_out = λ s. sym (l.small s) ∙ counted_none unfit ∙ l.left_out;
      read = l.read refl;
    }
