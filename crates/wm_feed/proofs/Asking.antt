-- What a batch asks for after a record more.
use Rattle.std.proofs.Common.{◌≡◌, Bool, true, false, cond, List, [], ◌∷◌, length, refl, sym, ap, subst, ◌∙◌, true≢false}
use Rattle.std.specs.Prelude.{◌||◌, nat_lt}
use Rattle.std.specs.BTreeSet.{insert_key}
use Rattle.std.specs.Cmp.{tied_itself}
use Rattle.std.specs.Cmp.Lexicographic.{nat_list_cmp_total}
use Rattle.std.specs.Ordering.{is_eq, match_ordering}
use Rattle.std.specs.declared.cmp.Ordering.{Ordering}
use Rattle.std.specs.declared.cmp.Ordering.TheVariants.{Less, Equal, Greater}
use Rattle.std.proofs.lemmas.Map.Lookups.{exact_bytes}
use Rattle.wm_names.specs.Paths.{Path, is_rel_path, path_cmp, same_path}
use Rattle.wm_feed.specs.Records.{Happened, content_changed, file_changed, folder_changed, made, removed, left, came, nothing, entry, folder_alone, doubt}
use Rattle.wm_feed.specs.Batches.{Gathered, entry_path, max_paths, with_content, with_holder, changes_holder, with_folder, with_folder_text, with_asked_path, with_text, with_whole}
use Rattle.wm_feed.specs.Laws.{EntryAsksForBoth, NoneIsDropped, is_asked_path}

pub path_itself : (p : Path) → same_path p p ≡ true
path_itself p = ap is_eq (tied_itself nat_list_cmp_total p)

twice : (a b : Bool) → (a || b) ≡ (a || (a || b))
twice true b = refl
twice false b = refl

turned : (a b c : Bool) → (a || (b || c)) ≡ (b || (a || c))
turned true true c = refl
turned true false c = refl
turned false b c = refl

or_true : (a : Bool) → (a || true) ≡ true
or_true true = refl
or_true false = refl

among_insert : (p k : Path) (ks : List Path) → is_asked_path p (insert_key path_cmp ks k) ≡ (same_path p k || is_asked_path p ks)
among_insert p k [] = refl
among_insert p k (x ∷ ks) = step (path_cmp k x) refl (among_insert p k ks)
  where
    step : (o : Ordering) → path_cmp k x ≡ o → is_asked_path p (insert_key path_cmp ks k) ≡ (same_path p k || is_asked_path p ks)
        → is_asked_path p (match_ordering o (k ∷ x ∷ ks) (x ∷ ks) (x ∷ insert_key path_cmp ks k)) ≡ (same_path p k || (same_path p x || is_asked_path p ks))
    step Less e rest = refl
    step Equal e rest = twice (same_path p x) (is_asked_path p ks) ∙ ap (λ (q : Path). same_path p q || (same_path p x || is_asked_path p ks)) (sym (exact_bytes k x e))
    step Greater e rest = ap (λ (v : Bool). same_path p x || v) rest ∙ turned (same_path p x) (same_path p k) (is_asked_path p ks)

-- ---- a path more

module _ (p : Path) (a : Gathered) where
  abbrev more : Gathered
  more = record { paths = insert_key path_cmp a.paths p; folders = a.folders; is_whole = a.is_whole }

  abbrev more_folders : Gathered
  more_folders = record { paths = a.paths; folders = insert_key path_cmp a.folders p; is_whole = a.is_whole }

  path_has : (with_asked_path p a).is_whole ≡ false → is_asked_path p (with_asked_path p a).paths ≡ true
  path_has = by (nat_lt (length a.paths) max_paths)
    where
      by : (v : Bool) → (cond v more (with_whole a)).is_whole ≡ false → is_asked_path p (cond v more (with_whole a)).paths ≡ true
      by true w = among_insert p p a.paths ∙ rw (path_itself p) refl
      by false w = absurd (true≢false w)

  path_keeps : (q : Path) → is_asked_path q a.paths ≡ true → is_asked_path q (with_asked_path p a).paths ≡ true
  path_keeps q h = by (nat_lt (length a.paths) max_paths)
    where
      by : (v : Bool) → is_asked_path q (cond v more (with_whole a)).paths ≡ true
      by true = among_insert q p a.paths ∙ ap (λ (v : Bool). same_path q p || v) h ∙ or_true (same_path q p)
      by false = h

  path_whole : (with_asked_path p a).is_whole ≡ false → a.is_whole ≡ false
  path_whole = by (nat_lt (length a.paths) max_paths)
    where
      by : (v : Bool) → (cond v more (with_whole a)).is_whole ≡ false → a.is_whole ≡ false
      by true w = w
      by false w = absurd (true≢false w)

  folder_paths : (with_folder p a).paths ≡ a.paths
  folder_paths = by (nat_lt (length a.folders) max_paths)
    where
      by : (v : Bool) → (cond v more_folders (with_whole a)).paths ≡ a.paths
      by true = refl
      by false = refl

  folder_whole : (with_folder p a).is_whole ≡ false → a.is_whole ≡ false
  folder_whole = by (nat_lt (length a.folders) max_paths)
    where
      by : (v : Bool) → (cond v more_folders (with_whole a)).is_whole ≡ false → a.is_whole ≡ false
      by true w = w
      by false w = absurd (true≢false w)

-- ---- a text more

module _ (text : Path) (a : Gathered) where
  text_has : is_rel_path text ≡ true → (with_text text a).is_whole ≡ false → is_asked_path text (with_text text a).paths ≡ true
  text_has fits w =
      let same : with_text text a ≡ with_asked_path text a = ap (λ (v : Bool). cond v (with_asked_path text a) a) fits in
      subst (λ (s : Gathered). is_asked_path text s.paths ≡ true) (sym same) (path_has text a (ap (λ (s : Gathered). s.is_whole) (sym same) ∙ w))

  text_keeps : (q : Path) → is_asked_path q a.paths ≡ true → is_asked_path q (with_text text a).paths ≡ true
  text_keeps q h = elim (is_rel_path text) as (λ v. is_asked_path q (cond v (with_asked_path text a) a).paths ≡ true) [ true ↦ path_keeps text a q h | false ↦ h ]

  text_whole : (with_text text a).is_whole ≡ false → a.is_whole ≡ false
  text_whole = elim (is_rel_path text) as (λ v. (cond v (with_asked_path text a) a).is_whole ≡ false → a.is_whole ≡ false) [ true ↦ path_whole text a | false ↦ λ w. w ]

  folder_text_paths : (with_folder_text text a).paths ≡ a.paths
  folder_text_paths = elim (is_rel_path text) as (λ v. (cond v (with_folder text a) a).paths ≡ a.paths) [ true ↦ folder_paths text a | false ↦ refl ]

  folder_text_whole : (with_folder_text text a).is_whole ≡ false → a.is_whole ≡ false
  folder_text_whole = elim (is_rel_path text) as (λ v. (cond v (with_folder text a) a).is_whole ≡ false → a.is_whole ≡ false) [ true ↦ folder_whole text a | false ↦ λ w. w ]

  content_paths : (h : Happened) → (with_content h text a).paths ≡ a.paths
  content_paths content_changed = refl
  content_paths file_changed = refl
  content_paths folder_changed = folder_text_paths
  content_paths made = folder_text_paths
  content_paths removed = folder_text_paths
  content_paths (left c) = folder_text_paths
  content_paths (came c) = folder_text_paths

  content_whole : (h : Happened) → (with_content h text a).is_whole ≡ false → a.is_whole ≡ false
  content_whole content_changed = λ w. w
  content_whole file_changed = λ w. w
  content_whole folder_changed = folder_text_whole
  content_whole made = folder_text_whole
  content_whole removed = folder_text_whole
  content_whole (left c) = folder_text_whole
  content_whole (came c) = folder_text_whole

  holder_keeps : (h : Happened) → (q : Path) → is_asked_path q a.paths ≡ true → is_asked_path q (with_holder h text a).paths ≡ true
  holder_keeps content_changed q asked = asked
  holder_keeps file_changed q asked = text_keeps q asked
  holder_keeps folder_changed q asked = text_keeps q asked
  holder_keeps made q asked = text_keeps q asked
  holder_keeps removed q asked = text_keeps q asked
  holder_keeps (left c) q asked = text_keeps q asked
  holder_keeps (came c) q asked = text_keeps q asked

  holder_has : (h : Happened) → changes_holder h ≡ true → is_rel_path text ≡ true → (with_holder h text a).is_whole ≡ false
      → is_asked_path text (with_holder h text a).paths ≡ true
  holder_has content_changed never = elim (true≢false (sym never)) [ ]
  holder_has file_changed _ = text_has
  holder_has folder_changed _ = text_has
  holder_has made _ = text_has
  holder_has removed _ = text_has
  holder_has (left c) _ = text_has
  holder_has (came c) _ = text_has

-- ---- what is told

pub none_is_dropped : NoneIsDropped
none_is_dropped nothing a p h = h
none_is_dropped doubt a p h = h
none_is_dropped (folder_alone folder) a p h = text_keeps folder a p h
none_is_dropped (entry folder name b) a p h =
    ap (is_asked_path p) (content_paths (entry_path folder name) (with_text (entry_path folder name) (with_holder b folder a)) b)
    ∙ text_keeps (entry_path folder name) (with_holder b folder a) p (holder_keeps folder a b p h)

pub entry_asks_for_both : EntryAsksForBoth
entry_asks_for_both folder name b a w =
    let path : Path = entry_path folder name in
    let first : Gathered = with_holder b folder a in
    let second : Gathered = with_text path first in
    let held : (with_content b path second).paths ≡ second.paths = content_paths path second b in
    let second_part : second.is_whole ≡ false = content_whole path second b w in
    let first_part : first.is_whole ≡ false = text_whole path first second_part in (
      λ changes. λ fits. ap (is_asked_path folder) held ∙ text_keeps path first folder (holder_has folder a b changes fits first_part),
      λ fits. ap (is_asked_path path) held ∙ text_has path first fits second_part,
    )
