-- Paths that are observed in lists.
use Rattle.std.proofs.Common.{◌≡◌, ◌<◌, ◌≤◌, Bool, true, false, not, List, [], ◌∷◌, ◌++◌, length, map, refl, sym, ap, ◌∙◌}
use Rattle.std.specs.Prelude.{◌&&◌, ◌||◌, nat_le, nat_lt}
use Rattle.std.specs.List.{flat_map, list_all}
use Rattle.std.proofs.lemmas.Bool.{and_from, le-leb, lt-ltb, or_left, or_right}
use Rattle.std.proofs.lemmas.List.{append_assoc, flat_map_more, map_push}
use Rattle.std.proofs.lemmas.List.Folds.{list_all-append, list_any-append}
use Rattle.std.proofs.lemmas.Map.Views.{any-filter_same}
use Rattle.wm_names.specs.Paths.{Path, is_under, same_path}
use Rattle.wm_names.specs.declared.subtree.Subtree.TheVariants.{Below}
use Rattle.wm_feed.specs.Laws.{is_asked_path}
use Rattle.wm_feed.specs.Steps.{AskedStep, InLists, crawl, crawls, is_below_any, is_crawled, is_reached, is_short, observe, outside, reaches}
use Rattle.wm_feed.proofs.Below.{same→≡}

abbrev observes : List (List Path) → List AskedStep
observes lists = map (λ list. observe list) lists

abbrev flat : List (List Path) → List Path
flat lists = flat_map (λ list. list) lists

pub observe_more : (asked before : List AskedStep) (lists : List (List Path)) (list : List Path) → asked ≡ before ++ observes lists → asked ++ observe list ∷ [] ≡ before ++ observes (lists ++ list ∷ [])
observe_more asked before lists list e =
    ap (λ a. a ++ observe list ∷ []) e
    ∙ append_assoc before (observes lists) (observe list ∷ [])
    ∙ ap (λ l. before ++ l) (sym (map_push (λ l. observe l) lists list))

pub flat_more : (lists : List (List Path)) (list rest others paths : List Path) → flat lists ++ rest ≡ paths → rest ≡ list ++ others → flat (lists ++ list ∷ []) ++ others ≡ paths
flat_more lists list rest others paths e parts =
    ap (λ l. l ++ others) (sym (flat_map_more (λ l. l) [] lists list))
    ∙ append_assoc (flat lists) list others
    ∙ ap (λ l. flat lists ++ l) (sym parts)
    ∙ e

pub short_more : (lists : List (List Path)) (list : List Path) → list_all is_short lists ≡ true → 0 < length list → length list ≤ 4096 → list_all is_short (lists ++ list ∷ []) ≡ true
short_more lists list e low high =
    list_all-append is_short lists (list ∷ [])
    ∙ and_from (list_all is_short lists) (is_short list && true) e
    (and_from (is_short list) true (and_from (nat_lt 0 (length list)) (nat_le (length list) 4096) (lt-ltb 0 (length list) low) (le-leb (length list) 4096 high)) refl)

-- ---- what is reached

abbrev crawled : List Path → List AskedStep
crawled found = map (λ top. crawl (Below top)) found

crawls_reach : (p : Path) (found : List Path) → is_reached p (crawled found) ≡ is_below_any p found
crawls_reach p [] = refl
crawls_reach p (top ∷ found) = ap (λ b. is_under top p || b) (crawls_reach p found)

crawls_crawl : (p : Path) (found : List Path) → is_crawled p (crawled found) ≡ is_below_any p found
crawls_crawl p [] = refl
crawls_crawl p (top ∷ found) = ap (λ b. is_under top p || b) (crawls_crawl p found)

observes_reach : (p : Path) (lists : List (List Path)) → is_reached p (observes lists) ≡ is_asked_path p (flat lists)
observes_reach p [] = refl
observes_reach p (list ∷ lists) = ap (λ b. is_asked_path p list || b) (observes_reach p lists) ∙ sym (list_any-append (λ q. same_path p q) list (flat lists))

outside_has : (p : Path) (found paths : List Path) → is_below_any p found ≡ false → is_asked_path p paths ≡ true → is_asked_path p (outside found paths) ≡ true
outside_has p found paths out h = any-filter_same (λ q. same_path p q) (λ q. not (is_below_any q found)) true passes paths ∙ h
  where
    passes : (q : Path) → same_path p q ≡ true → not (is_below_any q found) ≡ true
    passes q same = ap (λ x. not (is_below_any x found)) (sym (same→≡ p q same)) ∙ ap not out

pub reached_parts : (found paths : List Path) (lists : List (List Path)) (asked : List AskedStep) → asked ≡ crawled found ++ observes lists → InLists (outside found paths) lists
    → (p : Path) → is_asked_path p paths ≡ true → is_reached p asked ≡ true
reached_parts found paths lists asked is within p h =
    ap (is_reached p) is ∙ list_any-append (λ step. reaches p step) (crawled found) (observes lists) ∙ by (is_below_any p found) refl
  where
    by : (b : Bool) → is_below_any p found ≡ b → (is_reached p (crawled found) || is_reached p (observes lists)) ≡ true
    by true e = or_left (is_reached p (crawled found)) (is_reached p (observes lists)) (crawls_reach p found ∙ e)
    by false e = or_right (is_reached p (crawled found)) (is_reached p (observes lists)) (observes_reach p lists ∙ ap (is_asked_path p) within.0 ∙ outside_has p found paths e h)

pub crawled_parts : (found : List Path) (lists : List (List Path)) (asked : List AskedStep) → asked ≡ crawled found ++ observes lists
    → (p : Path) → is_below_any p found ≡ true → is_crawled p asked ≡ true
crawled_parts found lists asked is p h =
    ap (is_crawled p) is
    ∙ list_any-append (λ step. crawls p step) (crawled found) (observes lists)
    ∙ or_left (is_crawled p (crawled found)) (is_crawled p (observes lists)) (crawls_crawl p found ∙ h)
