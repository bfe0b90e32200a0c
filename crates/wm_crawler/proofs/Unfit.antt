-- What is counted level by level is what is counted folder by folder.
use Rattle.std.proofs.Common.{◌≡◌, ℕ, zero, suc, ◌+◌, Bool, true, false, cond, ◌&&◌, List, [], ◌∷◌, ◌++◌, Option, Some, None, refl, sym, ap, ◌∙◌, arith}
use Rattle.std.specs.List.{cons_option, filter_map, flat_map, sum_by}
use Rattle.std.proofs.lemmas.List.Elements.{filter_map-append}
use Rattle.std.proofs.lemmas.List.Sums.{sum_by-append, sum_by-cons}
use Rattle.wm_names.specs.Paths.{Path}
use Rattle.wm_names.specs.declared.entry.Meta.{Meta}
use Rattle.wm_names.specs.declared.subtree.Subtree.{Subtree}
use Rattle.wm_names.specs.declared.subtree.Subtree.TheVariants.{Below}
use Rattle.wm_names.specs.Entries.{is_fit, join}
use Rattle.wm_crawler.specs.Trees.{Content, names_held, unfit_in, is_folder}
use Rattle.wm_crawler.specs.Crawls.{folder_named, is_folder_told, folders_in, unfit_below, faults_below}
use Rattle.wm_crawler.specs.Levels.{path_of, paired, with_meta, paths_in, folder_at, folders, unfit_of, unfit_levels, counted}
use Rattle.wm_crawler.proofs.Steps.{counted_more}

module _ (c : Content) where
  entry_of : Path → Option (Path × Meta)
  entry_of p = paired p (c.meta p)

  of_meta : (p : Path) (o : Option (Option Meta)) (fs : List Subtree) (es : List (Path × Meta)) → fs ≡ filter_map folder_at es
      → cons_option (cond (is_folder_told o) (Some (Below p)) None) fs ≡ filter_map folder_at (cons_option (paired p o) es)
  of_meta p None fs es e = e
  of_meta p (Some None) fs es e = e
  of_meta p (Some (Some m)) fs es e = ap (cons_option (cond (is_folder m) (Some (Below p)) None)) e

  of_name : (f : Subtree) (name : Path) (b : Bool) (fs : List Subtree) (ps : List Path) → fs ≡ folders (with_meta c ps)
      → cons_option (cond (b && is_folder_told (c.meta (join f name))) (Some (Below (join f name))) None) fs
      ≡ folders (with_meta c (cons_option (cond b (Some (join f name)) None) ps))
  of_name f name true fs ps e = of_meta (join f name) (c.meta (join f name)) fs (with_meta c ps) e
  of_name f name false fs ps e = e

  of_names : (f : Subtree) (names : List Path) → filter_map (folder_named c f) names ≡ folders (with_meta c (filter_map (path_of f) names))
  of_names f [] = refl
  of_names f (name ∷ names) = of_name f name (is_fit f name) (filter_map (folder_named c f) names) (filter_map (path_of f) names) (of_names f names)

  of_folders : (fs : List Subtree) → flat_map (folders_in c) fs ≡ folders (with_meta c (flat_map (paths_in c) fs))
  of_folders [] = refl
  of_folders (f ∷ fs) =
      ap (λ x. x ++ flat_map (folders_in c) fs) (of_names f (names_held (c.held f)))
      ∙ ap (λ x. folders (with_meta c (paths_in c f)) ++ x) (of_folders fs)
      ∙ sym (filter_map-append folder_at (with_meta c (paths_in c f)) (with_meta c (flat_map (paths_in c) fs)))
      ∙ ap folders (sym (filter_map-append (λ p. paired p (c.meta p)) (paths_in c f) (flat_map (paths_in c) fs)))

  abbrev pub below_all : ℕ → List Subtree → ℕ
  below_all n fs = sum_by (unfit_below c n) fs

  deeper : (n : ℕ) (fs : List Subtree) → below_all (suc n) fs ≡ unfit_of c fs + below_all n (flat_map (folders_in c) fs)
  deeper n [] = refl
  deeper n (f ∷ fs) =
      let a : below_all (suc n) (f ∷ fs) ≡ unfit_below c (suc n) f + below_all (suc n) fs = sum_by-cons (unfit_below c (suc n)) f fs in
      let b : unfit_of c (f ∷ fs) ≡ unfit_in f (c.held f) + unfit_of c fs = sum_by-cons (λ g. unfit_in g (c.held g)) f fs in
      let d : below_all n (folders_in c f ++ flat_map (folders_in c) fs) ≡ below_all n (folders_in c f) + below_all n (flat_map (folders_in c) fs) = sum_by-append (unfit_below c n) (folders_in c f) (flat_map (folders_in c) fs) in
      let ih : below_all (suc n) fs ≡ unfit_of c fs + below_all n (flat_map (folders_in c) fs) = deeper n fs in
      a ∙ ap (λ x. (unfit_in f (c.held f) + below_all n (folders_in c f)) + x) ih
      ∙ turned (unfit_in f (c.held f)) (below_all n (folders_in c f)) (unfit_of c fs) (below_all n (flat_map (folders_in c) fs))
      ∙ ap (λ x. x + (below_all n (folders_in c f) + below_all n (flat_map (folders_in c) fs))) (sym b)
      ∙ ap (λ x. unfit_of c (f ∷ fs) + x) (sym d)
    where
      turned : (u v x y : ℕ) → (u + v) + (x + y) ≡ (u + x) + (v + y)
      turned u v x y = omega arith

  pub by_levels : (n : ℕ) (fs : List Subtree) → below_all n fs ≡ unfit_of c fs + unfit_levels c n (flat_map (paths_in c) fs)
  by_levels zero fs = let e : below_all zero fs ≡ unfit_of c fs = refl in omega (arith, e)
  by_levels (suc n) fs =
      deeper n fs
      ∙ ap (λ x. unfit_of c fs + below_all n x) (of_folders fs)
      ∙ ap (λ x. unfit_of c fs + x) (by_levels n (folders (with_meta c (flat_map (paths_in c) fs))))

  one : (n : ℕ) (top : Subtree) → below_all n (top ∷ []) ≡ unfit_below c n top
  one n top = omega arith

  -- what was left out of the top, and of all levels below it
  pub all_unfit : (top : Subtree) (above found : ℕ) (paths : List Path) → above ≡ counted (unfit_of c (top ∷ [])) → paths ≡ flat_map (paths_in c) (top ∷ []) → found ≡ counted (above + unfit_levels c 1024 paths) → found ≡ faults_below c top
  all_unfit top above found paths a p e =
      e ∙ ap (λ x. counted (x + unfit_levels c 1024 paths)) a
      ∙ counted_more (unfit_of c (top ∷ [])) (unfit_levels c 1024 paths)
      ∙ ap (λ x. counted (unfit_of c (top ∷ []) + unfit_levels c 1024 x)) p
      ∙ ap counted (sym (by_levels 1024 (top ∷ [])) ∙ one 1024 top)
