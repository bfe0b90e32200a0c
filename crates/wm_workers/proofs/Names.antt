-- What a table of roots says of them, besides their views.
use Rattle.std.proofs.Common.{◌≡◌, ◌∙◌, ◌==◌, ◌||◌, ℕ, List, [], ◌∷◌, ◌++◌, Bool, false, ap, refl}
use Rattle.std.specs.List.{list_any}
use Rattle.std.specs.Str.{bytes_eq}
use Rattle.std.proofs.lemmas.Slice.Eq.{bytes_eq-Decides}
use Rattle.wm_names.specs.Paths.{Path}
use Rattle.wm_workers.specs.WatchedRoots.{IsFirst, MayHaveHad, MayHaveLacked, MayHaveLackedNumber, NamesRise, RiseFrom, RootName, RootNumbersRise, WatchedRoots, has_number, has_path, root_names, root_name}
use Rattle.wm_workers.specs.declared.roots.table.RootRow.{RootRow}

module _ {H : Type 0} where
  rise_names : (low next : ℕ) (roots : List (RootRow H)) → RiseFrom low roots next → NamesRise low (root_names roots)
  rise_names low next [] h = tt
  rise_names low next (root ∷ roots) h = (h.0, rise_names root.number next roots h.1)

  pub names_parted : (before : List (RootRow H)) (root : RootRow H) (after : List (RootRow H)) → root_names (before ++ root ∷ after) ≡ root_names before ++ root_name root ∷ root_names after
  names_parted [] root after = refl
  names_parted (first ∷ before) root after = ap (λ (l : List RootName). root_name first ∷ l) (names_parted before root after)

  any_name : (p : RootName → Bool) (roots : List (RootRow H)) → list_any p (root_names roots) ≡ list_any (λ root. p (root_name root)) roots
  any_name p [] = refl
  any_name p (root ∷ roots) = ap (λ (b : Bool). p (root_name root) || b) (any_name p roots)

  pub had_named : (w : WatchedRoots H) (before : List (RootRow H)) (root : RootRow H) (after : List (RootRow H)) (path : Path) (number : ℕ)
      → RootNumbersRise w → w.roots ≡ before ++ root ∷ after → root.path ≡ path → root.number ≡ number → MayHaveHad path number
  had_named w before root after path number rise parted p n =
      let make : Path → ℕ → RootName = λ x y. record { path = x; number = y } in
      let same : root_name root ≡ make path number = ap (λ (x : Path). make x root.number) p ∙ ap (make path) n in (
        root_names w.roots,
        rise_names 0 w.next w.roots rise,
        root_names before,
        root_names after,
        ap root_names parted ∙ (names_parted before root after ∙ ap (λ (x : RootName). root_names before ++ x ∷ root_names after) same),
      )

  pub had_at : (w : WatchedRoots H) (path : Path) (root : RootRow H) (number : ℕ) → RootNumbersRise w → IsFirst (has_path path) w.roots root → root.number ≡ number → MayHaveHad path number
  had_at w path root number rise first same = had_named w first.0 root first.1 path number rise first.2 ((bytes_eq-Decides root.path path).0 first.4) same

  pub lacked_at : (w : WatchedRoots H) (path : Path) → RootNumbersRise w → list_any (has_path path) w.roots ≡ false → MayHaveLacked path
  lacked_at w path rise none = (root_names w.roots, rise_names 0 w.next w.roots rise, any_name (λ name. bytes_eq name.path path) w.roots ∙ none)

  pub lacked_number : (w : WatchedRoots H) (number : ℕ) → RootNumbersRise w → list_any (has_number number) w.roots ≡ false → MayHaveLackedNumber number
  lacked_number w number rise none = (root_names w.roots, rise_names 0 w.next w.roots rise, any_name (λ name. name.number == number) w.roots ∙ none)
