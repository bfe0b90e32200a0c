-- The listed root that a path names, with one root more to look at.
use Rattle.std.proofs.Common.{◌≡◌, ◌<◌, ◌+◌, ℕ, false, List, [], ◌∷◌, ◌++◌, length, take, get_or, sym, ap, subst, ◌∙◌}
use Rattle.std.specs.List.{All}
use Rattle.std.proofs.lemmas.List.{take_more}
use Rattle.std.proofs.lemmas.List.Elements.{All-push}
use Rattle.wm_names.specs.Paths.{Path}
use Rattle.wm_commands.specs.Folders.{names_root}

module _ (roots : List Path) (i : ℕ) (root : Path) where
  -- the next root isn't named either
  pub none_next : (path : Path) → i < length roots → root ≡ get_or roots i root → names_root root path ≡ false
      → All (λ one. names_root one path ≡ false) (take i roots) → All (λ one. names_root one path ≡ false) (take (i + 1) roots)
  none_next path lt is other none =
      let next : take (i + 1) roots ≡ take i roots ++ root ∷ [] = take_more roots i root lt ∙ ap (λ one. take i roots ++ one ∷ []) (sym is) in
      subst (λ (some : List Path). All (λ one. names_root one path ≡ false) some) (sym next) (All-push (λ one. names_root one path ≡ false) (take i roots) root none other)
