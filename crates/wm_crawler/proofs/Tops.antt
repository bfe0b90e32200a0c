-- Names that lead from the root down to the top of a part.
use Rattle.std.proofs.Common.{◌≡◌, ℕ, ◌+◌, ◌<◌, inl, inr, Bool, true, List, ◌∷◌, length, get_or, map, drop, Option, Some, refl, sym, ap, ◌∙◌, subst}
use Rattle.std.proofs.lemmas.List.{drop_more}
use Rattle.wm_names.specs.Paths.{Path}
use Rattle.wm_names.specs.declared.subtree.Subtree.{Subtree}
use Rattle.wm_names.specs.declared.subtree.Subtree.TheVariants.{Below}
use Rattle.wm_names.specs.Entries.{join}
use Rattle.wm_crawler.specs.Trees.{Content, Among, SomeFails}
use Rattle.wm_view.specs.Files.{Files}
use Rattle.wm_crawler.specs.Crawls.{IsCrawl, ListsBelow, folder_below, through_folder, has_top, leads_down, places_down}

-- the next of the names
module _ {X : Type 0} (f : X → Path) (ns : List X) (i : ℕ) (d : X) (lt : i < length ns) where
  abbrev name : Path
  name = f (get_or ns i d)

  abbrev rest : List Path
  rest = map f (drop (i + 1) ns)

  next_name : map f (drop i ns) ≡ name ∷ rest
  next_name = ap (map f) (drop_more ns i d lt)

  first_step : (c : Content) (folder : Subtree) → leads_down c folder (map f (drop i ns)) ≡ through_folder (folder_below c folder name) (leads_down c (Below (join folder name)) rest)
  first_step c folder = ap (leads_down c folder) next_name

  pub leads_on : (c : Content) (all : Option Bool) (folder next : Subtree) → folder_below c folder (f (get_or ns i d)) ≡ Some (Some next) → next ≡ Below (join folder (f (get_or ns i d)))
      → all ≡ leads_down c folder (map f (drop i ns)) → all ≡ leads_down c next (map f (drop (i + 1) ns))
  leads_on c all folder next found is h =
      h ∙ first_step c folder ∙ ap (λ o. through_folder o (leads_down c (Below (join folder name)) rest)) found ∙ ap (λ p. leads_down c p rest) (sym is)

  pub way_on : (way : List Subtree) (folder next : Subtree) → next ≡ Below (join folder (f (get_or ns i d)))
      → ((p : Subtree) → Among p (places_down folder (map f (drop i ns))) → Among p way) → (p : Subtree) → Among p (places_down next (map f (drop (i + 1) ns))) → Among p way
  way_on way folder next is on p a =
      on p (subst (λ l. Among p (places_down folder l)) (sym next_name) (inr (subst (λ q. Among p (places_down q rest)) is a)))

  pub way_fails : (may_fail : Subtree → Type 0) (way : List Subtree) (folder : Subtree)
      → ((p : Subtree) → Among p (places_down folder (map f (drop i ns))) → Among p way) → may_fail (Below (join folder (f (get_or ns i d)))) → SomeFails may_fail way
  way_fails may_fail way folder on m =
      let p : Subtree = Below (join folder name) in
      (p, on p (subst (λ l. Among p (places_down folder l)) (sym next_name) (inl refl)), m)

-- the listing of a part that has a top
pub lists_whole : (c : Content) (top : Subtree) (files : Files) (b : Bool) → has_top c top ≡ Some b → b ≡ true → ListsBelow c top files → IsCrawl c top files
lists_whole c top files b is there lists = record { below = λ _. lists; nothing = λ none. absurd (cc (is, there, none)) }
