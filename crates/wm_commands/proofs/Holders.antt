-- The root that holds a folder, with one root more to choose from.
use Rattle.std.proofs.Common.{◌≡◌, ◌≤◌, ◌<◌, ◌+◌, ℕ, Bool, true, false, List, [], ◌∷◌, ◌++◌, Option, None, Some, length, take, get_or, refl, sym, ap, subst, ◌∙◌, arith, true≢false}
use Rattle.std.specs.Prelude.{nat_le, if◌then◌else◌}
use Rattle.std.specs.List.{All}
use Rattle.std.proofs.lemmas.List.{take_more}
use Rattle.std.proofs.lemmas.List.Elements.{All-push, All-weaker, Contains-append_left, Contains-push}
use Rattle.wm_names.specs.Paths.{Path}
use Rattle.wm_commands.specs.Folders.{IsHolderOf, better_root, holds_folder, longer_root}

module _ (roots : List Path) (dir root : Path) where
  -- a root that holds the folder is no longer than this one
  abbrev NoLonger : Path → Path → Type 0
  NoLonger holder one = holds_folder one dir ≡ true → length one ≤ length holder

  abbrev Outside : Path → Type 0
  Outside one = holds_folder one dir ≡ false

  outside : (best : Option Path) → Outside root → IsHolderOf roots dir best → IsHolderOf (roots ++ root ∷ []) dir best
  outside None apart none = All-push Outside roots root none apart
  outside (Some best) apart held =
      let last : NoLonger best root = λ inside. let bad : true ≡ false = sym inside ∙ apart in absurd (true≢false bad) in
      (Contains-append_left roots (root ∷ []) best held.0, held.1, All-push (NoLonger best) roots root held.2 last)

  first : holds_folder root dir ≡ true → All Outside roots → IsHolderOf (roots ++ root ∷ []) dir (Some root)
  first inside none =
      let others : All (NoLonger root) roots = All-weaker Outside (NoLonger root) (λ one apart held. let bad : true ≡ false = sym held ∙ apart in absurd (true≢false bad)) roots none in
      (Contains-push roots root, inside, All-push (NoLonger root) roots root others (λ held. omega arith))

  second : (best : Path) → holds_folder root dir ≡ true → IsHolderOf roots dir (Some best) → (b : Bool) → nat_le (length root) (length best) ≡ b
      → IsHolderOf (roots ++ root ∷ []) dir (if b then Some best else Some root)
  second best inside held true short =
      let last : NoLonger best root = λ held'. grind (arith, short) in
      (Contains-append_left roots (root ∷ []) best held.0, held.1, All-push (NoLonger best) roots root held.2 last)
  second best inside held false long =
      let longer : length best ≤ length root = grind (arith, long) in
      let others : All (NoLonger root) roots = All-weaker (NoLonger best) (NoLonger root) (λ one short held'. let le : length one ≤ length best = short held' in omega arith) roots held.2 in
      (Contains-push roots root, inside, All-push (NoLonger root) roots root others (λ held'. omega arith))

  longer : (best : Option Path) → holds_folder root dir ≡ true → IsHolderOf roots dir best → IsHolderOf (roots ++ root ∷ []) dir (longer_root best root)
  longer None inside none = first inside none
  longer (Some best) inside held = second best inside held (nat_le (length root) (length best)) refl

  by_test : (best : Option Path) → IsHolderOf roots dir best → (b : Bool) → holds_folder root dir ≡ b
      → IsHolderOf (roots ++ root ∷ []) dir (if b then longer_root best root else best)
  by_test best held true inside = longer best inside held
  by_test best held false apart = outside best apart held

-- the better of the holder so far and one root more holds the folder among all of them
pub better_holds : (roots : List Path) (dir root : Path) (best : Option Path) → IsHolderOf roots dir best → IsHolderOf (roots ++ root ∷ []) dir (better_root dir best root)
better_holds roots dir root best held = by_test roots dir root best held (holds_folder root dir) refl

-- the same of a list's first roots
pub better_next : (roots : List Path) (i : ℕ) (dir root : Path) (best : Option Path) → i < length roots → root ≡ get_or roots i root → IsHolderOf (take i roots) dir best
    → IsHolderOf (take (i + 1) roots) dir (better_root dir best root)
better_next roots i dir root best lt is held =
    let next : take (i + 1) roots ≡ take i roots ++ root ∷ [] = take_more roots i root lt ∙ ap (λ one. take i roots ++ one ∷ []) (sym is) in
    subst (λ (some : List Path). IsHolderOf some dir (better_root dir best root)) (sym next) (better_holds (take i roots) dir root best held)
