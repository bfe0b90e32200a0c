-- The name of a path in a folder says that path, and no other does.
use Rattle.std.proofs.Common.{◌≡◌, ℕ, Bool, true, false, List, [], ◌∷◌, ◌++◌, None, Some, length, take, drop, bytes_eq, refl, sym, ap, ◌∙◌, true≢false}
use Rattle.std.specs.Prelude.{if◌then◌else◌}
use Rattle.std.proofs.lemmas.List.{append_assoc, take-append-drop, take_at}
use Rattle.std.proofs.lemmas.Slice.Eq.{bytes_eq-Decides}
use Rattle.wm_names.specs.Paths.{Path}
use Rattle.wm_commands.specs.Folders.{IsNameIn, name_in, path_in}

module _ (folder path : Path) where
  -- the folder and its slash
  abbrev start : List ℕ
  start = path_in folder []

  abbrev front : List ℕ
  front = take (length start) path

  opened : (rest : Path) → path_in folder rest ≡ start ++ rest
  opened rest = sym (append_assoc folder (47 ∷ []) rest)

  by_test : (b : Bool) → bytes_eq front start ≡ b → IsNameIn folder path (if b then Some (drop (length start) path) else None)
  by_test true same =
      opened (drop (length start) path)
      ∙ ap (λ s. s ++ drop (length start) path) (sym ((bytes_eq-Decides front start).0 same))
      ∙ take-append-drop (length start) path
  by_test false other = λ name is.
      let same : front ≡ start = ap (take (length start)) (sym is ∙ opened name) ∙ take_at start name (length start) refl in
      true≢false (sym ((bytes_eq-Decides front start).1 same) ∙ other)

pub name_is : (folder path : Path) → IsNameIn folder path (name_in folder path)
name_is folder path = by_test folder path (bytes_eq (take (length (path_in folder [])) path) (path_in folder [])) refl
