-- What `strip_prefix` leaves of a text is what follows a start of it.
use Rattle.std.proofs.Common.{◌≡◌, ◌≢◌, ℕ, Bool, true, false, List, ◌++◌, Option, None, Some, MatchOption, Bor, length, take, drop, bytes_eq, refl, sym, ap, ◌∙◌}
use Rattle.std.specs.Prelude.{option_map}
use Rattle.std.specs.Str.Pattern.{FindsTextPrefix, StripsPrefix}
use Rattle.std.proofs.lemmas.List.{take-append-drop, take_at}
use Rattle.std.proofs.lemmas.Slice.Eq.{bytes_eq-Decides}
use Rattle.wm_commands.specs.Folders.{path_behind}

module _ (start path : List ℕ) where
  abbrev front : List ℕ
  front = take (length start) path

  yes : bytes_eq front start ≡ true → path_behind start path ≡ Some (drop (length start) path)
  yes e = rw (e) refl

  no : bytes_eq front start ≡ false → path_behind start path ≡ None
  no e = rw (e) refl

  there : (rest : List ℕ) → path ≡ start ++ rest → bytes_eq front start ≡ true
  there rest is = (bytes_eq-Decides front start).1 (ap (take (length start)) is ∙ take_at start rest (length start) refl)

  lacks : ((rest : List ℕ) → path ≢ start ++ rest) → (b : Bool) → bytes_eq front start ≡ b → ◌≡◌ {A = Option (List ℕ)} None (path_behind start path)
  lacks none true e = absurd (none (drop (length start) path) (sym (take-append-drop (length start) path) ∙ ap (λ s. s ++ drop (length start) path) ((bytes_eq-Decides front start).0 e)))
  lacks none false e = sym (no e)

pub behind_is : (start path : List ℕ) (r : Option (Bor (List ℕ))) → MatchOption r (FindsTextPrefix start path None) (λ x. StripsPrefix (FindsTextPrefix start) path x.now)
    → option_map (λ s. s.now) r ≡ path_behind start path
behind_is start path None none = lacks start path none (bytes_eq (take (length start) path) start) refl
behind_is start path (Some x) (n, found, is, long) =
    ap (λ (s : List ℕ). Some s) (is ∙ ap (λ k. drop k path) found.0) ∙ sym (yes start path (there start path (drop n path) found.1))
