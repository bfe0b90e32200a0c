-- The names of a folder, added part by part.
use Rattle.std.proofs.Common.{◌≡◌, ℕ, List, [], ◌∷◌, ◌++◌, Bool, true, false, map, filter, refl, sym, ap, ◌∙◌}
use Rattle.std.proofs.lemmas.List.{map-append}
use Rattle.std.specs.Str.{IsUtf8, is_utf8}
use Rattle.std.proofs.lemmas.Str.{IsUtf8-from_is_utf8, is_utf8-from_IsUtf8}
use Rattle.wm_crawler.specs.Trees.{Held}
use Rattle.wm_crawler.specs.FolderNames.{has_bytes, ended_names, with_held_name, with_held_names}

pub with_held_names-append : (xs ys : List (List ℕ)) (held : Held) → with_held_names (xs ++ ys) held ≡ with_held_names ys (with_held_names xs held)
with_held_names-append [] ys held = refl
with_held_names-append (x ∷ xs) ys held = with_held_names-append xs ys (with_held_name x held)

-- an empty name adds nothing
pub with_held_names-filter : (names : List (List ℕ)) (held : Held) → with_held_names (filter has_bytes names) held ≡ with_held_names names held
with_held_names-filter [] held = refl
with_held_names-filter ([] ∷ names) held = with_held_names-filter names held
with_held_names-filter ((b ∷ bs) ∷ names) held = with_held_names-filter names (with_held_name (b ∷ bs) held)

-- a name that isn't text by the fact isn't by the test
pub no_text : (bytes : List ℕ) → (IsUtf8 bytes → ⊥) → is_utf8 bytes ≡ false
no_text bytes isnt = go (is_utf8 bytes) refl
  where
    go : (b : Bool) → is_utf8 bytes ≡ b → is_utf8 bytes ≡ false
    go true e = absurd (isnt (IsUtf8-from_is_utf8 bytes e))
    go false e = e

pub ruleset is_text = (no_text, is_utf8-from_IsUtf8)

-- one more name that an iteration took
pub name_more : {X : Type 0} (f : X → List ℕ) (ys : List X) (y : X) (first was is : Held) → was ≡ with_held_names (map f ys) first → is ≡ with_held_name (f y) was → is ≡ with_held_names (map f (ys ++ y ∷ [])) first
name_more f ys y first was is e g =
    g ∙ ap (λ (h : Held). with_held_name (f y) h) e ∙ sym (with_held_names-append (map f ys) (f y ∷ []) first)
    ∙ ap (λ (l : List (List ℕ)). with_held_names l first) (sym (map-append f ys (y ∷ [])))

-- what was read is added, and the rest is left
pub part_read : (bytes : List ℕ) (old new : List (List ℕ)) (was is : Held) → old ≡ ended_names bytes ++ new → is ≡ with_held_names (ended_names bytes) was → with_held_names new is ≡ with_held_names old was
part_read bytes old new was is e g =
    ap (λ (h : Held). with_held_names new h) g ∙ sym (with_held_names-append (ended_names bytes) new was) ∙ ap (λ (l : List (List ℕ)). with_held_names l was) (sym e)
