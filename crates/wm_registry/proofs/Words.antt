-- The words of a command that is within its limits.
use Rattle.std.proofs.Common.{◌≡◌, ℕ, ◌<◌, ◌≤◌, Bool, true, false, ◌&&◌, List, [], ◌∷◌, length, map, get_or, ◌==◌, nat_le, nat_lt, sym, ◌∙◌, arith}
use Rattle.std.proofs.lemmas.Bool.{leb-true, le-leb}
use Rattle.std.proofs.lemmas.Bool.Decides.{nat_tests}
use Rattle.std.proofs.lemmas.List.{length-map}
use Rattle.std.proofs.lemmas.List.Elements.{All-get_or}
use Rattle.std.proofs.lemmas.List.Folds.{list_all-map}
use Rattle.std.proofs.lemmas.List.Sums.{AllPass-from_list_all}
use Rattle.std.specs.List.{list_all}
use Rattle.wm_registry.specs.Limits.{max_word, max_words}
use Rattle.wm_registry.specs.Triggers.{is_command}

second_of : (a b : Bool) → (a && b) ≡ true → b ≡ true
second_of true b h = h
second_of false b h = absurd cc

-- each word of a command has at most so many bytes
pub word_fits : {X : Type 0} (now : X → List ℕ) (words : List X) (i : ℕ) (d : X) → is_command (map now words) ≡ true → i < length words → length (now (get_or words i d)) ≤ max_word
word_fits now words i d h lt =
    let short : list_all (λ word. nat_le (length word) max_word) (map now words) ≡ true = second_of _ _ (second_of _ _ h) in
    let each : list_all (λ word. nat_le (length (now word)) max_word) words ≡ true = sym (list_all-map (λ word. nat_le (length word) max_word) now words) ∙ short in
    let here = All-get_or (λ word. nat_le (length (now word)) max_word ≡ true) words i d lt (AllPass-from_list_all (λ word. nat_le (length (now word)) max_word) words each) in
    leb-true _ _ here

some_of : (n : ℕ) → (n == 0) ≡ false → nat_lt 0 n ≡ true
some_of n h = grind (arith, nat_tests)

-- words that are few, and of which the first isn't empty, are a command where none is too long
pub is_command_where : {X : Type 0} (now : X → List ℕ) (words : List X) (d : X) → 0 < length words → (length (now (get_or words 0 d)) == 0) ≡ false → length words ≤ max_words → list_all (λ w. nat_le (length (now w)) max_word) words ≡ is_command (map now words)
is_command_where now [] d some program few = absurd (omega arith)
is_command_where now (x ∷ xs) d some program few =
    let program_is : nat_lt 0 (length (now x)) ≡ true = some_of _ program in
    let count : nat_le (length (map now (x ∷ xs))) max_words ≡ true = le-leb _ _ (omega (arith, length-map xs now)) in
    rw (program_is, count) (sym (list_all-map (λ word. nat_le (length word) max_word) now (x ∷ xs)))
