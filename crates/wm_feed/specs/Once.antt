-- Texts of which each is to stand once.
use Rattle.std.specs.Prelude.{Bool, not, List, [], ◌∷◌, ◌++◌, if◌then◌else◌}
use Rattle.std.specs.List.{filter, list_any}
use Rattle.std.specs.Str.{bytes_eq}
use Rattle.wm_feed.specs.Records.{Bytes}

-- a text is among these
abbrev pub is_in_texts : Bytes → List Bytes → Bool
is_in_texts text texts = list_any (λ one. bytes_eq one text) texts

-- those that aren't among the others
abbrev pub without_texts : List Bytes → List Bytes → List Bytes
without_texts others texts = filter (λ text. not (is_in_texts text others)) texts

-- one more, unless it is among them
abbrev pub with_text_once : Bytes → List Bytes → List Bytes
with_text_once text texts = if is_in_texts text texts then texts else texts ++ text ∷ []

-- each where it stands first
abbrev pub each_once : List Bytes → List Bytes
each_once [] = []
each_once (x ∷ xs) = x ∷ filter (λ y. not (bytes_eq y x)) (each_once xs)
