-- Which text a line is.
use Rattle.std.proofs.Common.{◌≡◌, ℕ, List, Bool, true, false, cond, Option, Some, None, refl}
use Rattle.std.specs.Prelude.{◌&&◌}
use Rattle.std.specs.Str.{IsUtf8, is_utf8}
use Rattle.std.proofs.lemmas.Str.{IsUtf8-from_is_utf8, is_utf8-from_IsUtf8}
use Rattle.serde_json.specs.Data.{Data}
use Rattle.serde_json.specs.Read.{read}
use Rattle.wm_lines.specs.Lines.{is_whole_line, value_of_line}

chosen : (a b : Bool) (r : Option Data) → (a ≡ true → b ≡ true → r ≡ None) → cond (a && b) r None ≡ None
chosen true true r h = h refl refl
chosen true false r h = refl
chosen false b r h = refl

both : (a b : Bool) (r : Option Data) → a ≡ true → b ≡ true → cond (a && b) r None ≡ r
both a b r p q = rw (p, q) refl

pub text_of-read : (line : List ℕ) (d : Data) → is_whole_line line ≡ true → IsUtf8 line → read line ≡ Some d → value_of_line line ≡ Some d
unfolding value_of_line
text_of-read line d whole utf8 e = rw (both (is_whole_line line) (is_utf8 line) (read line) whole (is_utf8-from_IsUtf8 line utf8)) e

pub text_of-refused : (line : List ℕ) → (IsUtf8 line → read line ≡ None) → value_of_line line ≡ None
unfolding value_of_line
text_of-refused line h = chosen (is_whole_line line) (is_utf8 line) (read line) (λ p q. h (IsUtf8-from_is_utf8 line q))

pub text_of-cut : (line : List ℕ) → is_whole_line line ≡ false → value_of_line line ≡ None
unfolding value_of_line
text_of-cut line e = rw e refl
