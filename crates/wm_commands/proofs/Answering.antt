-- Values that are texts.
use Rattle.std.proofs.Common.{◌≡◌, ℕ, List, Option, None, Some, ap, sym, true≢false}
use Rattle.std.specs.Prelude.{is_some}
use Rattle.serde_json.specs.Data.{Data, null, boolean, number, string, array, object}
use Rattle.serde_json.specs.Find.{as_str}

no_text : (s : List ℕ) → ◌≡◌ {A = Option (List ℕ)} None (Some s) → ⊥
no_text s e = true≢false (ap is_some (sym e))

same_text : (t s : List ℕ) → ◌≡◌ {A = Option (List ℕ)} (Some t) (Some s) → t ≡ s
same_text t s e = cc

-- what is read as a text is that text
pub string_is : (d : Data) (s : List ℕ) → as_str d ≡ Some s → d ≡ string s
string_is null s e = absurd (no_text s e)
string_is (boolean b) s e = absurd (no_text s e)
string_is (number n) s e = absurd (no_text s e)
string_is (string t) s e = ap string (same_text t s e)
string_is (array ds) s e = absurd (no_text s e)
string_is (object ms) s e = absurd (no_text s e)
