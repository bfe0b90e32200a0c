-- Whether a text has a byte, by what `split_once` finds of it.
use Rattle.std.proofs.Common.{◌≡◌, ◌<◌, ◌==◌, ℕ, Bool, true, false, List, Option, None, Some, MatchOption, Bor, length, sym, arith}
use Rattle.std.specs.Prelude.{is_some}
use Rattle.std.specs.List.{after_first, before_first, position_or_len}
use Rattle.std.proofs.lemmas.List.Folds.{list_any_at, list_any_none}
use Rattle.std.proofs.lemmas.List.Sums.{fails_before_first, passes_at_first}
use Rattle.std.proofs.lemmas.Str.Pattern.{IsSplitOnceResult, split_once_first}
use Rattle.wm_commands.specs.Questions.{has_byte}

module _ (byte : ℕ) (text : List ℕ) where
  abbrev is_byte : ℕ → Bool
  is_byte b = b == byte

  lacks_byte : position_or_len is_byte text ≡ length text → has_byte byte text ≡ false
  lacks_byte none = list_any_none is_byte text (λ k d lt. fails_before_first is_byte text k d (omega arith))

  has_it : position_or_len is_byte text < length text → has_byte byte text ≡ true
  has_it lt = list_any_at is_byte text (position_or_len is_byte text) 0 lt (passes_at_first is_byte text 0 lt)

  found_by : (r : Option (Bor (List ℕ) × Bor (List ℕ)))
      → MatchOption r (position_or_len is_byte text ≡ length text) (λ x. (position_or_len is_byte text < length text) × (x.0.now ≡ before_first is_byte text) × (x.1.now ≡ after_first is_byte text))
      → is_some r ≡ has_byte byte text
  found_by None lacks = sym (lacks_byte lacks)
  found_by (Some x) round = sym (has_it round.0)

  pub is_found : (r : Option (Bor (List ℕ) × Bor (List ℕ))) → IsSplitOnceResult byte text r → byte < 128 → is_some r ≡ has_byte byte text
  is_found r split low = found_by r (split_once_first byte text r split low)
