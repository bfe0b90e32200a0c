-- What `rsplit_once` gives at a slash.
use Rattle.std.proofs.Common.{◌≡◌, ◌≢◌, ℕ, ◌-◌, ◌<◌, ◌≤◌, not, List, length, drop, get_or, ◌==◌, None, sym, ap, ◌∙◌, arith, ne_eqb, eq-eqb, get_or-drop, length-drop}
use Rattle.std.specs.List.{suffix_len}
use Rattle.std.specs.Str.Pattern.{RFindsChar, SplitsAroundMatch}
use Rattle.std.proofs.lemmas.List.Sums.{suffix_len_is}
use Rattle.std.proofs.lemmas.Str.Pattern.{NoCharPasses-char}
use Rattle.wm_names.specs.Paths.{basename}

-- what follows the place n, where the byte before it is the last slash
last_at : (text : List ℕ) (n : ℕ) → n ≤ length text → ((k : ℕ) → n ≤ k → k < length text → get_or text k 0 ≢ 47) → (0 < n → get_or text (n - 1) 0 ≡ 47) → basename text ≡ drop n text
last_at text n le none slash =
    let count : suffix_len (λ b. not (b == 47)) text ≡ length text - n =
    suffix_len_is (λ b. not (b == 47)) text n 0 le (λ k low high. ap not (ne_eqb (get_or text k 0) 47 (none k low high))) (λ pos. ap not (eq-eqb (get_or text (n - 1) 0) 47 (slash pos))) in
    ap (λ (k : ℕ). drop k text) (omega arith)

pub whole : (text : List ℕ) → RFindsChar 47 text None → basename text ≡ text
whole text none = last_at text 0 (omega arith) (λ k low high. NoCharPasses-char 47 text k none (omega arith) high) (λ pos. absurd (omega arith))

pub after : (text front name : List ℕ) → SplitsAroundMatch (RFindsChar 47) text front name → basename text ≡ name
after text front name (i, j, (none, at), front_is, name_is, le, front_length, name_length) =
    last_at text j (omega arith)
    (λ k low high e. NoCharPasses-char 47 (drop j text) (k - j) none (omega arith) (omega (arith, length-drop j text)) (get_or-drop j text (k - j) 0 ∙ ap (λ (m : ℕ). get_or text m 0) (omega arith) ∙ e))
    (λ pos. ap (λ (m : ℕ). get_or text m 0) (omega (arith, at.ends)) ∙ at.byte (omega arith))
    ∙ sym name_is
