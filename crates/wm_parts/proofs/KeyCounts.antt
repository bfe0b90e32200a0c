-- An object with a key that it can't have has more keys than the known ones that it has, so its keys aren't taken.
use Rattle.std.proofs.Common.{◌≡◌, ◌≤◌, ◌<◌, ◌+◌, ◌&&◌, ℕ, Bool, Ordering, Less, Equal, Greater, true, false, List, Option, Some, suc, bytes_eq, refl, sym, ap, subst, arith}
use Rattle.std.specs.Prelude.{◌==◌, codes, if◌then◌else◌, is_some}
use Rattle.std.specs.Ordering.{is_eq, match_ordering, nat_cmp}
use Rattle.std.specs.Cmp.Lexicographic.{slice_cmp}
use Rattle.std.proofs.lemmas.Bool.Decides.{nat_tests}
use Rattle.std.proofs.lemmas.Map.Text.{is_eq-slice_cmp}
use Rattle.std.proofs.lemmas.Slice.Eq.{bytes_eq-Decides}
use Rattle.serde_json.specs.Data.{Data, Members, array, boolean, member, no_members, null, number, object, string}
use Rattle.serde_json.specs.Find.{get_member}
use Rattle.wm_lines.specs.Keys.{members_len, one_if}
use Rattle.wm_parts.specs.RefusedParts.{is_key, takes_keys, unknown_key, unknown_key_in}
use Rattle.wm_parts.specs.declared.keys.Asking.{Asking}
use Rattle.wm_parts.specs.declared.keys.Asking.TheVariants.{Query, Trigger}

-- one if the object has the key
abbrev has : List ℕ → Members → ℕ
has k ms = one_if (is_some (get_member k ms))

step_of : (o : Ordering) (b : Bool) (d : Data) (x : Option Data) → is_eq o ≡ b → one_if (is_some (match_ordering o x (Some d) x)) ≤ one_if (is_some x) + one_if b
step_of Less b d x e = omega arith
step_of Equal b d x e = rw (sym e) (omega arith)
step_of Greater b d x e = omega arith

has_step : (k l : List ℕ) (d : Data) (ms : Members) → has k (member l d ms) ≤ has k ms + one_if (bytes_eq k l)
has_step k l d ms = step_of (slice_cmp nat_cmp k l) (bytes_eq k l) d (get_member k ms) (is_eq-slice_cmp k l)

by_test : (P : List ℕ → Type 0) (k l : List ℕ) (b : Bool) → bytes_eq k l ≡ b → P k → (bytes_eq k l ≡ false → P l) → P l
by_test P k l true e here other = subst P ((bytes_eq-Decides k l).0 e) here
by_test P k l false e here other = other e

-- it is the key, or the other keys are looked at
by_key : (P : List ℕ → Type 0) (k l : List ℕ) → P k → (bytes_eq k l ≡ false → P l) → P l
by_key P k l here other = by_test P k l (bytes_eq k l) refl here other

abbrev alike : List ℕ → List ℕ → ℕ
alike k l = one_if (bytes_eq k l)

abbrev query_alike : List ℕ → ℕ
query_alike l = alike (codes "since") l + (alike (codes "expression") l + (alike (codes "fields") l + (alike (codes "empty_on_fresh_instance") l + alike (codes "sync_timeout") l)))

abbrev QueryKnown : List ℕ → Type 0
QueryKnown l = query_alike l ≤ one_if (is_key Query l)

query_known : (l : List ℕ) → QueryKnown l
query_known l =
    by_key QueryKnown (codes "since") l (omega arith) (λ a.
    by_key QueryKnown (codes "expression") l (omega arith) (λ b.
    by_key QueryKnown (codes "fields") l (omega arith) (λ c.
    by_key QueryKnown (codes "empty_on_fresh_instance") l (omega arith) (λ d.
    by_key QueryKnown (codes "sync_timeout") l (omega arith) (λ e.
    omega (arith, ap one_if a, ap one_if b, ap one_if c, ap one_if d, ap one_if e))))))

abbrev trigger_alike : List ℕ → ℕ
trigger_alike l = alike (codes "name") l + (alike (codes "command") l + (alike (codes "expression") l + (alike (codes "append_files") l + (alike (codes "stdin") l + alike (codes "max_files_stdin") l))))

abbrev TriggerKnown : List ℕ → Type 0
TriggerKnown l = trigger_alike l ≤ one_if (is_key Trigger l)

trigger_known : (l : List ℕ) → TriggerKnown l
trigger_known l =
    by_key TriggerKnown (codes "name") l (omega arith) (λ a.
    by_key TriggerKnown (codes "command") l (omega arith) (λ b.
    by_key TriggerKnown (codes "expression") l (omega arith) (λ c.
    by_key TriggerKnown (codes "append_files") l (omega arith) (λ d.
    by_key TriggerKnown (codes "stdin") l (omega arith) (λ e.
    by_key TriggerKnown (codes "max_files_stdin") l (omega arith) (λ f.
    omega (arith, ap one_if a, ap one_if b, ap one_if c, ap one_if d, ap one_if e, ap one_if f)))))))

-- how many members have a known key
abbrev known : Asking → Members → ℕ
known asking no_members = 0
known asking (member l d ms) = one_if (is_key asking l) + known asking ms

abbrev query_has : Members → ℕ
query_has ms = has (codes "since") ms + (has (codes "expression") ms + (has (codes "fields") ms + (has (codes "empty_on_fresh_instance") ms + has (codes "sync_timeout") ms)))

query_counted : (ms : Members) → query_has ms ≤ known Query ms
query_counted no_members = omega arith
query_counted (member l d ms) =
    omega (arith, query_counted ms, query_known l, has_step (codes "since") l d ms, has_step (codes "expression") l d ms, has_step (codes "fields") l d ms, has_step (codes "empty_on_fresh_instance") l d ms, has_step (codes "sync_timeout") l d ms)

abbrev trigger_has : Members → ℕ
trigger_has ms = has (codes "name") ms + (has (codes "command") ms + (has (codes "expression") ms + (has (codes "append_files") ms + (has (codes "stdin") ms + has (codes "max_files_stdin") ms))))

trigger_counted : (ms : Members) → trigger_has ms ≤ known Trigger ms
trigger_counted no_members = omega arith
trigger_counted (member l d ms) =
    omega (arith, trigger_counted ms, trigger_known l, has_step (codes "name") l d ms, has_step (codes "command") l d ms, has_step (codes "expression") l d ms, has_step (codes "append_files") l d ms, has_step (codes "stdin") l d ms, has_step (codes "max_files_stdin") l d ms)

at_most_one : (b : Bool) → one_if b ≤ 1
at_most_one true = omega arith
at_most_one false = omega arith

known_few : (asking : Asking) (ms : Members) → known asking ms ≤ members_len ms
known_few asking no_members = omega arith
known_few asking (member l d ms) = omega (arith, known_few asking ms, at_most_one (is_key asking l))

-- an unknown key is one more
fewer_by : (b : Bool) (asking : Asking) (l k : List ℕ) (ms : Members) → (unknown_key asking ms ≡ Some k → known asking ms < members_len ms)
    → (if b then unknown_key asking ms else Some l) ≡ Some k → one_if b + known asking ms < suc (members_len ms)
fewer_by true asking l k ms below e = omega (arith, below e)
fewer_by false asking l k ms below e = omega (arith, known_few asking ms)

fewer : (asking : Asking) (ms : Members) (k : List ℕ) → unknown_key asking ms ≡ Some k → known asking ms < members_len ms
fewer asking no_members k e = cc
fewer asking (member l d ms) k e = fewer_by (is_key asking l) asking l k ms (λ e. fewer asking ms k e) e

-- ---- the keys aren't taken

not_same : (n m : ℕ) → m < n → (n == m) ≡ false
not_same n m lt = grind (arith, nat_tests)

no_more : (a : Bool) → (a && false) ≡ false
no_more true = refl
no_more false = refl

two_of : (a b : Bool) (n m : ℕ) → one_if a + (one_if b + m) < n → ((n == (2 + m)) && (a && b)) ≡ false
two_of true true n m lt = ap (λ x. x && true) (not_same n (2 + m) (omega arith))
two_of true false n m lt = no_more (n == (2 + m))
two_of false b n m lt = no_more (n == (2 + m))

pub refused_keys : (asking : Asking) (d : Data) (k : List ℕ) → unknown_key_in asking d ≡ Some k → takes_keys asking d ≡ false
refused_keys Query (object ms) k e = not_same (members_len ms) (query_has ms) (omega (arith, query_counted ms, fewer Query ms k e))
refused_keys Trigger (object ms) k e = two_of (is_some (get_member (codes "name") ms)) (is_some (get_member (codes "command") ms)) (members_len ms) _ (omega (arith, trigger_counted ms, fewer Trigger ms k e))
refused_keys asking null k e = cc
refused_keys asking (boolean b) k e = cc
refused_keys asking (number n) k e = cc
refused_keys asking (string s) k e = cc
refused_keys asking (array ds) k e = cc
