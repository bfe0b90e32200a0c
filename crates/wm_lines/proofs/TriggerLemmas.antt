-- The trigger that an object defines, from its parts.
use Rattle.std.proofs.Common.{◌≡◌, ℕ, Bool, true, List, [], ◌∷◌, length, Option, Some, None, Result, Ok, Err, IfOk, refl, sym, ap, subst, ◌∙◌, codes}
use Rattle.std.specs.Prelude.{◌&&◌, nat_le, nat_lt, option_and_then}
use Rattle.std.specs.List.{AllByRecursion, list_all}
use Rattle.std.proofs.lemmas.Bool.{le-leb}
use Rattle.serde_json.specs.Data.{Data}
use Rattle.serde_json.specs.Find.{as_str, get}
use Rattle.wm_disk.specs.declared.refusal.Refusal.{Refusal}
use Rattle.wm_wire.specs.Spelling.{IsOptional, IsText, text}
use Rattle.wm_registry.specs.declared.stdin.Stdin.{Stdin}
use Rattle.wm_registry.specs.Endings.{is_file_count}
use Rattle.wm_registry.specs.declared.version.Version.TheVariants.{Two}
use Rattle.wm_registry.specs.Spelling.{IsTrigger}
use Rattle.wm_registry.specs.Triggers.{Definition, definition, is_command, is_expression_text, is_name, is_trigger}
use Rattle.wm_lines.specs.Keys.{flag_in}
use Rattle.wm_lines.specs.TriggerLines.{by_rules, definition_in, file_count_in, has_known_keys, stdin_in, words_in}

both : (a b : Bool) → a ≡ true → b ≡ true → (a && b) ≡ true
both a b p q = rw (p, q) refl

words_keep : (words : List (List ℕ)) → AllByRecursion (IsText 1024) words → list_all (λ word. nat_le (length word) 1024) words ≡ true
words_keep [] h = refl
words_keep (word ∷ words) h = both (nat_le (length word) 1024) (list_all (λ w. nat_le (length w) 1024) words) (le-leb (length word) 1024 h.0.short) (words_keep words h.1)

expression_keeps : (x : Option (List ℕ)) → IsOptional (IsText 4096) text x → is_expression_text x ≡ true
expression_keeps None h = refl
expression_keeps (Some x) h = le-leb (length x) 4096 h.held.short

-- what fits as a trigger keeps the rules
keeps_rules : (t : Definition) → IsTrigger Two t → is_trigger t ≡ true
keeps_rules t h =
    both (is_name t.name) (is_command t.command && (is_expression_text t.expression && is_file_count t.max_files_stdin))
    (both (nat_lt 0 (length t.name)) (nat_le (length t.name) 64) (le-leb 1 (length t.name) h.name.some) (le-leb (length t.name) 64 h.name.is_text.short))
    (both (is_command t.command) (is_expression_text t.expression && is_file_count t.max_files_stdin)
    (both _ (nat_le (length t.command) 16 && list_all (λ word. nat_le (length word) 1024) t.command) h.program
    (both (nat_le (length t.command) 16) (list_all (λ word. nat_le (length word) 1024) t.command) (le-leb (length t.command) 16 h.command.count) (words_keep t.command h.command.each)))
    (both (is_expression_text t.expression) (is_file_count t.max_files_stdin) (expression_keeps t.expression h.expression) h.ending.some))

pub from_parts : (d : Data) (expression : Option (List ℕ)) (name : List ℕ) (words : List (List ℕ)) (append_files : Bool) (stdin : Stdin) (count : Option ℕ) → has_known_keys d ≡ true
    → option_and_then as_str (get (codes "name") d) ≡ Some name → words_in (get (codes "command") d) ≡ Some words
    → flag_in (get (codes "append_files") d) ≡ Some append_files → stdin_in (get (codes "stdin") d) ≡ Some stdin
    → file_count_in (get (codes "max_files_stdin") d) ≡ Some count
    → definition_in expression d ≡ Some (definition name words expression append_files stdin count)
from_parts d expression name words append_files stdin count keys n w a s c = rw (keys, n, w, a, s, c) refl

pub made_by_rules : (made : Result Definition Refusal) (read : Option Definition) (t : Definition) → IfOk made (λ x. x ≡ t) → IfOk made (IsTrigger Two) → read ≡ Some t
    → IfOk made (λ x. by_rules read ≡ Ok x)
made_by_rules (Ok x) read t same fits is =
    let rules : is_trigger t ≡ true = keeps_rules t (subst (IsTrigger Two) same fits) in
    let kept : by_rules (Some t) ≡ Ok t = rw rules refl in
    ap by_rules is ∙ kept ∙ ap (λ (y : Definition). Ok y) (sym same)
made_by_rules (Err e) read t same fits is = tt
