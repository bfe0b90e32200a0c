-- A trigger's object with a value that isn't of its kind defines no trigger.
use Rattle.std.proofs.Common.{◌≡◌, ◌&&◌, Bool, true, false, Option, Some, None, refl, sym, ap, ◌∙◌}
use Rattle.std.specs.Prelude.{ℕ, IfSome, List, codes, if◌then◌else◌, is_some, option_and_then, option_map}
use Rattle.std.specs.Option.{option_or}
use Rattle.serde_json.specs.Data.{Data}
use Rattle.serde_json.specs.Find.{as_array, as_bool, as_str, get}
use Rattle.wm_expr.specs.Readings.{each}
use Rattle.wm_lines.specs.Keys.{flag_in}
use Rattle.wm_lines.specs.TriggerLines.{definition_from, file_count_in, has_known_keys, stdin_in, words_in}
use Rattle.wm_parts.specs.RefusedValues.{has_kind, refused_value, takes_kinds}
use Rattle.wm_parts.specs.declared.keys.Asking.TheVariants.{Trigger}
use Rattle.wm_parts.specs.declared.values.Key.{Key}
use Rattle.wm_parts.specs.declared.values.Key.TheVariants as keys

-- what is found at a key
abbrev at_key : Key → Option Data → Option (Key × Data)
at_key key o = option_and_then (λ v. if has_kind key v then None else Some (key, v)) o

by_kind : (b : Bool) (p x : Key × Data) → (if b then None else Some p) ≡ Some x → b ≡ false
by_kind true p x e = cc
by_kind false p x e = refl

no_more : (a : Bool) → (a && false) ≡ false
no_more true = refl
no_more false = refl

-- one of two is found, so one of two tests fails
or_false : (o p : Option (Key × Data)) (a b : Bool) (x : Key × Data) → (o ≡ Some x → a ≡ false) → (p ≡ Some x → b ≡ false) → option_or o p ≡ Some x → (a && b) ≡ false
or_false None p a b x f g e = ap (λ z. a && z) (g e) ∙ no_more a
or_false (Some y) p a b x f g e = ap (λ z. z && b) (f e)

none_then : {A B : Type 0} (f : A → Option B) (o : Option A) → is_some o ≡ false → is_some (option_and_then f o) ≡ false
none_then f None e = refl
none_then f (Some x) e = cc

-- ---- one key

name_refused : (o : Option Data) (x : Key × Data) → at_key keys.Name o ≡ Some x → is_some (option_and_then as_str o) ≡ false
name_refused None x e = cc
name_refused (Some v) x e = by_kind (is_some (as_str v)) (keys.Name, v) x e

command_refused : (o : Option Data) (x : Key × Data) → at_key keys.Command o ≡ Some x → is_some (words_in o) ≡ false
command_refused None x e = cc
command_refused (Some v) x e = none_then (each as_str) (as_array v) (by_kind (is_some (as_array v)) (keys.Command, v) x e)

append_refused : (o : Option Data) (x : Key × Data) → at_key keys.AppendFiles o ≡ Some x → is_some (flag_in o) ≡ false
append_refused None x e = cc
append_refused (Some v) x e = by_kind (is_some (as_bool v)) (keys.AppendFiles, v) x e

stdin_refused : (o : Option Data) (x : Key × Data) → at_key keys.Stdin o ≡ Some x → is_some (stdin_in o) ≡ false
stdin_refused None x e = cc
stdin_refused (Some v) x e = by_kind (is_some (stdin_in (Some v))) (keys.Stdin, v) x e

count_refused : (o : Option Data) (x : Key × Data) → at_key keys.MaxFilesStdin o ≡ Some x → is_some (file_count_in o) ≡ false
count_refused None x e = cc
count_refused (Some v) x e = by_kind (is_some (file_count_in (Some v))) (keys.MaxFilesStdin, v) x e

-- ---- the object

from_parts : (n : Option (List ℕ)) (w : Option (List (List ℕ))) (a : Option Bool) (s : _) (c : Option (Option ℕ))
    → (is_some n && (is_some w && (is_some a && (is_some s && is_some c)))) ≡ false → is_some (definition_from None n w a s c) ≡ false
from_parts None w a s c e = refl
from_parts (Some n) None a s c e = refl
from_parts (Some n) (Some w) None s c e = refl
from_parts (Some n) (Some w) (Some a) None c e = refl
from_parts (Some n) (Some w) (Some a) (Some s) None e = refl
from_parts (Some n) (Some w) (Some a) (Some s) (Some c) e = e

trigger_refused : (b : Bool) (n w a s c : Option Data) (x : Key × Data)
    → option_or (at_key keys.Name n) (option_or (at_key keys.Command w) (option_or (at_key keys.AppendFiles a) (option_or (at_key keys.Stdin s) (at_key keys.MaxFilesStdin c)))) ≡ Some x
    → is_some (if b then definition_from None (option_and_then as_str n) (words_in w) (flag_in a) (stdin_in s) (file_count_in c) else None) ≡ false
trigger_refused false n w a s c x e = refl
trigger_refused true n w a s c x e =
    from_parts (option_and_then as_str n) (words_in w) (flag_in a) (stdin_in s) (file_count_in c)
    (or_false (at_key keys.Name n) (option_or (at_key keys.Command w) (option_or (at_key keys.AppendFiles a) (option_or (at_key keys.Stdin s) (at_key keys.MaxFilesStdin c)))) (is_some (option_and_then as_str n)) (is_some (words_in w) && (is_some (flag_in a) && (is_some (stdin_in s) && is_some (file_count_in c)))) x
    (name_refused n x)
    (or_false (at_key keys.Command w) (option_or (at_key keys.AppendFiles a) (option_or (at_key keys.Stdin s) (at_key keys.MaxFilesStdin c))) (is_some (words_in w)) (is_some (flag_in a) && (is_some (stdin_in s) && is_some (file_count_in c))) x
    (command_refused w x)
    (or_false (at_key keys.AppendFiles a) (option_or (at_key keys.Stdin s) (at_key keys.MaxFilesStdin c)) (is_some (flag_in a)) (is_some (stdin_in s) && is_some (file_count_in c)) x
    (append_refused a x)
    (or_false (at_key keys.Stdin s) (at_key keys.MaxFilesStdin c) (is_some (stdin_in s)) (is_some (file_count_in c)) x (stdin_refused s x) (count_refused c x))))
    e)

refused_kinds : (d : Data) (x : Key × Data) → refused_value Trigger d ≡ Some x → takes_kinds Trigger d ≡ false
refused_kinds d x e =
    trigger_refused (has_known_keys d) (get (codes "name") d) (get (codes "command") d) (get (codes "append_files") d) (get (codes "stdin") d) (get (codes "max_files_stdin") d) x e

pub not_taken : {A : Type 0} (f : A → Key × Data) (r : Option A) (d : Data) → option_map f r ≡ refused_value Trigger d → IfSome r (λ _. takes_kinds Trigger d ≡ false)
not_taken f None d e = tt
not_taken f (Some v) d e = refused_kinds d (f v) (sym e)
