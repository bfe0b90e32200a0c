-- Lines that define a trigger, or take one out.
use Rattle.std.specs.Prelude.{ℕ, ◌+◌, ◌^◌, List, Bool, nat_lt, Option, Some, None, option_and_then, option_map, is_none, is_some, Result, Ok, Err, codes, if◌then◌else◌}
use Rattle.std.specs.Str.{bytes_eq}
use Rattle.serde_json.specs.Data.{Data}
use Rattle.serde_json.specs.Find.{at, get, as_str, as_array, as_number, as_u64}
use Rattle.wm_disk.specs.declared.refusal.Refusal.{Refusal}
use Rattle.wm_disk.specs.declared.refusal.Refusal.TheVariants.{BadArguments, BadPath, BadTrigger}
use Rattle.wm_names.specs.Paths.{is_root_path}
use Rattle.wm_registry.specs.declared.stdin.Stdin.{Stdin}
use Rattle.wm_registry.specs.declared.stdin.Stdin.TheVariants.{DevNull, NamePerLine}
use Rattle.wm_registry.specs.Triggers.{Definition, definition, is_name, is_trigger}
use Rattle.wm_lines.specs.declared.request.Request.{Request}
use Rattle.wm_lines.specs.declared.request.Request.TheVariants.{Trigger, TriggerDel}
use Rattle.wm_lines.specs.Arguments.{text_at}
use Rattle.wm_lines.specs.KeptExpressions.{kept_text}
use Rattle.wm_lines.specs.Keys.{flag_in, has_keys, object_at, one_if}
use Rattle.wm_expr.specs.Readings.{each}

abbrev pub stdin_named : List ℕ → Option Stdin
stdin_named text =
    if bytes_eq text (codes "/dev/null") then Some DevNull
    else (if bytes_eq text (codes "NAME_PER_LINE") then Some NamePerLine
    else None)

-- `/dev/null` where it is missing
abbrev pub stdin_in : Option Data → Option Stdin
stdin_in None = Some DevNull
stdin_in (Some d) = option_and_then stdin_named (as_str d)

abbrev pub words_in : Option Data → Option (List (List ℕ))
words_in d = option_and_then (each as_str) (option_and_then as_array d)

abbrev pub of_32_bits : ℕ → Option ℕ
of_32_bits n = if nat_lt n (2 ^ 32) then Some n else None

-- a whole number of 32 bits, or none where it is missing
abbrev pub file_count_in : Option Data → Option (Option ℕ)
file_count_in None = Some None
file_count_in (Some d) = option_map (λ n. Some n) (option_and_then of_32_bits (option_and_then as_u64 (as_number d)))

abbrev pub definition_from : Option (List ℕ) → Option (List ℕ) → Option (List (List ℕ)) → Option Bool → Option Stdin → Option (Option ℕ) → Option Definition
definition_from expression (Some name) (Some words) (Some append_files) (Some stdin) (Some count) = Some (definition name words expression append_files stdin count)
definition_from expression _ _ _ _ _ = None

-- as many keys as there are of the six known ones, with `name` and `command` among them
abbrev pub has_known_keys : Data → Bool
has_known_keys d =
    has_keys (2 + (one_if (is_some (get (codes "expression") d)) + (one_if (is_some (get (codes "append_files") d))
    + (one_if (is_some (get (codes "stdin") d)) + one_if (is_some (get (codes "max_files_stdin") d)))))) d

-- the keys `name` and `command`, perhaps `expression`, which is kept as this text, `append_files`, `stdin` and `max_files_stdin`, and no other
abbrev pub definition_in : Option (List ℕ) → Data → Option Definition
definition_in expression d =
    if has_known_keys d
    then definition_from expression (option_and_then as_str (get (codes "name") d)) (words_in (get (codes "command") d)) (flag_in (get (codes "append_files") d)) (stdin_in (get (codes "stdin") d)) (file_count_in (get (codes "max_files_stdin") d))
    else None

-- the definition, where it keeps the rules of triggers
abbrev pub by_rules : Option Definition → Result Definition Refusal
by_rules None = Err BadTrigger
by_rules (Some t) = if is_trigger t then Ok t else Err BadTrigger

abbrev pub trigger_keeping : Result (Option (List ℕ)) Refusal → Data → Result Definition Refusal
trigger_keeping (Err e) d = Err e
trigger_keeping (Ok expression) d = by_rules (definition_in expression d)

-- the trigger that an object defines; a bad expression is told before another fault
abbrev pub trigger_in : Data → Result Definition Refusal
trigger_in d = trigger_keeping (kept_text (get (codes "expression") d)) d

abbrev pub trigger_at : List ℕ → Result Definition Refusal → Result Request Refusal
trigger_at root (Ok t) = Ok (Trigger root t)
trigger_at root (Err e) = Err e

abbrev pub trigger_with : Option (List ℕ) → Option Data → Result Request Refusal
trigger_with (Some root) (Some d) = if is_root_path root then trigger_at root (trigger_in d) else Err BadPath
trigger_with _ _ = Err BadArguments

-- `trigger` with a root path and an object
abbrev pub trigger_request : Data → Result Request Refusal
trigger_request d = if is_none (at 3 d) then trigger_with (text_at 1 d) (object_at 2 d) else Err BadArguments

abbrev pub trigger_del_with : Option (List ℕ) → Option (List ℕ) → Result Request Refusal
trigger_del_with (Some root) (Some name) = if is_root_path root then (if is_name name then Ok (TriggerDel root name) else Err BadTrigger) else Err BadPath
trigger_del_with _ _ = Err BadArguments

-- `trigger-del` with a root path and a name
abbrev pub trigger_del_request : Data → Result Request Refusal
trigger_del_request d = if is_none (at 3 d) then trigger_del_with (text_at 1 d) (text_at 2 d) else Err BadArguments
