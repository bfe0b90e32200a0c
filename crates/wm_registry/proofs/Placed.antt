-- Triggers in a file of each version: what is known of those that have a place there, and how long their spellings are.
use Rattle.std.proofs.Common.{◌≡◌, ℕ, ◌+◌, ◌≤◌, Bool, true, false, cond, List, [], ◌∷◌, ◌++◌, length, flat_map, Option, refl, arith}
use Rattle.std.proofs.lemmas.List.{length-append}
use Rattle.std.specs.List.{AllByRecursion}
use Rattle.byteorder.specs.Endian.{big_bytes}
use Rattle.wm_wire.specs.Spelling.{text, truth, IsText, IsList, IsOptional, list_spelling, optional_spelling}
use Rattle.wm_registry.specs.EndingLaws.{ending_in_one, small_ending}
use Rattle.wm_registry.specs.Endings.{ending_spelling, count_fits}
use Rattle.wm_registry.specs.Limits.{max_expression, max_trigger_name, max_triggers, max_word, max_words}
use Rattle.wm_registry.specs.Placing.{ArePlaced}
use Rattle.wm_registry.specs.Spelling.{IsName, IsTrigger, stdin_spelling, trigger_spelling}
use Rattle.wm_registry.specs.StateLaws.{length-flat_map-at_most}
use Rattle.wm_registry.specs.TriggerLaws.{small_expression, small_text, small_trigger, small_words}
use Rattle.wm_registry.specs.Triggers.{Definition, defined, is_named, without}
use Rattle.wm_registry.specs.declared.version.Version.{Version}
use Rattle.wm_registry.specs.declared.version.Version.TheVariants.{One, Two}
use Rattle.wm_registry.proofs.Entries.{AllByRecursion-each}

-- ---- one trigger

-- what the sizes of its parts say of their sum
pub small_sizes : (v : Version) (name : List ℕ) (command : List (List ℕ)) (expression : Option (List ℕ)) (most : Option ℕ) (n w e k : ℕ)
    → IsName name → IsList max_words (IsText max_word) text command → IsOptional (IsText max_expression) text expression
    → n ≡ length (text name) → w ≡ length (list_spelling text command) → e ≡ length (optional_spelling text expression) → k ≡ length (ending_spelling v most) → n + w + e + 2 + k ≤ 21000
small_sizes v name command expression most n w e k hn hw he en ew ee ek =
    omega (
      arith,
      en,
      ew,
      ee,
      ek,
      small_text max_trigger_name name hn.is_text,
      small_words command hw.each,
      hw.count,
      small_expression expression he,
      small_ending v most,
      length-append (big_bytes 4 (length command)) (flat_map text command),
    )

pub length-trigger : (v : Version) (t : Definition) → length (trigger_spelling v t) ≡ length (text t.name) + length (list_spelling text t.command) + length (optional_spelling text t.expression) + length (truth t.append_files) + length (stdin_spelling t.stdin) + length (ending_spelling v t.max_files_stdin)
length-trigger v t =
    let ending = ending_spelling v t.max_files_stdin in
    let last = stdin_spelling t.stdin ++ ending in
    let flags = truth t.append_files ++ last in
    let choice = optional_spelling text t.expression ++ flags in
    omega (
      arith,
      length-append (stdin_spelling t.stdin) ending,
      length-append (truth t.append_files) last,
      length-append (optional_spelling text t.expression) flags,
      length-append (list_spelling text t.command) choice,
      length-append (text t.name) (list_spelling text t.command ++ choice),
    )

-- version 1 leaves out its last byte
length-one : (t : Definition) → count_fits One t.max_files_stdin ≡ true → length (trigger_spelling Two t) ≡ length (trigger_spelling One t) + 1
length-one t h = omega (arith, length-trigger One t, length-trigger Two t, ending_in_one t.max_files_stdin h)

-- one that fits version 2 fits each version that has a place for it
pub fits_version : (v : Version) (t : Definition) → IsTrigger Two t → count_fits v t.max_files_stdin ≡ true → IsTrigger v t
fits_version v t h place = record {
  name = h.name;
  command = h.command;
  program = h.program;
  expression = h.expression;
  ending = record { number = h.ending.number; some = h.ending.some; place = place };
}

-- ---- those of a root

pub each_placed : (v : Version) (ts : List Definition) → AllByRecursion (IsTrigger v) ts → ArePlaced v ts
each_placed v ts h = AllByRecursion-each (IsTrigger v) (λ t. count_fits v t.max_files_stdin ≡ true) (λ t f. f.ending.place) ts h

each_fits : (v : Version) (ts : List Definition) → AllByRecursion (IsTrigger Two) ts → ArePlaced v ts → AllByRecursion (IsTrigger v) ts
each_fits v [] h p = tt
each_fits v (t ∷ ts) h p = (fits_version v t h.0 p.0, each_fits v ts h.1 p.1)

pub list_fits : (v : Version) (ts : List Definition) → IsList max_triggers (IsTrigger Two) (trigger_spelling Two) ts → ArePlaced v ts → IsList max_triggers (IsTrigger v) (trigger_spelling v) ts
list_fits v ts h p =
    let each = each_fits v ts h.each p in
    record {
      count = h.count;
      below = h.below;
      each = each;
      short = omega (arith, h.count, length-flat_map-at_most (IsTrigger v) (trigger_spelling v) 21000 (small_trigger v v) ts each);
    }

-- version 1 leaves out one byte of each
pub length-all-one : (ts : List Definition) → ArePlaced One ts → length (flat_map (trigger_spelling Two) ts) ≡ length (flat_map (trigger_spelling One) ts) + length ts
length-all-one [] p = refl
length-all-one (t ∷ ts) p =
    omega (
      arith,
      length-one t p.0,
      length-all-one ts p.1,
      length-append (trigger_spelling One t) (flat_map (trigger_spelling One) ts),
      length-append (trigger_spelling Two t) (flat_map (trigger_spelling Two) ts),
    )

pub length-all-two : (v : Version) (ts : List Definition) → ArePlaced v ts → length (flat_map (trigger_spelling Two) ts) ≤ length (flat_map (trigger_spelling v) ts) + length ts
length-all-two One ts p = omega (arith, length-all-one ts p)
length-all-two Two ts p = omega arith

-- ---- one defined, and one taken out

pub placed_defined : (v : Version) (t : Definition) (ts : List Definition) → ArePlaced v ts → count_fits v t.max_files_stdin ≡ true → ArePlaced v (defined t ts)
placed_defined v t [] h p = (p, tt)
placed_defined v t (x ∷ ts) h p = by (placed_defined v t ts h.1 p) (is_named t.name x)
  where
    by : ArePlaced v (defined t ts) → (b : Bool) → ArePlaced v (cond b (t ∷ ts) (x ∷ defined t ts))
    by rest true = (p, h.1)
    by rest false = (h.0, rest)

pub placed_without : (v : Version) (name : List ℕ) (ts : List Definition) → ArePlaced v ts → ArePlaced v (without name ts)
placed_without v name [] h = h
placed_without v name (x ∷ ts) h = by (placed_without v name ts h.1) (is_named name x)
  where
    by : ArePlaced v (without name ts) → (b : Bool) → ArePlaced v (cond b ts (x ∷ without name ts))
    by rest true = h.1
    by rest false = (h.0, rest)
