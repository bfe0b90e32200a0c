-- The laws of `Wire` for names and triggers.
-- For proofs and the ghost members of impls: a reader of definitions may skip it.
use Rattle.std.proofs.Common.{◌≡◌, ℕ, ◌+◌, ◌*◌, ◌^◌, ◌<◌, ◌≤◌, Bool, true, false, List, [], ◌∷◌, ◌++◌, length, flat_map, Option, Some, None, refl, sym, ◌∙◌, append_assoc, arith}
use Rattle.std.proofs.lemmas.List.{length-append}
use Rattle.std.specs.List.{AllByRecursion}
use Rattle.byteorder.specs.Endian.{big_bytes}
use Rattle.wm_wire.specs.Spelling.{text, truth, Every, Alone, IsText, IsList, IsOptional, list_spelling, optional_spelling}
use Rattle.wm_wire.specs.Laws.{alone_text, short_text, alone_truth}
use Rattle.wm_wire.specs.ListLaws.{alone_list}
use Rattle.wm_wire.specs.PairLaws.{SamePrefix, alone_optional, same_prefix}
use Rattle.wm_registry.specs.EndingLaws.{alone_ending, small_ending}
use Rattle.wm_registry.specs.Endings.{ending_spelling}
use Rattle.wm_registry.specs.Limits.{max_trigger_name, max_words, max_word, max_expression}
use Rattle.wm_registry.specs.Spelling.{IsName, IsTrigger, stdin_spelling, trigger_spelling}
use Rattle.wm_registry.specs.Triggers.{Definition}
use Rattle.wm_registry.specs.declared.stdin.Stdin.{Stdin}
use Rattle.wm_registry.specs.declared.stdin.Stdin.TheVariants.{DevNull, NamePerLine}
use Rattle.wm_registry.specs.declared.version.Version.{Version}

pub alone_stdin : (x y : Stdin) (a b : List ℕ) → Every x → Every y → stdin_spelling x ++ a ≡ stdin_spelling y ++ b → x ≡ y
alone_stdin DevNull DevNull a b p q e = refl
alone_stdin DevNull NamePerLine a b p q e = absurd cc
alone_stdin NamePerLine DevNull a b p q e = absurd cc
alone_stdin NamePerLine NamePerLine a b p q e = refl

pub short_stdin : (x : Stdin) → Every x → length (stdin_spelling x) < 2 ^ 32
short_stdin DevNull p = omega arith
short_stdin NamePerLine p = omega arith

pub alone_name : (x y : List ℕ) (a b : List ℕ) → IsName x → IsName y → text x ++ a ≡ text y ++ b → x ≡ y
alone_name x y a b hx hy e = alone_text max_trigger_name x y a b hx.is_text hy.is_text e

pub short_name : (x : List ℕ) → IsName x → length (text x) < 2 ^ 32
short_name x h = short_text max_trigger_name x h.is_text

-- of two rows that begin the same bytes, the first parts are the same, and so is what follows them
pub same_part : {V : Type 0} (fits : V → Type 0) (spelling : V → List ℕ) → Alone fits spelling → (x y : V) (more more' a b : List ℕ) → fits x → fits y → (spelling x ++ more) ++ a ≡ (spelling y ++ more') ++ b → SamePrefix x y (more ++ a) (more' ++ b)
same_part fits spelling alone x y more more' a b hx hy e =
    same_prefix fits spelling alone x y (more ++ a) (more' ++ b) hx hy (sym (append_assoc (spelling x) more a) ∙ e ∙ append_assoc (spelling y) more' b)

pub alone_trigger : (v : Version) (x y : Definition) (a b : List ℕ) → IsTrigger v x → IsTrigger v y → trigger_spelling v x ++ a ≡ trigger_spelling v y ++ b → x ≡ y
alone_trigger v x y a b hx hy e =
    let name = same_part IsName text alone_name x.name y.name _ _ a b hx.name hy.name e in
    let command = same_part (IsList max_words (IsText max_word) text) (list_spelling text) (alone_list max_words (IsText max_word) text (alone_text max_word)) x.command y.command _ _ a b hx.command hy.command name.rest in
    let expression = same_part (IsOptional (IsText max_expression) text) (optional_spelling text) (alone_optional (IsText max_expression) text (alone_text max_expression)) x.expression y.expression _ _ a b hx.expression hy.expression command.rest in
    let flag = same_part Every truth alone_truth x.append_files y.append_files _ _ a b tt tt expression.rest in
    let stdin = same_part Every stdin_spelling alone_stdin x.stdin y.stdin _ _ a b tt tt flag.rest in
    let most = alone_ending v x.max_files_stdin y.max_files_stdin a b hx.ending hy.ending stdin.rest in
    λ i. record { name = name.value i; command = command.value i; expression = expression.value i; append_files = flag.value i; stdin = stdin.value i; max_files_stdin = most i }

-- a text takes four bytes more than it has
pub small_text : (max : ℕ) (x : List ℕ) → IsText max x → length (text x) ≤ max + 4
small_text max x h = omega (arith, h.short, length-append (big_bytes 4 (length x)) x)

-- words of at most 1,024 bytes take at most 1,028 each
pub small_words : (words : List (List ℕ)) → AllByRecursion (IsText max_word) words → length (flat_map text words) ≤ length words * 1028
small_words [] h = omega arith
small_words (word ∷ words) h = omega (arith, small_text max_word word h.0, small_words words h.1, length-append (text word) (flat_map text words))

pub small_expression : (x : Option (List ℕ)) → IsOptional (IsText max_expression) text x → length (optional_spelling text x) ≤ 4101
small_expression None h = omega arith
small_expression (Some x) h = omega (arith, small_text max_expression x h.held)

small_flag : (flag : Bool) → length (truth flag) ≤ 1
small_flag false = omega arith
small_flag true = omega arith

small_stdin : (stdin : Stdin) → length (stdin_spelling stdin) ≤ 1
small_stdin DevNull = omega arith
small_stdin NamePerLine = omega arith

-- a trigger's spelling has at most 21,000 bytes in either version
pub small_trigger : (v w : Version) (x : Definition) → IsTrigger w x → length (trigger_spelling v x) ≤ 21000
small_trigger v w x h =
    let ending = ending_spelling v x.max_files_stdin in
    let stdin = stdin_spelling x.stdin ++ ending in
    let flags = truth x.append_files ++ stdin in
    let expression = optional_spelling text x.expression in
    let words = flat_map text x.command in
    omega (
      arith,
      small_text max_trigger_name x.name h.name.is_text,
      small_words x.command h.command.each,
      h.command.count,
      small_expression x.expression h.expression,
      small_flag x.append_files,
      small_stdin x.stdin,
      small_ending v x.max_files_stdin,
      length-append (stdin_spelling x.stdin) ending,
      length-append (truth x.append_files) stdin,
      length-append expression flags,
      length-append (list_spelling text x.command) (expression ++ flags),
      length-append (big_bytes 4 (length x.command)) words,
      length-append (text x.name) (list_spelling text x.command ++ (expression ++ flags)),
    )

pub short_trigger : (v : Version) (x : Definition) → IsTrigger v x → length (trigger_spelling v x) < 2 ^ 32
short_trigger v x h = omega (arith, small_trigger v v x h)
