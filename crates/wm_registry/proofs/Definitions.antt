-- Triggers are defined in the same way exactly where their definitions are equal.
use Rattle.std.proofs.Common.{◌≡◌, ℕ, Bool, true, false, ◌==◌, ◌&&◌, List, Option, Some, None, refl, sym, ap, subst, true≢false}
use Rattle.std.proofs.lemmas.Bool.{and_parts, eqb-true}
use Rattle.std.proofs.lemmas.Slice.Eq.{bytes_eq-Decides}
use Rattle.std.specs.Cmp.Lexicographic.{pointwise, pointwise_decides}
use Rattle.std.specs.Option.{option_eq}
use Rattle.std.specs.Str.{bytes_eq}
use Rattle.wm_registry.specs.ChangeLaws.{itself}
use Rattle.wm_registry.specs.Laws.{SameIsEqual}
use Rattle.wm_registry.specs.Triggers.{Definition, same_definition, same_flag, same_stdin}
use Rattle.wm_registry.specs.declared.stdin.Stdin.{Stdin}
use Rattle.wm_registry.specs.declared.stdin.Stdin.TheVariants.{DevNull, NamePerLine}

same_flags : (a b : Bool) → same_flag a b ≡ true → a ≡ b
same_flags true true h = refl
same_flags true false h = absurd (true≢false (sym h))
same_flags false true h = absurd (true≢false (sym h))
same_flags false false h = refl

same_stdins : (a b : Stdin) → same_stdin a b ≡ true → a ≡ b
same_stdins DevNull DevNull h = refl
same_stdins DevNull NamePerLine h = absurd (true≢false (sym h))
same_stdins NamePerLine DevNull h = absurd (true≢false (sym h))
same_stdins NamePerLine NamePerLine h = refl

same_expressions : (a b : Option (List ℕ)) → option_eq bytes_eq a b ≡ true → a ≡ b
same_expressions None None h = refl
same_expressions None (Some y) h = absurd (true≢false (sym h))
same_expressions (Some x) None h = absurd (true≢false (sym h))
same_expressions (Some x) (Some y) h = ap Some ((bytes_eq-Decides x y).0 h)

same_counts : (a b : Option ℕ) → option_eq ◌==◌ a b ≡ true → a ≡ b
same_counts None None h = refl
same_counts None (Some y) h = absurd (true≢false (sym h))
same_counts (Some x) None h = absurd (true≢false (sym h))
same_counts (Some x) (Some y) h = ap Some (eqb-true x y h)

of_parts : (a b : Definition) → a.name ≡ b.name → a.command ≡ b.command → a.expression ≡ b.expression → a.append_files ≡ b.append_files → a.stdin ≡ b.stdin → a.max_files_stdin ≡ b.max_files_stdin → a ≡ b
of_parts a b n c e f s m = λ i. record { name = n i; command = c i; expression = e i; append_files = f i; stdin = s i; max_files_stdin = m i }

same_parts : (a b : Definition) → same_definition a b ≡ true → a ≡ b
same_parts a b h =
    let flag = same_flag a.append_files b.append_files in
    let stdin = same_stdin a.stdin b.stdin in
    let count = option_eq ◌==◌ a.max_files_stdin b.max_files_stdin in
    let expression = option_eq bytes_eq a.expression b.expression in
    let command = pointwise bytes_eq a.command b.command in
    let name_on = and_parts (bytes_eq a.name b.name) (command && (expression && (flag && (stdin && count)))) h in
    let command_on = and_parts command (expression && (flag && (stdin && count))) name_on.1 in
    let expression_on = and_parts expression (flag && (stdin && count)) command_on.1 in
    let flag_on = and_parts flag (stdin && count) expression_on.1 in
    let stdin_on = and_parts stdin count flag_on.1 in
    of_parts a b ((bytes_eq-Decides a.name b.name).0 name_on.0) ((pointwise_decides bytes_eq-Decides a.command b.command).0 command_on.0)
    (same_expressions a.expression b.expression expression_on.0) (same_flags a.append_files b.append_files flag_on.0) (same_stdins a.stdin b.stdin stdin_on.0) (same_counts a.max_files_stdin b.max_files_stdin stdin_on.1)

pub equal_definitions : SameIsEqual
equal_definitions a b = (same_parts a b, λ e. subst (λ d. same_definition a d ≡ true) e (itself a))
