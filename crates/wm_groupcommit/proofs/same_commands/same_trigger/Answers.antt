use Rattle.std.proofs.Common.{◌≡◌, ◌≢◌, true, true≢false, ap, sym, ◌∙◌, subst}
use Rattle.std.specs.Str.{bytes_eq}
use Rattle.std.specs.Option.{option_eq}
use Rattle.std.specs.Prelude.{◌==◌, not, MatchBool}
use Rattle.std.specs.Cmp.Lexicographic.{pointwise}
use Rattle.wm_registry.specs.declared.stdin.Stdin.{Stdin}
use Rattle.wm_groupcommit.proofs.Comparing.{count_self, same_counts, words_self, told_trigger, same_bytes, same_words, same_flags}
use Rattle.wm_groupcommit.proofs.same_commands.same_trigger.Goals as goal

pub returns-then-ne-2 : goal.returns-then-ne-2
returns-then-ne-2 c = λ h.
    let a = c.command.result.now in
    let words : a ≡ c.command-2.result.now = c.command.ensures ∙ ap (λ d. d.command) h ∙ sym c.command-2.ensures in
    true≢false (c.if-ne-2.ensures ∙ ap not (subst (λ b. pointwise bytes_eq a b ≡ true) words (words_self a)))

pub returns : goal.returns
returns c =
    let r = c.same_stdin.result in
    told_trigger c.args.one.now c.args.other.now r
    (sym c.name.ensures ∙ same_bytes _ _ c.if-ne.ensures ∙ c.name-2.ensures)
    (sym c.command.ensures ∙ same_words _ _ c.if-ne-2.ensures ∙ c.command-2.ensures)
    (sym c.expression.ensures ∙ c.if-not-same_text.ensures ∙ c.expression-2.ensures)
    (sym c.append_files.ensures ∙ same_flags _ _ c.if-append_files.false ∙ c.append_files-2.ensures)
    (sym c.max_files_stdin.ensures ∙ same_counts _ _ c.if-ne-3.ensures ∙ c.max_files_stdin-2.ensures)
    (subst (λ (p : Stdin × Stdin). MatchBool r (p.0 ≡ p.1) (p.0 ≢ p.1)) (λ i. (c.stdin.ensures i, c.stdin-2.ensures i)) c.same_stdin.ensures)

pub returns-then-ne-3 : goal.returns-then-ne-3
returns-then-ne-3 c = λ h.
    let a = c.max_files_stdin.result in
    let same : a ≡ c.max_files_stdin-2.result = c.max_files_stdin.ensures ∙ ap (λ d. d.max_files_stdin) h ∙ sym c.max_files_stdin-2.ensures in
    true≢false (c.if-ne-3.ensures ∙ ap not (subst (λ b. option_eq ◌==◌ a b ≡ true) same (count_self a)))
