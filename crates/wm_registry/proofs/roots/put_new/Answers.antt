use Rattle.std.proofs.Common.{◌≡◌, None, Some, List, ℕ, is_some, sym, ap, ◌∙◌}
use Rattle.std.specs.Map.{lookup, set_value}
use Rattle.std.specs.Str.{bytes_eq}
use Rattle.indexmap.proofs.CallerLemmas.{insert_entry-new}
use Rattle.indexmap.specs.IndexMap.{insert_entry}
use Rattle.wm_registry.specs.declared.root.Root.{Root}
use Rattle.wm_registry.proofs.Entries.{restored}
use Rattle.wm_registry.proofs.roots.put_new.Goals as goal

pub returns-in-Ok-None-clause-added : goal.returns-in-Ok-None-clause-added
returns-in-Ok-None-clause-added c = λ t.
    let entries = c.args.roots.now.entries in
    let path = c.args.path.now in
    let none : lookup (bytes_eq path) entries ≡ None = ap (λ (k : List ℕ). lookup (bytes_eq k) entries) (sym c.in-Ok.ensures) ∙ sym c.in-Ok-None.ensures.old ∙ c.in-Ok-None.field-0-is in (
      none,
      c.in-Ok-None.ensures.entries ∙ ap (λ (k : List ℕ). insert_entry bytes_eq entries k c.args.root) c.in-Ok.ensures ∙ insert_entry-new bytes_eq c.args.roots.now path c.args.root none,
    )

pub returns-in-Some-clause-there : goal.returns-in-Some-clause-there
returns-in-Some-clause-there c = λ t.
    let entries = c.args.roots.now.entries in
    let path = c.args.path.now in
    let at : lookup (bytes_eq path) entries ≡ Some c.in-Ok-Some.old = ap (λ (k : List ℕ). lookup (bytes_eq k) entries) (sym c.in-Ok.ensures) ∙ sym c.in-Ok-Some.ensures.old ∙ c.in-Ok-Some.field-0-is in
    let put = c.in-Ok-Some.ensures.entries ∙ ap (λ (k : List ℕ). insert_entry bytes_eq entries k c.args.root) c.in-Ok.ensures in (
      ap is_some at,
      (c.get_mut.follows.holds _).0 ∙ ap (λ (es : List (List ℕ × Root)). set_value (bytes_eq path) es c.in-Ok-Some.old) put ∙ restored bytes_eq entries path c.args.root c.in-Ok-Some.old at,
    )
