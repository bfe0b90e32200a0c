use Rattle.std.proofs.Common.{List, ℕ, String, Global, string_bytes, sym, ap, ap₂, ◌∙◌}
use Rattle.std.specs.Str.{bytes_eq}
use Rattle.std.specs.List.{list_any}
use Rattle.wm_expr.specs.Meanings.{has_suffix, holds}
use Rattle.wm_expr.specs.Views.{term}
use Rattle.wm_expr.specs.Terms.{Term}
use Rattle.wm_expr.proofs.Lists.{any_of_images}
use Rattle.wm_expr.proofs.Views.{term_name, term_suffix}
use Rattle.wm_expr.proofs.+holds.Goals as goal

pub expr::Expr::holds-returns-in-Name : goal.expr::Expr::holds-returns-in-Name
expr::Expr::holds-returns-in-Name t c =
    c.is_one_of.ensures
    ∙ (ap₂ (λ (names : List (String Global)) (text : List ℕ). list_any (λ name. bytes_eq text (string_bytes name)) names) c.deref-in-Name.ensures.value c.scoped.ensures
    ∙ (sym (any_of_images (bytes_eq _) string_bytes c.in-Name.names.items)
    ∙ ap (λ (x : Term). holds x c.args.entry.now) (sym (ap term c.in-Name.is ∙ term_name c.in-Name.names c.in-Name.scope))))

pub expr::Expr::holds-returns-in-Suffix : goal.expr::Expr::holds-returns-in-Suffix
expr::Expr::holds-returns-in-Suffix t c =
    c.has_one_of.ensures
    ∙ (ap₂ (λ (suffixes : List (String Global)) (name : List ℕ). list_any (λ suffix. has_suffix name (string_bytes suffix)) suffixes) c.deref-in-Suffix.ensures.value c.basename.ensures
    ∙ (sym (any_of_images (has_suffix _) string_bytes c.in-Suffix.suffixes.items)
    ∙ ap (λ (x : Term). holds x c.args.entry.now) (sym (ap term c.in-Suffix.is ∙ term_suffix c.in-Suffix.suffixes))))
