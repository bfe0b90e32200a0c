-- The members of a trigger that is shown, put one after the other.
use Rattle.std.proofs.Common.{◌≡◌, ℕ, List, Option, Some, None, option_map, codes, refl}
use Rattle.serde_json.specs.Data.{Data, Members, member, no_members, number, put, unsigned}
use Rattle.wm_lines.specs.KeptExpressions.{expression_shown}
use Rattle.wm_lines.specs.Replies.{with_expression, with_file_count, with_some}

-- with the members that a trigger may lack, behind the first two
abbrev pub with_both : Option Data → Option Data → Data → Data → Members
with_both expression count append_files words =
    with_some (codes "max_files_stdin") count (with_some (codes "expression") expression (put (codes "command") words (put (codes "append_files") append_files no_members)))

-- they are there in the order of their keys
pub all_put : (expression : Option (List ℕ)) (count : Option ℕ) (append_files words name stdin : Data)
    → put (codes "stdin") stdin (put (codes "name") name (with_both (option_map expression_shown expression) (option_map (λ n. number (unsigned n)) count) append_files words))
    ≡ member (codes "append_files") append_files (member (codes "command") words
    (with_expression expression (with_file_count count (member (codes "name") name (member (codes "stdin") stdin no_members)))))
all_put None None append_files words name stdin = refl
all_put None (Some n) append_files words name stdin = refl
all_put (Some text) None append_files words name stdin = refl
all_put (Some text) (Some n) append_files words name stdin = refl
