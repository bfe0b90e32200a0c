-- What two steps appended, and what lines ask for, one after the other.
-- For proofs: a reader of definitions may skip it.
use Rattle.std.proofs.Common.{◌≡◌, ℕ, List, [], ◌∷◌, ◌++◌, Option, Some, None, refl, sym, ap, ◌∙◌, append_assoc}
use Rattle.std.specs.Io.KnownBytes.{Appends}
use Rattle.wm_registry.specs.declared.command.Command.{Command}
use Rattle.wm_lines.specs.Lines.{request_of_line}
use Rattle.wm_session.specs.session.Asked.{asked_by, asked_in}

pub appends-then : (a b c : Option (List ℕ)) (x y : List ℕ) → Appends a b x → Appends b c y → Appends a c (x ++ y)
appends-then None b c x y p q = tt
appends-then (Some a) None c x y p q = absurd p
appends-then (Some a) (Some b) None x y p q = absurd q
appends-then (Some a) (Some b) (Some c) x y p q = q ∙ ap (λ (t : List ℕ). t ++ y) p ∙ append_assoc a x y

-- what lines ask for, and then more lines
pub asked_behind : (first second : List (List ℕ)) → asked_in (first ++ second) ≡ asked_in first ++ asked_in second
asked_behind [] second = refl
asked_behind (line ∷ first) second = ap (λ (l : List Command). asked_by (request_of_line line) ++ l) (asked_behind first second) ∙ sym (append_assoc (asked_by (request_of_line line)) (asked_in first) (asked_in second))
