use Rattle.std.proofs.Common.{List, ℕ, get_or, subst, sym}
use Rattle.wm_checkpoint.specs.Layout.{sizes_2}
use Rattle.wm_checkpoint.specs.Meanings.{IsHeaderWith}
use Rattle.wm_checkpoint.proofs.read.is_version_2.Goals as goal

pub returns-clause-yes : goal.returns-clause-yes
returns-clause-yes c = λ is.
    let r = get_or c.part.result.now 12 0 in
    (r, subst (λ (x : List ℕ). IsHeaderWith sizes_2 r x) c.part.ensures.value (c.has_header.ensures.yes is))

pub returns-clause-no : goal.returns-clause-no
returns-clause-no c = λ is long r h. c.has_header.ensures.no is r (subst (λ (x : List ℕ). IsHeaderWith sizes_2 r x) (sym c.part.ensures.value) h)
