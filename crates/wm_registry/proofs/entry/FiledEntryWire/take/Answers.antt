use Rattle.std.proofs.Common.{◌≡◌, sym, ap, subst, ◌∙◌, arith}
use Rattle.std.specs.List.{IsDistinct}
use Rattle.std.specs.Str.{bytes_eq}
use Rattle.wm_wire.specs.Spelling.{BeginsWith, NoneBegins}
use Rattle.wm_registry.specs.Spelling.{IsRoot, names_of}
use Rattle.wm_registry.proofs.Keys.{PartsFit, parts_spelling, root_of, no_parts, no_root}
use Rattle.wm_registry.proofs.entry.FiledEntryWire.take.Goals as goal
use Rattle.wm_registry.proofs.entry.FiledEntryWire.take.Goals.{then-number-eq0-via-then-number-eq0, then-number-eq0-via-else-number-eq0+then-number-gt-MAX_COUNTER, then-number-eq0-via-else-number-eq0+else-number-gt-MAX_COUNTER+then-not-are_distinct}

pub returns-in_default : goal.returns-in_default
returns-in_default g c =
    let none : NoneBegins (PartsFit g.V.Filed.version) (parts_spelling g.V.Filed.version) c.args.bytes.now = rw c.in_default.is at c.in_ok-parts.ensures in
    no_parts g.V.Filed.version c.args.bytes.now none

pub returns-then-number-eq0 : goal.returns-then-number-eq0
returns-then-number-eq0 g c =
    let begins : BeginsWith (PartsFit g.V.Filed.version) (parts_spelling g.V.Filed.version) c.args.bytes.now c.in-Some.parts c.in-Some.size = rw c.in-Some.is at c.in_ok-parts.ensures in
    let same : c.into_parts-number.result ≡ c.in-Some.parts.1 = c.into_parts-number.ensures.value ∙ ap (λ q. q.1) c.into_parts-path.ensures.value in
    let number : c.into_parts-number.result.0 ≡ c.in-Some.parts.1.0 = ap (λ q. q.0) same in
    let wrong : IsRoot g.V.Filed.version (root_of c.in-Some.parts) → ⊥ = λ h. elim c.then-number-eq0.branch [
      | then-number-eq0-via-then-number-eq0 w ↦ omega (arith, h.some, number, w.if-number-eq0.true)
      | then-number-eq0-via-else-number-eq0+then-number-gt-MAX_COUNTER w ↦ omega (arith, h.number, number, w.if-number-gt-MAX_COUNTER.true)
      | then-number-eq0-via-else-number-eq0+else-number-gt-MAX_COUNTER+then-not-are_distinct w ↦
          let triggers : w.as_slice.result.now ≡ c.in-Some.parts.1.1 = w.as_slice.ensures.value ∙ c.in_ok-triggers.ensures.same ∙ ap (λ q. q.1) same in
          w.if-not-are_distinct.ensures.not_apart (subst (λ l. IsDistinct bytes_eq (names_of l)) (sym triggers) h.apart)
    ] in
    no_root g.V.Filed.version c.args.bytes.now c.in-Some.parts c.in-Some.size begins wrong
