use Rattle.std.proofs.Common.{◌≤◌, length, sym, ap, subst, ◌∙◌, arith}
use Rattle.wm_wire.specs.Spelling.{BeginsWith, NoneBegins}
use Rattle.wm_registry.specs.Spelling.{AreRoots, IsState, IsStateIn, state_spelling}
use Rattle.wm_registry.specs.Roots.{State}
use Rattle.wm_registry.proofs.States.{PartsFit, parts_spelling, state_of, no_parts, no_state, is_state}
use Rattle.wm_registry.proofs.wire.FiledRegistryWire.take.Goals as goal
use Rattle.wm_registry.proofs.wire.FiledRegistryWire.take.Goals.{then-incarnation-gt-MAX_COUNTER-via-then-incarnation-gt-MAX_COUNTER, then-incarnation-gt-MAX_COUNTER-via-else-incarnation-gt-MAX_COUNTER+then-next-eq0, then-incarnation-gt-MAX_COUNTER-via-else-incarnation-gt-MAX_COUNTER+else-next-eq0+then-next-gt-MAX_COUNTER, then-incarnation-gt-MAX_COUNTER-via-else-incarnation-gt-MAX_COUNTER+else-next-eq0+else-next-gt-MAX_COUNTER+then-size-max_state_bytes}
use Rattle.wm_registry.specs.Versions.{max_state_bytes}
use Rattle.wm_registry.specs.declared.version.Version.{Version}

pub returns-in_default : goal.returns-in_default
returns-in_default g c =
    let none : NoneBegins (PartsFit g.V.Filed.version) (parts_spelling g.V.Filed.version) c.args.bytes.now = rw c.in_default.is at c.in_ok-parts.ensures in
    no_parts g.V.Filed.version c.args.bytes.now none

pub returns-then-incarnation-gt-MAX_COUNTER : goal.returns-then-incarnation-gt-MAX_COUNTER
returns-then-incarnation-gt-MAX_COUNTER g c =
    let begins : BeginsWith (PartsFit g.V.Filed.version) (parts_spelling g.V.Filed.version) c.args.bytes.now c.in-Some.parts c.in-Some.size = rw c.in-Some.is at c.in_ok-parts.ensures in
    let first = c.into_parts-incarnation.ensures.value in
    let second = c.into_parts-next.ensures.value ∙ ap (λ p. p.1) first in
    let incarnation = ap (λ p. p.0) first in
    let next = ap (λ p. p.0) second in
    let wrong : IsState (state_of g.V.Filed.version c.in-Some.parts) → ⊥ = λ h. elim c.then-incarnation-gt-MAX_COUNTER.branch [
      | then-incarnation-gt-MAX_COUNTER-via-then-incarnation-gt-MAX_COUNTER w ↦ omega (arith, h.incarnation, incarnation, w.if-incarnation-gt-MAX_COUNTER.true)
      | then-incarnation-gt-MAX_COUNTER-via-else-incarnation-gt-MAX_COUNTER+then-next-eq0 w ↦ omega (arith, h.some, next, w.if-next-eq0.true)
      | then-incarnation-gt-MAX_COUNTER-via-else-incarnation-gt-MAX_COUNTER+else-next-eq0+then-next-gt-MAX_COUNTER w ↦ omega (arith, h.next, next, w.if-next-gt-MAX_COUNTER.true)
      | then-incarnation-gt-MAX_COUNTER-via-else-incarnation-gt-MAX_COUNTER+else-next-eq0+else-next-gt-MAX_COUNTER+then-size-max_state_bytes w ↦
          let short : length (parts_spelling g.V.Filed.version c.in-Some.parts) ≤ max_state_bytes g.V.Filed.version = h.short in
          omega (arith, short, begins.whole, w.if-size-max_state_bytes.true, w.max_state_bytes.ensures, ap (λ (v : Version). max_state_bytes v) c.kept_version-version.ensures)
    ] in
    no_state g.V.Filed.version c.args.bytes.now c.in-Some.parts c.in-Some.size begins wrong

pub returns-in_default-2 : goal.returns-in_default-2
returns-in_default-2 g c =
    let begins : BeginsWith (PartsFit g.V.Filed.version) (parts_spelling g.V.Filed.version) c.args.bytes.now c.in-Some.parts c.in-Some.size = rw c.in-Some.is at c.in_ok-parts.ensures in
    let second = c.into_parts-next.ensures.value ∙ ap (λ p. p.1) c.into_parts-incarnation.ensures.value in
    let wrong : IsState (state_of g.V.Filed.version c.in-Some.parts) → ⊥ = λ h. (rw c.in_default-2.is at c.in_ok-roots.ensures.none) (subst (λ p. AreRoots p.0 p.1) (sym second) h.apart) in
    no_state g.V.Filed.version c.args.bytes.now c.in-Some.parts c.in-Some.size begins wrong

pub returns : goal.returns
returns g c =
    let begins : BeginsWith (PartsFit g.V.Filed.version) (parts_spelling g.V.Filed.version) c.args.bytes.now c.in-Some.parts c.in-Some.size = rw c.in-Some.is at c.in_ok-parts.ensures in
    let first = c.into_parts-incarnation.ensures.value in
    let second = c.into_parts-next.ensures.value ∙ ap (λ p. p.1) first in
    let made = rw c.in-Some-2.is at c.in_ok-roots.ensures.some in
    subst (λ (s : State). BeginsWith (IsStateIn g.V.Filed.version) state_spelling c.args.bytes.now s c.in-Some.size) (sym c.new.ensures)
    (is_state g.V.Filed.version c.kept_version-version.result c.args.bytes.now c.in-Some.parts c.into_parts-incarnation.result.0 c.into_parts-next.result.0 c.in-Some-2.roots.entries c.in-Some.size begins
    (record {
      version_is = c.kept_version-version.ensures;
      incarnation_is = ap (λ p. p.0) first;
      next_is = ap (λ p. p.0) second;
      roots_are = made.0 ∙ ap (λ p. p.1) second;
      last = omega (arith, c.if-incarnation-gt-MAX_COUNTER.false);
      some = omega (arith, c.if-next-eq0.false);
      below = omega (arith, c.if-next-gt-MAX_COUNTER.false);
      short = omega (arith, c.if-size-max_state_bytes.false, c.max_state_bytes.ensures);
      apart = subst (λ p. AreRoots p.0 p.1) second made.1;
    }))

pub invariant_of-registry : goal.invariant_of-registry
invariant_of-registry g c =
    let begins : BeginsWith (PartsFit g.V.Filed.version) (parts_spelling g.V.Filed.version) c.args.bytes.now c.in-Some.parts c.in-Some.size = rw c.in-Some.is at c.in_ok-parts.ensures in
    let first = c.into_parts-incarnation.ensures.value in
    let second = c.into_parts-next.ensures.value ∙ ap (λ p. p.1) first in
    let made = rw c.in-Some-2.is at c.in_ok-roots.ensures.some in
    let whole =
    is_state g.V.Filed.version c.kept_version-version.result c.args.bytes.now c.in-Some.parts c.into_parts-incarnation.result.0 c.into_parts-next.result.0 c.in-Some-2.roots.entries c.in-Some.size begins
    (record {
      version_is = c.kept_version-version.ensures;
      incarnation_is = ap (λ p. p.0) first;
      next_is = ap (λ p. p.0) second;
      roots_are = made.0 ∙ ap (λ p. p.1) second;
      last = omega (arith, c.if-incarnation-gt-MAX_COUNTER.false);
      some = omega (arith, c.if-next-eq0.false);
      below = omega (arith, c.if-next-gt-MAX_COUNTER.false);
      short = omega (arith, c.if-size-max_state_bytes.false, c.max_state_bytes.ensures);
      apart = subst (λ p. AreRoots p.0 p.1) second made.1;
    }) in
    (whole.known.state, whole.whole)
