use Rattle.std.proofs.Common.{◌≡◌, Bool, true, false, not, List, ℕ, slice_get, Some, refl, length, sym, ap, subst, ◌∙◌, arith}
use Rattle.std.specs.Str.{bytes_eq}
use Rattle.wm_registry.specs.declared.root.Root.{Root}
use Rattle.wm_registry.specs.Placing.{ArePlaced}
use Rattle.wm_registry.specs.Spelling.{root_spelling}
use Rattle.wm_registry.specs.declared.version.Version.{Version}
use Rattle.wm_registry.specs.Registry.{after_command, reply_to}
use Rattle.wm_registry.specs.Roots.{State}
use Rattle.wm_registry.specs.declared.command.Command.TheVariants as commands
use Rattle.wm_registry.proofs.FirstRoots.{first_after, first_fits, first_met, first_placed, first_size, first_within}
use Rattle.wm_registry.proofs.draft.Draft.removes_first.Goals as goal

hit : (b : Bool) → false ≡ not b → b ≡ true
hit true e = refl
hit false e = absurd cc

pub overflow_add-self : goal.overflow_add-self
overflow_add-self c =
    let s = c.self.inside.registry in
    let k = c.self.inside.gone in
    let path = c.args.path.now in
    let first = c.in-Some.first.now in
    let root = c.in-Some.root.now in
    let at : slice_get s.roots k ≡ Some (first, root) = ap (λ (rs : List (List ℕ × Root)). slice_get rs k) (sym c.roots.ensures) ∙ sym c.in-Some.ensures.entry in
    let same : bytes_eq path first ≡ true = hit (bytes_eq path first) c.if-ne.ensures in
    omega (arith, c.self.invariant.2, first_size s k path first root at same, c.root_size.ensures.exact, ap (λ (v : Version). length (root_spelling v (path, root))) c.version.ensures, c.size-size.ensures.fits.short)

pub overflow_add-self-2 : goal.overflow_add-self-2
overflow_add-self-2 c =
    let s = c.self.inside.registry in
    let k = c.self.inside.gone in
    let path = c.args.path.now in
    let first = c.in-Some.first.now in
    let root = c.in-Some.root.now in
    let at : slice_get s.roots k ≡ Some (first, root) = ap (λ (rs : List (List ℕ × Root)). slice_get rs k) (sym c.roots.ensures) ∙ sym c.in-Some.ensures.entry in
    let same : bytes_eq path first ≡ true = hit (bytes_eq path first) c.if-ne.ensures in
    omega (arith, first_within s k path first root at same, c.size-size.ensures.fits.roots.count)

pub invariant_of-self : goal.invariant_of-self
invariant_of-self c =
    let s = c.self.inside.registry in
    let k = c.self.inside.gone in
    let path = c.args.path.now in
    let first = c.in-Some.first.now in
    let root = c.in-Some.root.now in
    let at : slice_get s.roots k ≡ Some (first, root) = ap (λ (rs : List (List ℕ × Root)). slice_get rs k) (sym c.roots.ensures) ∙ sym c.in-Some.ensures.entry in
    let same : bytes_eq path first ≡ true = hit (bytes_eq path first) c.if-ne.ensures in (
      first_within s k path first root at same,
      first_fits s k path first root at same c.self.invariant.1,
      omega (arith, c.self.invariant.2, first_size s k path first root at same, c.root_size.ensures.exact, ap (λ (v : Version). length (root_spelling v (path, root))) c.version.ensures),
    )

pub returns-clause-did : goal.returns-clause-did
returns-clause-did c =
    let s = c.self.inside.registry in
    let k = c.self.inside.gone in
    let path = c.args.path.now in
    let first = c.in-Some.first.now in
    let root = c.in-Some.root.now in
    let at : slice_get s.roots k ≡ Some (first, root) = ap (λ (rs : List (List ℕ × Root)). slice_get rs k) (sym c.roots.ensures) ∙ sym c.in-Some.ensures.entry in
    let same : bytes_eq path first ≡ true = hit (bytes_eq path first) c.if-ne.ensures in (
      ap (λ (t : State). reply_to t (commands.WatchDel path)) (sym c.self.view_is) ∙ first_met s k path first root at same,
      sym (first_after s k path first root at same) ∙ ap (λ (t : State). after_command t (commands.WatchDel path)) c.self.view_is,
    )

pub root_size-requires : goal.root_size-requires
root_size-requires c =
    let s = c.self.inside.registry in
    let k = c.self.inside.gone in
    let path = c.args.path.now in
    let first = c.in-Some.first.now in
    let root = c.in-Some.root.now in
    let at : slice_get s.roots k ≡ Some (first, root) = ap (λ (rs : List (List ℕ × Root)). slice_get rs k) (sym c.roots.ensures) ∙ sym c.in-Some.ensures.entry in
    let same : bytes_eq path first ≡ true = hit (bytes_eq path first) c.if-ne.ensures in
    subst (λ (v : Version). ArePlaced v root.triggers) (sym c.version.ensures) (first_placed s k path first root at same c.self.invariant.1)
