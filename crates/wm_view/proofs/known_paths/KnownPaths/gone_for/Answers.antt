use Rattle.std.proofs.Common.{◌≡◌, ◌∷◌, [], ◌++◌, Some, None, sym, ap, ◌∙◌, append_assoc, append-nil}
use Rattle.std.specs.FinMap.{find}
use Rattle.std.specs.Map.Iter.{deref}
use Rattle.std.proofs.lemmas.Map.Iter.{rest_more, rest_all}
use Rattle.wm_names.specs.Paths.{path_cmp}
use Rattle.wm_view.specs.KnownPaths.{told, add_known}
use Rattle.wm_view.specs.Steps.{is_gone_for}
use Rattle.wm_view.proofs.Ageing.{picked, if_passes, pick, no_pick, gone_is}
use Rattle.wm_view.proofs.known_paths.KnownPaths.gone_for.Goals as goal

pub loop-path-preserved-in-Continue-branch-2 : goal.loop-path-preserved-in-Continue-branch-2
loop-path-preserved-in-Continue-branch-2 c =
    let p = c.in-Some.path.now in
    let rest = c.next.new.self in
    let ks = told c.args.self.now in
    let w = is_gone_for c.args.time c.args.age in
    let out = c.loop-path.aged.items in
    let k = c.known_or-known.result in
    let e : c.loop-path.path-iterator ≡ p ∷ rest = rest_more deref _ _ _ c.in-Some.path c.in-Some.is c.next.ensures.steps in
    let f : Some k ≡ if_passes w (find path_cmp p ks) = pick c.args.time c.args.age c.args.self.now p k c.requires c.known_or-known.ensures (sym c.is_told_gone.ensures ∙ c.if-is_told_gone.true) in
    ap (λ m. m ++ picked w ks rest) (c.in_ok-push.ensures.items ∙ ap (λ q. out ++ (q, k) ∷ []) c.in_ok-path.ensures)
    ∙ append_assoc out ((p, k) ∷ []) (picked w ks rest)
    ∙ ap (λ g. out ++ add_known p g (picked w ks rest)) f
    ∙ ap (λ m. out ++ picked w ks m) (sym e)
    ∙ c.loop-path.invariant

pub loop-path-preserved : goal.loop-path-preserved
loop-path-preserved c =
    let p = c.in-Some.path.now in
    let rest = c.next.new.self in
    let ks = told c.args.self.now in
    let w = is_gone_for c.args.time c.args.age in
    let out = c.loop-path.aged.items in
    let k = c.known_or-known.result in
    let e : c.loop-path.path-iterator ≡ p ∷ rest = rest_more deref _ _ _ c.in-Some.path c.in-Some.is c.next.ensures.steps in
    let f : None ≡ if_passes w (find path_cmp p ks) = no_pick c.args.time c.args.age c.args.self.now p k c.requires c.known_or-known.ensures (sym c.is_told_gone.ensures ∙ c.if-is_told_gone.false) in
    ap (λ g. out ++ add_known p g (picked w ks rest)) f
    ∙ ap (λ m. out ++ picked w ks m) (sym e)
    ∙ c.loop-path.invariant

pub returns : goal.returns
returns c =
    let ks = told c.args.self.now in
    let w = is_gone_for c.args.time c.args.age in
    let e : c.loop-path.path-iterator ≡ [] = rest_all deref _ _ _ c.in-None.is c.next.ensures.steps in
    sym (append-nil c.loop-path.aged.items)
    ∙ ap (λ m. c.loop-path.aged.items ++ picked w ks m) (sym e)
    ∙ c.loop-path.invariant
    ∙ gone_is c.args.self.now c.args.time c.args.age c.requires
