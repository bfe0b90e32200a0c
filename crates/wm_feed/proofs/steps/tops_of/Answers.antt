use Rattle.std.proofs.Common.{◌≡◌, ◌+◌, ◌≤◌, [], ◌∷◌, ◌++◌, length, take, true, false, sym, ap, subst, ◌∙◌, arith, length-append}
use Rattle.std.proofs.lemmas.Bool.{le-ltb, lt-ltb}
use Rattle.std.proofs.lemmas.List.{take_all}
use Rattle.wm_feed.specs.Steps.{is_below_any, tops}
use Rattle.wm_feed.proofs.Below.{AreTops, many_at, no_tops, push_at, skip_at}
use Rattle.wm_feed.proofs.steps.tops_of.Goals as goal

pub loop-folder-init : goal.loop-folder-init
loop-folder-init c = record { are = rw c.new-tops.ensures.items (no_tops c.args.folders.now); few = omega (arith, ap length c.new-tops.ensures.items) }

pub loop-folder-preserved-then-is_below_any : goal.loop-folder-preserved-then-is_below_any
loop-folder-preserved-then-is_below_any c =
    let f = c.folder-item.result in
    let below : is_below_any f c.loop-folder.tops.items ≡ true = ap (is_below_any f) (sym c.deref.ensures.value) ∙ sym c.is_below_any.ensures ∙ c.if-is_below_any.true in
    record {
      are = skip_at c.args.folders.now c.loop-folder.folder-index f c.loop-folder.tops.items c.requires c.loop-folder.invariant.are c.loop-folder-test.true c.folder-item.is below;
      few = c.loop-folder.invariant.few;
    }

pub returns-then-len-ge-MAX_CRAWLS : goal.returns-then-len-ge-MAX_CRAWLS
returns-then-len-ge-MAX_CRAWLS c =
    let f = c.folder-item.result in
    let below : is_below_any f c.loop-folder.tops.items ≡ false = ap (is_below_any f) (sym c.deref.ensures.value) ∙ sym c.is_below_any.ensures ∙ c.if-is_below_any.false in
    let many = many_at c.args.folders.now c.loop-folder.folder-index f c.loop-folder.tops.items c.requires c.loop-folder.invariant.are c.loop-folder-test.true c.folder-item.is below in
    lt-ltb 1024 (length (tops c.args.folders.now)) (omega (arith, many, c.loop-folder.tops.ok))

pub loop-folder-preserved : goal.loop-folder-preserved
loop-folder-preserved c =
    let f = c.folder-item.result in
    let found = c.loop-folder.tops.items in
    let below : is_below_any f found ≡ false = ap (is_below_any f) (sym c.deref.ensures.value) ∙ sym c.is_below_any.ensures ∙ c.if-is_below_any.false in
    let are = push_at c.args.folders.now c.loop-folder.folder-index f found c.requires c.loop-folder.invariant.are c.loop-folder-test.true c.folder-item.is below in
    let items = c.in_ok-push.ensures.items ∙ ap (λ p. found ++ p ∷ []) c.in_ok-copy.ensures in
    record {
      are = subst (AreTops c.args.folders.now (take (c.loop-folder.folder-index + 1) c.args.folders.now)) (sym items) are;
      few = omega (arith, ap length items, length-append found (f ∷ []), c.loop-folder.tops.ok);
    }

pub returns : goal.returns
returns c =
    let folders = c.args.folders.now in
    let found = c.loop-folder.tops.items in
    let all : take c.loop-folder.folder-index folders ≡ folders = take_all c.loop-folder.folder-index folders (omega arith) in
    let are : AreTops folders folders found = subst (λ s. AreTops folders s found) all c.loop-folder.invariant.are in
    let few : length (tops folders) ≤ 1024 = omega (arith, ap length are.among, c.loop-folder.invariant.few) in
    (are.among, le-ltb 1024 (length (tops folders)) few, are.below)
