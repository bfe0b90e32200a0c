use Rattle.std.proofs.Common.{◌≡◌, ◌∙◌, ⊎_elim, inl, inr, refl, sym, ap, subst, List, suc, ◌+◌, ◌++◌, ◌∷◌, length, take, drop, map, append-nil, append_assoc, arith, vec_len}
use Rattle.std.specs.Prelude.{[]}
use Rattle.std.proofs.lemmas.Iterator.Adapters.{YieldsList-from_skip, YieldsList-from_vec}
use Rattle.std.proofs.lemmas.Iterator.Consumers.{YieldsList-turn, YieldsList-so_far, YieldsList-end}
use Rattle.std.proofs.lemmas.List.{map-id, take-append-drop}
use Rattle.std.proofs.lemmas.Result.{IfErr-weaker, IfOk-weaker, on_err_weaker, on_ok_weaker}
use Rattle.wm_registry.specs.declared.command.Command.{Command}
use Rattle.wm_store.specs.UnderWay.{WentDown, IsWhole}
use Rattle.wm_store.proofs.Batching.{calls_more, calls_then, down_then, whole_then}
use Rattle.wm_store.proofs.Endings.{IsUnderWay, at_turn_behind, cut_at, cut_last, idle_yet, len_behind, one_more}
use Rattle.wm_store.proofs.batch.run.Goals as goal

pub loop-command-init : goal.loop-command-init
loop-command-init g c =
    let all = c.args.commands.items in
    let start = c.args.keeper.now in
    subst (λ (done : List Command). IsUnderWay g.D.Disk g.V.Layout.sizes g.V.Filed.version start all done start c.args.batch) (sym (append-nil (take (vec_len c.args.batch.replies) all)))
    (idle_yet g.D.Disk g.V.Layout.sizes g.V.Filed.version start all c.args.batch c.requires.kept c.requires.whole c.requires.version c.requires.idle c.requires.new c.requires.standing)

pub loop-command-preserved : goal.loop-command-preserved
loop-command-preserved g c =
    let l = c.loop-command in
    let m = c.in-Ok.ensures in
    let all = c.args.commands.items in
    let first = take (vec_len c.args.batch.replies) all in
    subst (λ (done : List Command). IsUnderWay g.D.Disk g.V.Layout.sizes g.V.Filed.version c.args.keeper.now all done c.take.new.keeper c.take.new.self) (append_assoc first l.yielded (c.in-Some.command ∷ []))
    (one_more g.D.Disk g.V.Layout.sizes g.V.Filed.version c.args.keeper.now all (first ++ l.yielded) l.keeper c.take.new.keeper l.batch c.take.new.self c.in-Some.command l.invariant m.met m.keeper.calls m.keeper.whole)

pub take-requires : goal.take-requires
take-requires g c =
    let all = c.args.commands.items in
    let l = c.loop-command in
    let n = vec_len c.args.batch.replies in
    let given = c.into_iter-command-iterator.ensures.into_iter_gives in
    let skip = c.skip-command-items.ensures in
    let road = YieldsList-from_skip {s = c.into_iter-command-iterator.result} n
    (YieldsList-from_vec {s = c.into_iter-command-iterator.result.iter} all
    (ap (λ x. x.iter.rest.items) given ∙ ap (λ x. x.rest.items) skip.source ∙ c.into_iter.ensures.rest)
    (ap (λ x. x.iter.rest.len) given ∙ ap (λ x. x.rest.len) skip.source ∙ c.into_iter.ensures.len ∙ c.args.commands.ok.0))
    (ap (λ x. x.n) given ∙ skip.count ∙ c.len-answered.ensures) in
    let turn = YieldsList-turn road l.yielded l.command-iterator l.yielded_by c.next.result c.next.new.self c.in-Some.command c.in-Some.is c.next.ensures.steps in
    let u = l.invariant in
    let len = len_behind n all l.yielded c.requires.idle.within in
    record {
      ready = u.ready;
      refused = ⊎_elim (λ h. inl h.0) (λ w. inr (⊎_elim (λ h. inl h.0) (λ h. inr h.0) w)) u.so_far;
      room = record { replies = omega (arith, u.len, u.replies, turn.0, len.0, len.1); group = omega (arith, u.len, u.group, turn.0, len.0, len.1) };
    }

pub returns-in_default : goal.returns-in_default
returns-in_default g c =
    let D = g.D.Disk in
    let start = c.args.keeper.now in
    let all = c.args.commands.items in
    let l = c.loop-command in
    let seen = l.yielded in
    let new = c.take.new.keeper in
    let command = c.in-Some.command in
    let n = vec_len c.args.batch.replies in
    let given = c.into_iter-command-iterator.ensures.into_iter_gives in
    let skip = c.skip-command-items.ensures in
    let road = YieldsList-from_skip {s = c.into_iter-command-iterator.result} n
    (YieldsList-from_vec {s = c.into_iter-command-iterator.result.iter} all
    (ap (λ x. x.iter.rest.items) given ∙ ap (λ x. x.rest.items) skip.source ∙ c.into_iter.ensures.rest)
    (ap (λ x. x.iter.rest.len) given ∙ ap (λ x. x.rest.len) skip.source ∙ c.into_iter.ensures.len ∙ c.args.commands.ok.0))
    (ap (λ x. x.n) given ∙ skip.count ∙ c.len-answered.ensures) in
    let behind = drop n all in
    let done = take n all ++ seen in
    let front : map (λ x. x) seen ≡ take (length seen) behind = YieldsList-so_far road seen l.command-iterator l.yielded_by in
    let turn = YieldsList-turn road seen l.command-iterator l.yielded_by c.next.result c.next.new.self command c.in-Some.is c.next.ensures.steps in
    let u = l.invariant in
    let m = c.in_default.ensures in
    let len = len_behind n all seen c.requires.idle.within in
    record {
      done = tt;
      cut = cut_at D g.V.Layout.sizes g.V.Filed.version start all done l.keeper new l.batch command (drop (suc (length seen)) behind) c.take.new.self.before u (at_turn_behind n all seen command (sym (map-id seen) ∙ front) turn.0 turn.1) (m.cut.cut start done u.past) m.cut.open_yet m.cut.plain m.cut.accepted;
      keeper = record {
        calls = calls_more D g.V.Layout.sizes g.V.Filed.version (length done + 1) (length all) start new (omega (arith, turn.0, len.0, len.1)) (calls_then D g.V.Layout.sizes g.V.Filed.version (length done) 1 start l.keeper new u.calls m.keeper.calls);
        whole = tt;
        down = down_then D g.V.Layout.sizes g.V.Filed.version start l.keeper new u.whole m.keeper.down;
      };
    }

pub finish-requires : goal.finish-requires
finish-requires g c =
    let u = c.loop-command.invariant in
    record { ready = u.ready; first = omega (arith, u.past.first, u.past.len, u.len) }

pub returns : goal.returns
returns g c =
    let D = g.D.Disk in
    let start = c.args.keeper.now in
    let all = c.args.commands.items in
    let l = c.loop-command in
    let old = l.keeper in
    let new = c.finish.new.keeper in
    let r = c.finish.result in
    let f = c.finish.ensures in
    let n = vec_len c.args.batch.replies in
    let given = c.into_iter-command-iterator.ensures.into_iter_gives in
    let skip = c.skip-command-items.ensures in
    let road = YieldsList-from_skip {s = c.into_iter-command-iterator.result} n
    (YieldsList-from_vec {s = c.into_iter-command-iterator.result.iter} all
    (ap (λ x. x.iter.rest.items) given ∙ ap (λ x. x.rest.items) skip.source ∙ c.into_iter.ensures.rest)
    (ap (λ x. x.iter.rest.len) given ∙ ap (λ x. x.rest.len) skip.source ∙ c.into_iter.ensures.len ∙ c.args.commands.ok.0))
    (ap (λ x. x.n) given ∙ skip.count ∙ c.len-answered.ensures) in
    let behind = drop n all in
    let end : (map (λ x. x) l.yielded ≡ behind) × (length l.yielded ≡ length behind) = YieldsList-end road l.yielded l.command-iterator l.yielded_by c.next.result c.next.new.self c.in-None.is c.next.ensures.steps in
    let ended : take n all ++ l.yielded ≡ all = ap (λ (x : List Command). take n all ++ x) (sym (map-id l.yielded) ∙ end.0) ∙ take-append-drop n all in
    let u : IsUnderWay D g.V.Layout.sizes g.V.Filed.version start all all old l.batch = subst (λ (cs : List Command). IsUnderWay D g.V.Layout.sizes g.V.Filed.version start all cs old l.batch) ended l.invariant in
    record {
      done = IfOk-weaker r _ _ (λ replies h. h start all u.past u.so_far u.idle u.slot) f.done;
      cut = IfErr-weaker r _ _ (λ before h. cut_last D g.V.Layout.sizes g.V.Filed.version start all all old new l.batch before u refl (h.cut start all u.past) h.some) f.cut;
      keeper = record {
        calls = calls_more D g.V.Layout.sizes g.V.Filed.version (length all + 0) (length all) start new (omega arith) (calls_then D g.V.Layout.sizes g.V.Filed.version (length all) 0 start old new u.calls f.keeper.calls);
        whole = on_ok_weaker r (λ (w : IsWhole D g.V.Layout.sizes g.V.Filed.version old new). whole_then D g.V.Layout.sizes g.V.Filed.version start old new u.whole w) f.keeper.whole;
        down = on_err_weaker r (λ (w : WentDown D g.V.Layout.sizes g.V.Filed.version old new). down_then D g.V.Layout.sizes g.V.Filed.version start old new u.whole w) f.keeper.down;
      };
    }
