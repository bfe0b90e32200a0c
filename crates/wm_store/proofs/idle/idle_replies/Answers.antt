use Rattle.std.proofs.Common.{◌≡◌, ◌+◌, sym, ◌∙◌, ap, subst, arith, ℕ, List, [], ◌∷◌, ◌++◌, take, vec_len}
use Rattle.std.proofs.lemmas.List.{take_more}
use Rattle.wm_registry.specs.declared.command.Command.{Command}
use Rattle.wm_registry.specs.declared.reply.Reply.{Reply}
use Rattle.wm_store.specs.Batches.{accepted_of}
use Rattle.wm_store.specs.UnderWay.{AreMet}
use Rattle.wm_store.proofs.Replying.{idle_more}
use Rattle.wm_store.proofs.idle.idle_replies.Goals as goal

pub loop-command-init : goal.loop-command-init
loop-command-init c =
    let v = c.in_ok-replies.ensures in
    let all = c.args.commands.now in
    let none : take (vec_len c.in_ok-replies.replies) all ≡ [] = ap (λ (n : ℕ). take n all) v.len in (
      v.len,
      record {
        within = omega (arith, v.len);
        met = subst (λ (cs : List Command). AreMet c.args.registry.now cs c.in_ok-replies.replies.items) (sym none) (subst (λ (rs : List Reply). AreMet c.args.registry.now [] rs) (sym v.items) tt);
        none = ap (λ (cs : List Command). accepted_of cs c.in_ok-replies.replies.items) none;
        room = v.exact;
      },
    )

pub returns-then-is_change : goal.returns-then-is_change
returns-then-is_change c = c.loop-command.invariant.1

pub push_reserved-requires : goal.push_reserved-requires
push_reserved-requires c = let i = c.loop-command.invariant in omega (arith, i.0, i.1.room, c.loop-command-test.true)

pub loop-command-preserved : goal.loop-command-preserved
loop-command-preserved c =
    let all = c.args.commands.now in
    let n = c.loop-command.command-index in
    let command = c.command-item.result in
    let reply = c.reply_in_batch-reply.result in
    let i = c.loop-command.invariant in
    let old = c.loop-command.replies in
    let p = c.push_reserved.ensures in
    let len : vec_len c.push_reserved.new.self ≡ vec_len old + 1 = p.len in
    let turn : take (vec_len c.push_reserved.new.self) all ≡ take (vec_len old) all ++ (command ∷ []) =
    ap (λ (k : ℕ). take k all) (len ∙ ap (λ (k : ℕ). k + 1) i.0)
    ∙ take_more all n command c.loop-command-test.true
    ∙ ap (λ (x : Command). take n all ++ (x ∷ [])) (sym c.command-item.is)
    ∙ ap (λ (k : ℕ). take k all ++ (command ∷ [])) (sym i.0) in
    let more = idle_more c.args.registry.now (take (vec_len old) all) old.items command reply i.1.met i.1.none c.reply_in_batch-reply.ensures (sym c.if-is_change.ensures) in (
      omega (arith, len, i.0),
      record {
        within = omega (arith, len, i.0, c.loop-command-test.true);
        met = subst (λ (rs : List Reply). AreMet c.args.registry.now (take (vec_len c.push_reserved.new.self) all) rs) (sym p.items) (subst (λ (cs : List Command). AreMet c.args.registry.now cs (old.items ++ (reply ∷ []))) (sym turn) more.0);
        none = ap (λ (rs : List Reply). accepted_of (take (vec_len c.push_reserved.new.self) all) rs) p.items ∙ ap (λ (cs : List Command). accepted_of cs (old.items ++ (reply ∷ []))) turn ∙ more.1;
        room = p.capacity ∙ i.1.room;
      },
    )

pub returns : goal.returns
returns c = c.loop-command.invariant.1
