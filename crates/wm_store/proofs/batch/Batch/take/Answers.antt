use Rattle.std.proofs.Common.{◌++◌, ◌∷◌, [], refl, ◌∙◌, ap, arith, vec_len}
use Rattle.wm_store.specs.declared.batch.Batch.{Batch}
use Rattle.wm_store.proofs.Batching.{keeps_room}
use Rattle.wm_store.proofs.Taking.{past_taken, ready_taken, slot_taken, so_far_taken, taken_answered}
use Rattle.wm_store.proofs.batch.Batch.take.Goals as goal

pub returns : goal.returns
returns g c =
    let D = g.D.Disk in
    let old = c.args.keeper.now in
    let new = c.admit.new.keeper in
    let a = c.args.self.now in
    let b = c.admit.new.self in
    let e = c.push.new.self in
    let command = c.args.command in
    let reply = c.answer-reply.result in
    let next = c.answer-reply.new.next in
    let mid : Batch g.row.V.Denot = record b { next = next } in
    let m = c.in-Ok.ensures in
    let p = c.push.ensures in
    let t = taken_answered D g.V.Layout.sizes g.V.Filed.version command old a new b reply next c.in-Ok.refusal c.requires.refused m.goes_on.same.0 m.asked m.refused c.answer-reply.ensures.refused c.answer-reply.ensures.asked in
    record {
      met = record {
        ready = ready_taken D g.V.Layout.sizes g.V.Filed.version command old a new b mid e reply next t m.goes_on.ready m.goes_on.same.0 refl refl refl p;
        reply = reply;
        replies = p.replies ∙ ap (λ v. v.items ++ (reply ∷ [])) m.goes_on.same.1;
        len = omega (arith, p.len, ap (λ v. vec_len v) m.goes_on.same.1);
        room = keeps_room a b e m.goes_on.room (record { replies = p.room.replies; group = p.room.group });
        idle = t.idle;
        past = λ start done q. past_taken D g.V.Layout.sizes g.V.Filed.version start done new b mid e command reply (m.goes_on.past start done q) refl refl refl refl p;
        so_far = λ start done q f. so_far_taken D g.V.Layout.sizes g.V.Filed.version start done command old a new b mid e reply next t q c.requires.ready m.goes_on.same.1 refl refl refl p f;
        slot = λ start done q was. slot_taken D g.V.Layout.sizes g.V.Filed.version start done command old a new b mid e reply next t q m.goes_on.same.1 refl refl p was;
      };
      cut = tt;
      keeper = record { calls = m.keeper.calls; whole = m.keeper.whole; down = tt };
    }
