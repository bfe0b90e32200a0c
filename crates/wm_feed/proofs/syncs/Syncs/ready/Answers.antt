use Rattle.std.proofs.Common.{◌≡◌, ◌<◌, Bool, length, map, get_or, string_bytes, sym, ap, ◌∙◌, arith}
use Rattle.std.proofs.lemmas.List.{length-map}
use Rattle.wm_feed.specs.Once.{with_text_once}
use Rattle.wm_feed.specs.Records.{Bytes}
use Rattle.wm_feed.specs.Syncs.{is_sync_ready, sync_names}
use Rattle.wm_feed.proofs.Once.{once_fail, once_pass}
use Rattle.wm_feed.proofs.Telling.{name_at}
use Rattle.wm_feed.proofs.syncs.Syncs.ready.Goals as goal
use Rattle.wm_feed.proofs.syncs.Syncs.ready.Goals.{then-is_ready+in_ok-add_name, else-is_ready}

pub loop-one-preserved : goal.loop-one-preserved
loop-one-preserved c =
    let told = c.deref-one-items.result.now in
    let one = c.one-item.result in
    let i = c.loop-one.one-index in
    let p : Bytes → Bool = λ name. is_sync_ready c.args.self.now.answered name c.args.watches.now told in
    let low : i < length (sync_names told) = omega (arith, c.loop-one-test.true, length-map told (λ x. x.name)) in
    let here : one.name ≡ get_or (sync_names told) i one.name = name_at told i one c.loop-one-test.true c.one-item.is in
    let known = c.deref-one-items.ensures.value ∙ ap (λ s. s.told) c.self.view_is in
    elim c.if-is_ready.branch [
      | then-is_ready+in_ok-add_name w ↦
          ap (λ v. map string_bytes v.items) w.ready-is
          ∙ w.in_ok-add_name.ensures
          ∙ ap (λ n. with_text_once n (map string_bytes c.loop-one.ready.items)) w.name-then-is_ready.ensures
          ∙ ap (with_text_once one.name) c.loop-one.invariant
          ∙ once_pass p (sync_names told) i one.name low here (ap (is_sync_ready c.args.self.now.answered one.name c.args.watches.now) known ∙ ap (λ n. is_sync_ready c.args.self.now.answered n c.args.watches.now c.args.self.now.told) (sym c.name.ensures) ∙ sym c.is_ready.ensures ∙ w.if-is_ready.true)
      | else-is_ready w ↦
          ap (λ v. map string_bytes v.items) w.ready-is
          ∙ c.loop-one.invariant
          ∙ once_fail p (sync_names told) i one.name low here (ap (is_sync_ready c.args.self.now.answered one.name c.args.watches.now) known ∙ ap (λ n. is_sync_ready c.args.self.now.answered n c.args.watches.now c.args.self.now.told) (sym c.name.ensures) ∙ sym c.is_ready.ensures ∙ w.if-is_ready.false)
    ]
