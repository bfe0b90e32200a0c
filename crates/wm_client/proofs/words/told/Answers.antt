use Rattle.std.proofs.Common.{sym, ap, ◌∙◌, Some, true≢false}
use Rattle.std.specs.Prelude.{◌==◌}
use Rattle.std.specs.List.{list_any}
use Rattle.std.proofs.lemmas.Result.{IfOk-weaker}
use Rattle.wm_arguments.specs.ArgumentValues.{text_of}
use Rattle.wm_client.specs.ClientWords.{wanted_of}
use Rattle.wm_client.proofs.Wanting.{some≢none, some_same, tells_nothing}
use Rattle.wm_client.proofs.words.told.Goals as goal

pub returns-in_default : goal.returns-in_default
returns-in_default c s t sync = IfOk-weaker c.fault.result _ _ (λ r is.
    tells_nothing _ _ _ s t (wanted_of r) is (λ a j n o tells. some≢none a (sym tells.socket_is ∙ ap text_of c.in_default.is))) c.fault.ensures

pub returns-in_default-json : goal.returns-in_default-json
returns-in_default-json c s t sync = IfOk-weaker c.fault-in_default-json.result _ _ (λ r is.
    tells_nothing _ _ _ s t (wanted_of r) is (λ a j n o tells. some≢none j (sym tells.json_is ∙ ap text_of c.in_default-json.is))) c.fault-in_default-json.ensures

pub returns-then-contains : goal.returns-then-contains
returns-then-contains c s t sync =
    let has = ap (list_any (λ byte. byte == 10)) (sym c.as_bytes.ensures.value) ∙ sym c.contains.ensures.value ∙ c.if-contains.true in
    IfOk-weaker c.fault-then-contains.result _ _ (λ r is. tells_nothing _ _ _ s t (wanted_of r) is
    (λ a j n o tells. true≢false (sym has ∙ ap (list_any (λ byte. byte == 10)) (some_same c.in-Some-json.json.now j (sym (ap text_of c.in-Some-json.is) ∙ tells.json_is)) ∙ tells.one_line)))
    c.fault-then-contains.ensures

pub returns-in_default-number_of : goal.returns-in_default-number_of
returns-in_default-number_of c s t sync = IfOk-weaker c.fault-in_default-number_of.result _ _ (λ r is.
    tells_nothing _ _ _ s t (wanted_of r) is (λ a j n o tells. c.in_default-number_of.ensures n tells.follow_is)) c.fault-in_default-number_of.ensures

pub returns : goal.returns
returns c s t sync = record {
  socket_is = ap text_of c.in-Some.is ∙ ap (λ t. Some t) (sym c.in_ok-socket.ensures.ok);
  json_is = ap text_of c.in-Some-json.is ∙ ap (λ t. Some t) (sym c.in_ok-json.ensures.ok);
  one_line = ap (list_any (λ byte. byte == 10)) (c.in_ok-json.ensures.ok ∙ sym c.as_bytes.ensures.value) ∙ sym c.contains.ensures.value ∙ c.if-contains.false;
  follow_is = c.in-Some-number_of.ensures;
  sync_is = sync;
}
