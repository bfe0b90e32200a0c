use Rattle.std.proofs.Common.{sym, ap, refl, subst, ◌∙◌, Some}
use Rattle.std.proofs.lemmas.Result.{IfOk-weaker}
use Rattle.wm_arguments.specs.ArgumentValues.{text_of}
use Rattle.wm_client.specs.FeedWords.{FeedTellsOf}
use Rattle.wm_client.proofs.feed_words.told.Goals as goal

pub returns-in_default : goal.returns-in_default
returns-in_default c = IfOk-weaker c.fault.result _ _ (λ r is.
    subst (FeedTellsOf (text_of c.args.socket) (text_of c.args.root) (text_of c.args.every_event)) (sym is) (refl, ap text_of c.in_default.is)) c.fault.ensures

pub returns : goal.returns
returns c = (
  ap text_of c.in-Some.is ∙ ap (λ t. Some t) (sym c.in_ok-socket.ensures.ok),
  c.in_ok-root.ensures,
  c.is_set-is_every_event.ensures,
)
