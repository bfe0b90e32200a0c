use Rattle.std.proofs.Common.{◌≡◌, ◌∙◌, ◌++◌, codes, ℕ, List, IfSome, Some, refl, rules, subst, suc}
use Rattle.wm_client.specs.Asks.{Asks, AsksWhole}
use Rattle.wm_client.specs.Syncs.{clock_request}
use Rattle.wm_client.specs.Talks.{AppendsStart}
use Rattle.wm_client.specs.Waits.{HasPassed}
use Rattle.wm_client.proofs.Asking.{after_more, whole_there}
use Rattle.wm_client.proofs.Passing.{passed_there}
use Rattle.wm_client.proofs.Sending.{none_sent, one_more_sent}
use Rattle.wm_client.proofs.syncing.ask_root.Goals as goal

pub loop-clock-init : goal.loop-clock-init
loop-clock-init g c = (refl, refl, none_sent _ _, refl, λ input known. (0, input, refl, known))

pub loop-clock-preserved : goal.loop-clock-preserved
loop-clock-preserved g c = (
  c.ask_once.ensures.system ∙ c.loop-clock.invariant.0,
  c.ask_once.ensures.limit ∙ c.loop-clock.invariant.1,
  one_more_sent _ _ _ _ c.loop-clock.invariant.2 (let line : c.deref.result.now ≡ clock_request c.args.root.now = search rules in subst (λ l. AppendsStart (g.S.Write.contents c.loop-clock.sender) (g.S.Write.contents c.ask_once.new.sender) (l ++ codes "\n")) line c.ask_once.ensures.start),
  (c.ask_once.ensures.later (search rules)).2 ∙ c.loop-clock.invariant.3,
  λ input known.
      let before = c.loop-clock.invariant.4 input known in
      let again = c.ask_once.ensures.again (search rules) before.1 before.3 in
      (suc before.0, _, after_more before.0 input before.1 before.2 again.0, again.1),
)

pub returns-in_err-asked-clause-system : goal.returns-in_err-asked-clause-system
returns-in_err-asked-clause-system g c = c.ask_once.ensures.system ∙ c.loop-clock.invariant.0

pub returns-in_err-asked-clause-limit : goal.returns-in_err-asked-clause-limit
returns-in_err-asked-clause-limit g c = c.ask_once.ensures.limit ∙ c.loop-clock.invariant.1

pub returns-in_err-asked-clause-starts : goal.returns-in_err-asked-clause-starts
returns-in_err-asked-clause-starts g c = one_more_sent _ _ _ _ c.loop-clock.invariant.2 (let line : c.deref.result.now ≡ clock_request c.args.root.now = search rules in subst (λ l. AppendsStart (g.S.Write.contents c.loop-clock.sender) (g.S.Write.contents c.ask_once.new.sender) (l ++ codes "\n")) line c.ask_once.ensures.start)

pub returns-in-Some-clause-system : goal.returns-in-Some-clause-system
returns-in-Some-clause-system g c = c.ask_once.ensures.system ∙ c.loop-clock.invariant.0

pub returns-in-Some-clause-limit : goal.returns-in-Some-clause-limit
returns-in-Some-clause-limit g c = c.ask_once.ensures.limit ∙ c.loop-clock.invariant.1

pub returns-in-Some-clause-starts : goal.returns-in-Some-clause-starts
returns-in-Some-clause-starts g c = one_more_sent _ _ _ _ c.loop-clock.invariant.2 (let line : c.deref.result.now ≡ clock_request c.args.root.now = search rules in subst (λ l. AppendsStart (g.S.Write.contents c.loop-clock.sender) (g.S.Write.contents c.ask_once.new.sender) (l ++ codes "\n")) line c.ask_once.ensures.start)

pub returns-in-Some-clause-told : goal.returns-in-Some-clause-told
returns-in-Some-clause-told g c input known =
    let before = c.loop-clock.invariant.4 input known in
    let told : (i : List ℕ) → g.R.Read.remaining c.loop-clock.replies ≡ Some i → Asks i (g.W.Write.contents c.loop-clock.printer) (g.W.Write.contents c.ask_once.new.printer) (g.R.Read.remaining c.ask_once.new.replies) c.in-Some.asked =
    subst (λ r. IfSome r (λ asked. (i : List ℕ) → g.R.Read.remaining c.loop-clock.replies ≡ Some i → Asks i (g.W.Write.contents c.loop-clock.printer) (g.W.Write.contents c.ask_once.new.printer) (g.R.Read.remaining c.ask_once.new.replies) asked)) c.in-Some.is c.in_ok-asked.ensures.told in (
      before.0,
      before.1,
      before.2,
      subst (λ o. Asks before.1 o (g.W.Write.contents c.ask_once.new.printer) (g.R.Read.remaining c.ask_once.new.replies) c.in-Some.asked) c.loop-clock.invariant.3 (told before.1 before.3),
    )

pub returns-in-Some-clause-whole : goal.returns-in-Some-clause-whole
returns-in-Some-clause-whole g c =
    let over : Type 0 = HasPassed (g.Y.SyncSystem.passed c.loop-clock.timer.system.now) c.loop-clock.timer.limit in
    whole_there over _ _ _ _ c.in-Some.asked (passed_there g.Y.SyncSystem.passed _ _ _ _ c.loop-clock.invariant.0 c.loop-clock.invariant.1) c.loop-clock.invariant.3
    (subst (λ r. IfSome r (AsksWhole over (g.W.Write.contents c.loop-clock.printer) (g.W.Write.contents c.ask_once.new.printer))) c.in-Some.is c.in_ok-asked.ensures.whole)

pub returns-in_err-clock-clause-starts : goal.returns-in_err-clock-clause-starts
returns-in_err-clock-clause-starts g c = none_sent _ _
