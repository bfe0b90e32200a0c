use Rattle.std.proofs.Common.{◌≡◌, ◌∙◌, IfErr, IfOk, List, ap, inl, inr, map, refl, subst, true, ℕ}
use Rattle.std.proofs.lemmas.Result.{IfOk-weaker}
use Rattle.clap.specs.Words.{App, Row, app_of, is_simple_and_free}
use Rattle.wm_arguments.specs.Parses.{IsParseOf, MayShow}
use Rattle.wm_client.specs.ClientWords.{FindsFor, wanted_of, wmctl_app}
use Rattle.wm_client.proofs.words.Words.read.Goals as goal

pub returns-in-Ok : goal.returns-in-Ok
returns-in-Ok c =
    let words : List (List ℕ) = map (λ word. word.now) c.args.words.now in
    let simple : is_simple_and_free (app_of c.in_ok-command.command) ≡ true = ap is_simple_and_free c.in_ok-command.ensures ∙ refl in
    let parse : IsParseOf (app_of c.in_ok-command.command) words c.in-Ok.matches =
    subst (λ r. IfOk r (λ m. IsParseOf (app_of c.in_ok-command.command) words m)) c.in-Ok.is (c.in_ok-matches.ensures.found simple) in
    let at : IsParseOf wmctl_app words c.in-Ok.matches = subst (λ (a : App). IsParseOf a words c.in-Ok.matches) c.in_ok-command.ensures parse in
    IfOk-weaker c.chosen.result _ _ (λ r finds. inl (at.0, subst (λ (rows : List Row). FindsFor rows (wanted_of r)) at.1 finds)) c.chosen.ensures

pub returns-in-Err : goal.returns-in-Err
returns-in-Err c =
    let words : List (List ℕ) = map (λ word. word.now) c.args.words.now in
    let simple : is_simple_and_free (app_of c.in_ok-command.command) ≡ true = ap is_simple_and_free c.in_ok-command.ensures ∙ refl in
    let may : MayShow (app_of c.in_ok-command.command) words c.in-Err.shown.status =
    subst (λ r. IfErr r (λ shown. MayShow (app_of c.in_ok-command.command) words shown.status)) c.in-Err.is (c.in_ok-matches.ensures.shown simple) in
    inr (c.in-Err.shown.status, subst (λ (a : App). MayShow a words c.in-Err.shown.status) c.in_ok-command.ensures may, c.instead.ensures)
