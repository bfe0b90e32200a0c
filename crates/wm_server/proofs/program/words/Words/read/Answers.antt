use Rattle.std.proofs.Common.{◌≡◌, ◌∙◌, IfErr, IfOk, List, ap, is_some, map, sym, subst, true, ℕ}
use Rattle.std.proofs.lemmas.Result.{IfOk-weaker}
use Rattle.clap.specs.Words.{app_of, is_simple_and_free}
use Rattle.wm_arguments.specs.Parses.{IsParseOf, MayShow}
use Rattle.wm_server.specs.program.Words.{asked, asked_of}
use Rattle.wm_server.proofs.lemmas.program.WordLemmas.{is_free_app, parse_asked, shown_asked, some_same}
use Rattle.wm_server.proofs.program.words.Words.read.Goals as goal

pub chosen-requires : goal.chosen-requires
chosen-requires c =
    let words : List (List ℕ) = map (λ word. word.now) c.args.words.now in
    let simple : is_simple_and_free (app_of c.in_ok-command.command) ≡ true = ap is_simple_and_free c.in_ok-command.ensures ∙ is_free_app in
    let parse : IsParseOf (app_of c.in_ok-command.command) words c.in-Ok.matches =
    subst (λ r. IfOk r (λ m. IsParseOf (app_of c.in_ok-command.command) words m)) c.in-Ok.is (c.in_ok-matches.ensures.found simple) in
    ap is_some (parse_asked (app_of c.in_ok-command.command) words c.in-Ok.matches c.in_ok-command.ensures parse)

pub returns-in-Ok : goal.returns-in-Ok
returns-in-Ok c =
    let words : List (List ℕ) = map (λ word. word.now) c.args.words.now in
    let simple : is_simple_and_free (app_of c.in_ok-command.command) ≡ true = ap is_simple_and_free c.in_ok-command.ensures ∙ is_free_app in
    let parse : IsParseOf (app_of c.in_ok-command.command) words c.in-Ok.matches =
    subst (λ r. IfOk r (λ m. IsParseOf (app_of c.in_ok-command.command) words m)) c.in-Ok.is (c.in_ok-matches.ensures.found simple) in
    let met = parse_asked (app_of c.in_ok-command.command) words c.in-Ok.matches c.in_ok-command.ensures parse in
    IfOk-weaker c.chosen.result _ _ (λ r says. some_same (asked_of r) (asked words) (sym says ∙ met)) c.chosen.ensures

pub returns-in-Err : goal.returns-in-Err
returns-in-Err c =
    let words : List (List ℕ) = map (λ word. word.now) c.args.words.now in
    let simple : is_simple_and_free (app_of c.in_ok-command.command) ≡ true = ap is_simple_and_free c.in_ok-command.ensures ∙ is_free_app in
    let may : MayShow (app_of c.in_ok-command.command) words c.in-Err.shown.status =
    subst (λ r. IfErr r (λ shown. MayShow (app_of c.in_ok-command.command) words shown.status)) c.in-Err.is (c.in_ok-matches.ensures.shown simple) in
    c.instead.ensures ∙ shown_asked (app_of c.in_ok-command.command) words c.in-Err.shown.status c.in_ok-command.ensures may
