use Rattle.std.proofs.Common.{IfErr, Option, codes, rules, subst}
use Rattle.std.proofs.lemmas.Result.{IfOk-weaker}
use Rattle.clap.specs.Words.{first_of, found_of, rows_of}
use Rattle.wm_arguments.specs.ArgumentValues.{text_of}
use Rattle.wm_client.specs.ClientWords.{SyncWanted, TellsSync, wanted_of}
use Rattle.wm_client.proofs.Wanting.{tells_nothing}
use Rattle.wm_client.proofs.words.chosen.Goals as goal

pub returns : goal.returns
returns c = IfOk-weaker c.told.result _ _
    (λ r tells. rw (c.word_of.ensures, c.word_of-2.ensures, c.word_of-3.ensures, c.word_of-4.ensures, c.word_of-5.ensures) at tells)
    (c.told.ensures (text_of c.word_of.result) (text_of c.word_of-2.result) (search rules))

pub returns-in-Err : goal.returns-in-Err
returns-in-Err c =
    let none : (o : Option SyncWanted) → TellsSync (text_of c.word_of.result) (text_of c.word_of-2.result) o → ⊥ =
    subst (λ r. IfErr r (λ _. (o : Option SyncWanted) → TellsSync (text_of c.word_of.result) (text_of c.word_of-2.result) o → ⊥)) c.in-Err.is c.in_ok-sync.ensures.wrong in
    let rows = rows_of (found_of c.args.matches.now) in
    IfOk-weaker c.fault.result _ _ (λ r is. rw (c.word_of.ensures, c.word_of-2.ensures) at
    (tells_nothing (first_of (codes "SOCKET") rows) (first_of (codes "JSON") rows) (first_of (codes "follow") rows) (text_of c.word_of.result) (text_of c.word_of-2.result) (wanted_of r) is
    (λ a j n o tells. none o tells.sync_is))) c.fault.ensures
