use Rattle.std.proofs.lemmas.Result.{IfOk-weaker}
use Rattle.wm_arguments.specs.ArgumentValues.{text_of}
use Rattle.wm_program.specs.ProgramWords.{TellsSettings, program_wanted}
use Rattle.wm_program.proofs.Wanting.{by_settings}
use Rattle.wm_program.proofs.words.served.Goals as goal

pub returns : goal.returns
returns c =
    let tells = TellsSettings (text_of c.word_of.result) (text_of c.word_of-2.result) (text_of c.word_of-3.result) (text_of c.word_of-4.result) (text_of c.word_of-5.result) in
    IfOk-weaker c.told.result _ _ (λ r serves.
    rw (c.word_of.ensures, c.word_of-2.ensures, c.word_of-3.ensures, c.word_of-4.ensures, c.word_of-5.ensures, c.word_of-6.ensures, c.word_of-7.ensures) at
    (by_settings tells c.settings_of-settings.result (text_of c.word_of-6.result) (text_of c.word_of-7.result) (program_wanted r) c.settings_of-settings.ensures serves)) c.told.ensures
