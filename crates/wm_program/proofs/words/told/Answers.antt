use Rattle.std.proofs.Common.{◌∙◌, sym, ap, Some}
use Rattle.std.proofs.lemmas.Result.{IfOk-weaker}
use Rattle.wm_arguments.specs.ArgumentValues.{text_of}
use Rattle.wm_program.specs.ProgramWords.{program_wanted}
use Rattle.wm_program.proofs.Wanting.{serves_nothing, some≢none}
use Rattle.wm_program.proofs.words.told.Goals as goal

pub returns-in_default : goal.returns-in_default
returns-in_default c = IfOk-weaker c.fault.result _ _ (λ r is. serves_nothing _ _ _ (program_wanted r) is
    (λ f k s f_is k_is told. some≢none f (sym f_is ∙ ap text_of c.in_default.is))) c.fault.ensures

pub returns-in_default-socket : goal.returns-in_default-socket
returns-in_default-socket c = IfOk-weaker c.fault-in_default-socket.result _ _ (λ r is. serves_nothing _ _ _ (program_wanted r) is
    (λ f k s f_is k_is told. some≢none k (sym k_is ∙ ap text_of c.in_default-socket.is))) c.fault-in_default-socket.ensures

pub returns-in_default-settings : goal.returns-in_default-settings
returns-in_default-settings c = IfOk-weaker c.fault-in_default-settings.result _ _ (λ r is. serves_nothing _ _ _ (program_wanted r) is
    (λ f k s f_is k_is told. some≢none s (sym told ∙ c.in_default-settings.is))) c.fault-in_default-settings.ensures

pub returns : goal.returns
returns c = (
  ap text_of c.in-Some.is ∙ ap (λ t. Some t) (sym c.in_ok-file.ensures.ok),
  ap text_of c.in-Some-socket.is ∙ ap (λ t. Some t) (sym c.in_ok-socket.ensures.ok),
  c.in-Some-settings.is,
)
