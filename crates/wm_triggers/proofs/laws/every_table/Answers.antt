use Rattle.wm_triggers.proofs.Gone.{defined_may_start, ended_is_gone, never_started_again, others_stand, removed_is_gone, replaced_is_gone}
use Rattle.wm_triggers.proofs.laws.every_table.Goals as goal

pub returns-clause-never : goal.returns-clause-never
returns-clause-never c = never_started_again

pub returns-clause-removed : goal.returns-clause-removed
returns-clause-removed c = removed_is_gone

pub returns-clause-replaced : goal.returns-clause-replaced
returns-clause-replaced c = replaced_is_gone

pub returns-clause-ended : goal.returns-clause-ended
returns-clause-ended c = ended_is_gone

pub returns-clause-defined : goal.returns-clause-defined
returns-clause-defined c = defined_may_start

pub returns-clause-others : goal.returns-clause-others
returns-clause-others c = others_stand
