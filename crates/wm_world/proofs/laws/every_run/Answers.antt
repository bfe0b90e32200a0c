use Rattle.wm_world.proofs.Bounds.{slot_bound}
use Rattle.wm_world.proofs.Kept.{acknowledged_stays, kept_stays, migration_finds, nothing_invented, restart_finds}
use Rattle.wm_world.proofs.Moments.{in_range, one_moment, one_moment_of_answers}
use Rattle.wm_world.proofs.Owners.{clients_hold}
use Rattle.wm_world.proofs.Reached.{pending_is_own}
use Rattle.wm_world.proofs.Shapes.{stays_alone}
use Rattle.wm_world.proofs.laws.every_run.Goals as goal

pub returns-clause-clients : goal.returns-clause-clients
returns-clause-clients c = clients_hold c.every_client.ensures

pub returns-clause-one_moment : goal.returns-clause-one_moment
returns-clause-one_moment c = one_moment c.every_registry.ensures.rises c.every_registry.ensures.in_order c.every_operation.ensures.in_range c.clock_laws.ensures.one_text

pub returns-clause-answers : goal.returns-clause-answers
returns-clause-answers c = one_moment_of_answers c.every_registry.ensures.rises c.every_registry.ensures.in_order c.every_operation.ensures.in_range c.clock_laws.ensures.one_text

pub returns-clause-in_range : goal.returns-clause-in_range
returns-clause-in_range c = in_range c.every_registry.ensures.rises c.every_registry.ensures.in_order c.every_operation.ensures.in_range

pub returns-clause-invented : goal.returns-clause-invented
returns-clause-invented c = nothing_invented

pub returns-clause-acknowledged : goal.returns-clause-acknowledged
returns-clause-acknowledged c = acknowledged_stays

pub returns-clause-kept : goal.returns-clause-kept
returns-clause-kept c = kept_stays

pub returns-clause-pending : goal.returns-clause-pending
returns-clause-pending c = pending_is_own

pub returns-clause-bound : goal.returns-clause-bound
returns-clause-bound c = slot_bound

pub returns-clause-restart : goal.returns-clause-restart
returns-clause-restart c = restart_finds

pub returns-clause-migration : goal.returns-clause-migration
returns-clause-migration c = migration_finds

pub returns-clause-alone : goal.returns-clause-alone
returns-clause-alone c = stays_alone
