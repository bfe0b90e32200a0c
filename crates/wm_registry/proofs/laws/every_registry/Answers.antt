use Rattle.wm_registry.specs.ChangeLaws.{accepted_changes}
use Rattle.wm_registry.specs.MachineLaws.{idle_registry}
use Rattle.wm_registry.specs.VersionLaws.{accepted_placed, same_version}
use Rattle.wm_registry.proofs.Definitions.{equal_definitions}
use Rattle.wm_registry.proofs.SecondVersion.{accepted_in_version_2}
use Rattle.wm_registry.proofs.Numbers.{in_order, rises_more}
use Rattle.wm_registry.proofs.laws.every_registry.Goals as goal

pub returns-clause-rises : goal.returns-clause-rises
returns-clause-rises c = rises_more

pub returns-clause-in_order : goal.returns-clause-in_order
returns-clause-in_order c = in_order

pub returns-clause-same : goal.returns-clause-same
returns-clause-same c = equal_definitions

pub returns-clause-accepted : goal.returns-clause-accepted
returns-clause-accepted c = accepted_changes

pub returns-clause-others : goal.returns-clause-others
returns-clause-others c = idle_registry

pub returns-clause-version : goal.returns-clause-version
returns-clause-version c = same_version

pub returns-clause-placed : goal.returns-clause-placed
returns-clause-placed c = accepted_placed

pub returns-clause-in_version_2 : goal.returns-clause-in_version_2
returns-clause-in_version_2 c = accepted_in_version_2
