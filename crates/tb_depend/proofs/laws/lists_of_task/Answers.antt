use Rattle.tb_depend.proofs.RelationsLemmas.{covered_by_spawned}
use Rattle.tb_depend.proofs.laws.lists_of_task.Goals as goal

pub returns-clause-covered : goal.returns-clause-covered
returns-clause-covered c = covered_by_spawned
