use Rattle.tb_depend.proofs.NumbersLemmas.{listed}
use Rattle.tb_depend.proofs.laws.numbers.Goals as goal

pub returns-clause-listed : goal.returns-clause-listed
returns-clause-listed c = listed
