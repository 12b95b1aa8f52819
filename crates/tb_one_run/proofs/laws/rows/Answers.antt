use Rattle.tb_one_run.proofs.RowLemmas.{row, no_row}
use Rattle.tb_one_run.proofs.laws.rows.Goals as goal

pub returns-clause-named : goal.returns-clause-named
returns-clause-named c = λ H v r e. row H v r e

pub returns-clause-none : goal.returns-clause-none
returns-clause-none c = λ H v. no_row H v
