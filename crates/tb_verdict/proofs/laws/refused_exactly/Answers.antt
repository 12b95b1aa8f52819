use Rattle.tb_verdict.proofs.UnrefusedLemmas.{longer, unrefused}
use Rattle.tb_verdict.proofs.laws.refused_exactly.Goals as goal

pub returns-clause-unrefused : goal.returns-clause-unrefused
returns-clause-unrefused c = longer

pub returns-clause-legal : goal.returns-clause-legal
returns-clause-legal c = unrefused
