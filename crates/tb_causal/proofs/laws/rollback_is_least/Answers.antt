use Rattle.tb_causal.proofs.RollbackLemmas.{rolled, rollback_least}
use Rattle.tb_causal.proofs.laws.rollback_is_least.Goals as goal

pub returns-clause-path : goal.returns-clause-path
returns-clause-path c = λ P H e. (rolled P H e).path

pub returns-clause-backward : goal.returns-clause-backward
returns-clause-backward c = λ P H e. (rolled P H e).backward

pub returns-clause-end : goal.returns-clause-end
returns-clause-end c = λ P H e. (rolled P H e).ends

pub returns-clause-least : goal.returns-clause-least
returns-clause-least c = λ P H e r l p b s. rollback_least P H e r l p b s
