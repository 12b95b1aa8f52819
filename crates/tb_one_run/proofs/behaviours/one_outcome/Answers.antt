use Rattle.tb_one_run.proofs.OutcomeLemmas as lemma
use Rattle.tb_one_run.proofs.behaviours.one_outcome.Goals as goal

pub returns-clause-no_longer : goal.returns-clause-no_longer
returns-clause-no_longer c = λ B H K l d f k. lemma.no_longer B H l d f K k

pub returns-clause-same_state : goal.returns-clause-same_state
returns-clause-same_state c = λ B H K l d f k e. lemma.same_outcome B H l d f K k e
