use Rattle.tb_one_run.proofs.BehaviourLemmas.{of_program, to_run, over}
use Rattle.tb_one_run.proofs.OutcomeLemmas as lemma
use Rattle.tb_one_run.proofs.laws.one_outcome.Goals as goal

pub returns-clause-no_longer : goal.returns-clause-no_longer
returns-clause-no_longer c = λ P H K w l d f k. lemma.no_longer (of_program P) H (to_run P H l) (over P H w l d) f K (to_run P K k)

pub returns-clause-same_state : goal.returns-clause-same_state
returns-clause-same_state c =
    λ P H K w l d f k e. lemma.same_outcome (of_program P) H (to_run P H l) (over P H w l d) f K (to_run P K k) (over P K w k e)
