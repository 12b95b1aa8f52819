use Rattle.tb_one_run.proofs.BehaviourLemmas.{of_program, to_run, from_run, to_next, from_next}
use Rattle.tb_one_run.proofs.behaviours.programs.Goals as goal

pub returns : goal.returns
returns c = λ P. (of_program P, λ H. (to_run P H, from_run P H), λ H v. (to_next P H v, from_next P H v))
