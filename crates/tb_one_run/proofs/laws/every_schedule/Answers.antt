use Rattle.tb_one_run.proofs.TransferLemmas.{all_or_none}
use Rattle.tb_one_run.proofs.BehaviourLemmas.{of_program, to_run, over}
use Rattle.tb_one_run.proofs.laws.every_schedule.Goals as goal

pub returns : goal.returns
returns c = λ P H K w l d m e. all_or_none (of_program P) H K (to_run P H l) (over P H w l d) (to_run P K m) (over P K w m e)
