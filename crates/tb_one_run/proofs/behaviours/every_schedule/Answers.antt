use Rattle.tb_one_run.proofs.TransferLemmas.{all_or_none}
use Rattle.tb_one_run.proofs.behaviours.every_schedule.Goals as goal

pub returns : goal.returns
returns c = λ B H K l d m e. all_or_none B H K l d m e
