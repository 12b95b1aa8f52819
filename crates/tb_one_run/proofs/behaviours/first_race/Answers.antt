use Rattle.tb_one_run.proofs.FirstRaceLemmas.{first_real_of}
use Rattle.tb_one_run.proofs.behaviours.first_race.Goals as goal

pub returns : goal.returns
returns c = λ B f e F E l r free. first_real_of B f e F E l r free
