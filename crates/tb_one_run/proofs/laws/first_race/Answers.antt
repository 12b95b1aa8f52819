use Rattle.tb_one_run.proofs.FirstRaceLemmas.{first_real}
use Rattle.tb_one_run.proofs.laws.first_race.Goals as goal

pub returns : goal.returns
returns c = λ P f e F E l r free. first_real P f e F E l r free
