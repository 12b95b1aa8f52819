use Rattle.tb_wait.proofs.FewLemmas.{held_none}
use Rattle.tb_wait.proofs.few.Few.new.Goals as goal

pub returns : goal.returns
returns c = held_none
