use Rattle.tb_work.proofs.Claims.{keeps_mode}
use Rattle.tb_work.proofs.asking.pause.Goals as goal

pub returns-clause-kept : goal.returns-clause-kept
returns-clause-kept c = keeps_mode _ _ _ c.pause.ensures
