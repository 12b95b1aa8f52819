use Rattle.tb_work.proofs.Claims.{keeps_seat}
use Rattle.tb_work.proofs.asking.leave.Goals as goal

pub returns-clause-kept : goal.returns-clause-kept
returns-clause-kept c = keeps_seat _ _ _ _ c.let_go.ensures
