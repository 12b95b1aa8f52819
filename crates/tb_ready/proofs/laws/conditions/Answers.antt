use Rattle.tb_ready.proofs.HistoryLemmas.{absent_before}
use Rattle.tb_ready.proofs.laws.conditions.Goals as goal

pub returns : goal.returns
returns c = record { added = absent_before }
