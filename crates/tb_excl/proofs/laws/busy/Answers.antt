use Rattle.tb_excl.proofs.ApartLemmas.{busy}
use Rattle.tb_excl.proofs.laws.busy.Goals as goal

pub returns-clause-pending : goal.returns-clause-pending
returns-clause-pending c = busy
