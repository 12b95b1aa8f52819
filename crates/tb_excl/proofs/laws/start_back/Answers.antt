use Rattle.tb_excl.proofs.HistoriesLemmas.{start_back}
use Rattle.tb_excl.proofs.laws.start_back.Goals as goal

pub returns : goal.returns
returns c = start_back
