use Rattle.tb_excl.proofs.HistoriesLemmas.{start}
use Rattle.tb_excl.proofs.laws.start.Goals as goal

pub returns : goal.returns
returns c = start
