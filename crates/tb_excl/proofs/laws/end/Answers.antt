use Rattle.tb_excl.proofs.HistoriesLemmas.{end}
use Rattle.tb_excl.proofs.laws.end.Goals as goal

pub returns : goal.returns
returns c = end
