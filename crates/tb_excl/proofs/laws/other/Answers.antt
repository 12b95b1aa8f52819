use Rattle.tb_excl.proofs.HistoriesLemmas.{other}
use Rattle.tb_excl.proofs.laws.other.Goals as goal

pub returns : goal.returns
returns c = other
