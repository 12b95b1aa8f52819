use Rattle.tb_excl.proofs.HistoriesLemmas.{end_back}
use Rattle.tb_excl.proofs.laws.end_back.Goals as goal

pub returns-clause-held : goal.returns-clause-held
returns-clause-held c = end_back
