use Rattle.tb_model.proofs.RulesLemmas.{rules, from_rules}
use Rattle.tb_laws.proofs.histories.reading.Goals as goal

pub returns : goal.returns
returns c = λ cells H. (rules cells H, from_rules cells H)
