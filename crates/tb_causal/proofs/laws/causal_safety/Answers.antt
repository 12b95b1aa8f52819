use Rattle.tb_laws.proofs.NeedersLemmas.{unneeded}
use Rattle.tb_causal.proofs.StandingLemmas.{unneeded_none, unneeded_stands}
use Rattle.tb_causal.proofs.laws.causal_safety.Goals as goal

pub returns-clause-direct : goal.returns-clause-direct
returns-clause-direct c = λ P H i j a e. unneeded_none i H e.0 j

pub returns-clause-closure : goal.returns-clause-closure
returns-clause-closure c = λ P H i a e. (unneeded i H (unneeded_stands i H e.0)).0 e.0
