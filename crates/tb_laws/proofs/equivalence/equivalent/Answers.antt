use Rattle.tb_model.proofs.NeedsLemmas.{equivalent_state}
use Rattle.tb_laws.proofs.equivalence.equivalent.Goals as goal

pub returns-clause-state : goal.returns-clause-state
returns-clause-state c = λ cells G H l m q. (equivalent_state cells G H l q).0

pub returns-clause-needs : goal.returns-clause-needs
returns-clause-needs c = λ cells G H i j l m q. (equivalent_state cells G H l q).1 i j
