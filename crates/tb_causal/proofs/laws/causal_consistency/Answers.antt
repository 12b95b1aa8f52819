use Rattle.tb_causal.specs.Runs.{runs}
use Rattle.tb_causal.proofs.AxiomsLemmas.{axioms}
use Rattle.tb_causal.proofs.SystemLemmas.{consistent, sound}
use Rattle.tb_causal.proofs.laws.causal_consistency.Goals as goal

pub returns-clause-cofinal : goal.returns-clause-cofinal
returns-clause-cofinal c =
    λ P H r s l p q. (λ e. ((sound (runs P) (axioms P) e l).0 p).ends, λ e. consistent (runs P) (axioms P) H r s l p q e)

pub returns-clause-paths : goal.returns-clause-paths
returns-clause-paths c = λ P H r s l p e. ((sound (runs P) (axioms P) e l).0 p).path
