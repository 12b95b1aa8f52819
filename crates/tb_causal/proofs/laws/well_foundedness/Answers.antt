use Rattle.tb_causal.specs.Runs.{runs}
use Rattle.tb_causal.proofs.AxiomsLemmas.{axioms, shrinks}
use Rattle.tb_causal.proofs.SystemLemmas.{no_endless_back}
use Rattle.tb_causal.proofs.laws.well_foundedness.Goals as goal

pub returns-clause-shorter : goal.returns-clause-shorter
returns-clause-shorter c = λ P H l e u. shrinks P H l e u

pub returns-clause-no_endless_path : goal.returns-clause-no_endless_path
returns-clause-no_endless_path c = λ P H l e. no_endless_back (runs P) (axioms P) H l e
