use Rattle.tb_causal.specs.Runs.{runs}
use Rattle.tb_causal.proofs.AxiomsLemmas.{axioms}
use Rattle.tb_causal.proofs.SystemLemmas.{shortest}
use Rattle.tb_causal.proofs.laws.shortening_lemma.Goals as goal

pub returns : goal.returns
returns c = λ P H r s l p q f e. shortest (runs P) (axioms P) H r s l p q f e
