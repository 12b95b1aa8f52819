use Rattle.tb_causal.specs.Runs.{runs}
use Rattle.tb_causal.proofs.AxiomsLemmas.{axioms}
use Rattle.tb_causal.proofs.SystemLemmas.{parabolic}
use Rattle.tb_causal.proofs.laws.parabolic_lemma.Goals as goal

pub returns : goal.returns
returns c = λ P H r s p. parabolic (runs P) (axioms P) H r s p
