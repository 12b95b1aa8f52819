use Rattle.tb_laws.proofs.WellFormedLemmas as lemma
use Rattle.tb_laws.proofs.progress.no_dead_end_for.Goals as goal

pub returns : goal.returns
returns c = λ P H w l s t sp. lemma.no_dead_end_for P w H l s t sp
