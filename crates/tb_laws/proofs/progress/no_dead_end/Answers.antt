use Rattle.tb_model.proofs.DeadEndLemmas as lemma
use Rattle.tb_laws.proofs.progress.no_dead_end.Goals as goal

pub returns : goal.returns
returns c = λ cells H wants l s t sp. lemma.no_dead_end cells H l wants s t sp
