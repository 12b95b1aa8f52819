use Rattle.tb_model.proofs.ForProgramLemmas as lemma
use Rattle.tb_laws.proofs.equivalence.equivalent_next.Goals as goal

pub returns : goal.returns
returns c = λ P G H v l m q. lemma.equivalent_next P G H v l q
