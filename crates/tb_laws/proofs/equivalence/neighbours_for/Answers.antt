use Rattle.tb_model.proofs.ReorderingLemmas as lemma
use Rattle.tb_laws.proofs.equivalence.neighbours_for.Goals as goal

pub returns : goal.returns
returns c = λ P later front e f l n. lemma.neighbours_for P later front e f l n
