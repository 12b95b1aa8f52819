use Rattle.tb_model.proofs.ReorderingLemmas as lemma
use Rattle.tb_laws.proofs.equivalence.neighbours.Goals as goal

pub returns : goal.returns
returns c = λ cells later front e f l n. lemma.neighbours cells later front e f l n
