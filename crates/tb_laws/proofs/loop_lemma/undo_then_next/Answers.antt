use Rattle.tb_model.proofs.ReorderingLemmas as lemma
use Rattle.tb_laws.proofs.loop_lemma.undo_then_next.Goals as goal

pub returns-clause-next : goal.returns-clause-next
returns-clause-next c = λ P later front v l h. lemma.next_again later front v h P l

pub returns-clause-again : goal.returns-clause-again
returns-clause-again c = λ P later front v l h. lemma.again_for later front v h P l
