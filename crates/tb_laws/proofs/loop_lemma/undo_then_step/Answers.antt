use Rattle.tb_model.proofs.ReorderingLemmas as lemma
use Rattle.tb_laws.proofs.loop_lemma.undo_then_step.Goals as goal

pub returns-clause-undone : goal.returns-clause-undone
returns-clause-undone c = λ later front v h. lemma.undone later front v h

pub returns-clause-again : goal.returns-clause-again
returns-clause-again c = λ cells later front v l h. lemma.again later front v h cells l
