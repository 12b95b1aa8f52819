use Rattle.tb_wait.proofs.UnendedLemmas as lemma
use Rattle.tb_wait.proofs.laws.unended.Goals as goal

pub returns-clause-task : goal.returns-clause-task
returns-clause-task c = lemma.unended_is

pub returns-clause-child : goal.returns-clause-child
returns-clause-child c = lemma.unended_child

pub returns-clause-member : goal.returns-clause-member
returns-clause-member c = lemma.unended_member
