use Rattle.tb_laws.proofs.ItemsLemmas as lemma
use Rattle.tb_laws.proofs.states.table.Goals as goal

pub returns-clause-free : goal.returns-clause-free
returns-clause-free c = lemma.free_entries

pub returns-clause-exclusive : goal.returns-clause-exclusive
returns-clause-exclusive c = lemma.apart_entries

pub returns-clause-before : goal.returns-clause-before
returns-clause-before c = lemma.before_decides

pub returns-clause-apart : goal.returns-clause-apart
returns-clause-apart c = lemma.apart_decides
