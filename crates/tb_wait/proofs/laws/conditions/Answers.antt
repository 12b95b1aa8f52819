use Rattle.tb_wait.proofs.HistoryLemmas as lemma
use Rattle.tb_wait.proofs.laws.conditions.Goals as goal

pub returns-clause-spawned : goal.returns-clause-spawned
returns-clause-spawned c = lemma.spawn_next

pub returns-clause-unspawned : goal.returns-clause-unspawned
returns-clause-unspawned c = lemma.spawn_last

pub returns-clause-closed : goal.returns-clause-closed
returns-clause-closed c = lemma.close_group

pub returns-clause-unopened : goal.returns-clause-unopened
returns-clause-unopened c = lemma.open_group
