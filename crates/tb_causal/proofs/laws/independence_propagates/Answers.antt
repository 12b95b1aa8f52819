use Rattle.tb_causal.proofs.IndependenceLemmas as lemma
use Rattle.tb_causal.proofs.laws.independence_propagates.Goals as goal

pub returns-clause-symmetric : goal.returns-clause-symmetric
returns-clause-symmetric c = λ H l m n. lemma.symmetric H l m n

pub returns-clause-irreflexive : goal.returns-clause-irreflexive
returns-clause-irreflexive c = λ H l n. lemma.irreflexive H l n

pub returns-clause-propagates : goal.returns-clause-propagates
returns-clause-propagates c = λ P H l m s a b n. lemma.propagated P H l m s a b n
