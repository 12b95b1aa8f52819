use Rattle.tb_causal.proofs.TransitionLemmas.{congruent}
use Rattle.tb_causal.proofs.IndependenceLemmas.{same_independent}
use Rattle.tb_causal.proofs.laws.equivalent_runs.Goals as goal

pub returns-clause-enabled : goal.returns-clause-enabled
returns-clause-enabled c = λ P G H l s t q e. (congruent P G H l s t q e).0

pub returns-clause-target : goal.returns-clause-target
returns-clause-target c = λ P G H l s t q e. (congruent P G H l s t q e).1

pub returns-clause-independent : goal.returns-clause-independent
returns-clause-independent c = λ P G H l m s t q n. same_independent P G H l m s q n
