use Rattle.tb_causal.proofs.OriginLemmas.{end_of_steps, steps_path, equivalent_steps}
use Rattle.tb_causal.proofs.laws.equivalence_is_causal.Goals as goal

pub returns-clause-path : goal.returns-clause-path
returns-clause-path c = λ P H l. steps_path P H l

pub returns-clause-end : goal.returns-clause-end
returns-clause-end c = λ P H. end_of_steps P H

pub returns-clause-causal : goal.returns-clause-causal
returns-clause-causal c = λ P G H l m. equivalent_steps P G H l m
