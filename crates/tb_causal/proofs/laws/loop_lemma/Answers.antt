use Rattle.tb_causal.proofs.TransitionLemmas.{loop}
use Rattle.tb_causal.proofs.AxiomsLemmas.{inverse_twice}
use Rattle.tb_causal.proofs.laws.loop_lemma.Goals as goal

pub returns-clause-enabled : goal.returns-clause-enabled
returns-clause-enabled c = λ P H l s e. (loop P H l s e).0

pub returns-clause-back : goal.returns-clause-back
returns-clause-back c = λ P H l s e. (loop P H l s e).1

pub returns-clause-twice : goal.returns-clause-twice
returns-clause-twice c = inverse_twice
