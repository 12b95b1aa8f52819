use Rattle.tb_causal.proofs.TransitionLemmas.{kept}
use Rattle.tb_causal.proofs.laws.transitions_keep_runs.Goals as goal

pub returns : goal.returns
returns c = λ P H l s e. kept P H l s e
