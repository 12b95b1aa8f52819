use Rattle.tb_causal.proofs.TransitionLemmas.{square}
use Rattle.tb_causal.proofs.CommutingLemmas.{commuting}
use Rattle.tb_causal.proofs.laws.independence_is_commuting.Goals as goal

pub returns : goal.returns
returns c = λ P H l m s a b d. (λ i. square P H l m s a b i, λ q. commuting P H l m s a b d q)
