use Rattle.tb_causal.proofs.TransitionLemmas.{square}
use Rattle.tb_causal.proofs.laws.square_property.Goals as goal

pub returns : goal.returns
returns c = λ P H l m s a b i. square P H l m s a b i
