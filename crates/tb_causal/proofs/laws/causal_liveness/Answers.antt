use Rattle.tb_causal.proofs.StandingLemmas.{none_unneeded, did_stands}
use Rattle.tb_causal.proofs.laws.causal_liveness.Goals as goal

pub returns : goal.returns
returns c = λ P H i a d n. (none_unneeded i H (did_stands i a H d) n, d)
