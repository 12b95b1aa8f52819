use Rattle.std.proofs.Common.{⊎_elim}
use Rattle.tb_causal.proofs.AxiomsLemmas.{one_or_independent}
use Rattle.tb_causal.proofs.laws.backward_transitions_independent.Goals as goal

pub returns : goal.returns
returns c = λ P H l m a b u w d. ⊎_elim (λ e. absurd (d e)) (λ i. i) (one_or_independent P H l m a b u w)
