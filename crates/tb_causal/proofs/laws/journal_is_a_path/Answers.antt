use Rattle.tb_causal.proofs.OriginLemmas.{leads, equivalent_journals}
use Rattle.tb_causal.proofs.laws.journal_is_a_path.Goals as goal

pub returns-clause-path : goal.returns-clause-path
returns-clause-path c = λ P J s. (leads P J s).path

pub returns-clause-end : goal.returns-clause-end
returns-clause-end c = λ P J s. (leads P J s).ends

pub returns-clause-causal : goal.returns-clause-causal
returns-clause-causal c = λ P I J s t. equivalent_journals P I J s t
