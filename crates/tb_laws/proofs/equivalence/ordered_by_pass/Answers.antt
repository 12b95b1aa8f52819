use Rattle.tb_laws.proofs.OrderedLemmas.{in_order, from_order}
use Rattle.tb_laws.proofs.equivalence.ordered_by_pass.Goals as goal

pub returns : goal.returns
returns c = λ G H. (in_order H G, from_order H G)
