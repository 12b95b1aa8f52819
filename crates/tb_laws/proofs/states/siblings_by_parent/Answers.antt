use Rattle.tb_model.proofs.SiblingsLemmas.{items_at, before_at, apart_at, covers_at}
use Rattle.tb_laws.proofs.states.siblings_by_parent.Goals as goal

pub returns-clause-items : goal.returns-clause-items
returns-clause-items c = λ cells H t n l. items_at cells H n t l

pub returns-clause-before : goal.returns-clause-before
returns-clause-before c = before_at

pub returns-clause-apart : goal.returns-clause-apart
returns-clause-apart c = apart_at

pub returns-clause-covers : goal.returns-clause-covers
returns-clause-covers c = covers_at
