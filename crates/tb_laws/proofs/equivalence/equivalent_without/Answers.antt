use Rattle.tb_model.proofs.NeedsLemmas as lemma
use Rattle.tb_laws.proofs.equivalence.equivalent_without.Goals as goal

pub returns : goal.returns
returns c = λ cells e G H m l q. lemma.equivalent_without cells e G H m q
