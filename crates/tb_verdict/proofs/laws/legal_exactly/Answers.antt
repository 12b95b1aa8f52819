use Rattle.tb_verdict.proofs.RecordedLemmas.{judged_legal, legal_judged}
use Rattle.tb_verdict.proofs.laws.legal_exactly.Goals as goal

pub returns : goal.returns
returns c lines first H = (judged_legal lines first H, legal_judged lines first H)
