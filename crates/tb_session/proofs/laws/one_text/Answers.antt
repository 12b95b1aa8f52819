use Rattle.tb_session.proofs.OneTextLemmas.{one_answer_text, one_text, some_replies}
use Rattle.tb_session.proofs.laws.one_text.Goals as goal

pub returns-clause-some : goal.returns-clause-some
returns-clause-some c = some_replies

pub returns-clause-replies : goal.returns-clause-replies
returns-clause-replies c = one_text

pub returns-clause-answer : goal.returns-clause-answer
returns-clause-answer c = one_answer_text
