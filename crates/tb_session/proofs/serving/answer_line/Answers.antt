use Rattle.tb_session.proofs.ServeLemmas.{answer_cut, answer_whole}
use Rattle.tb_session.proofs.serving.answer_line.Goals as goal

pub returns-clause-answered : goal.returns-clause-answered
returns-clause-answered g c =
    answer_cut c.args.limit c.args.live.session c.in-Ok.answered.0.session c.args.line.now _ _ _ _ c.in-Ok.ensures.told c.in-Err.ensures.err.0

pub returns-in-Ok-write-clause-answered : goal.returns-in-Ok-write-clause-answered
returns-in-Ok-write-clause-answered g c =
    answer_whole c.args.limit c.args.live.session c.in-Ok.answered.0.session c.args.line.now _ _ _ _ c.in-Ok.ensures.told c.in-Ok-write.ensures.ok.0
