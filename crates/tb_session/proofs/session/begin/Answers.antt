use Rattle.tb_session.proofs.BeginLemmas.{begin_fails}
use Rattle.tb_session.proofs.session.begin.Goals as goal

pub returns-clause-begun : goal.returns-clause-begun
returns-clause-begun g c = begin_fails c.args.limit _ _ _ _ c.in-Ok.end c.in-Err.halt c.in-Ok.ensures.gathered c.deref.ensures.value c.in-Err.ensures
