use Rattle.tb_core.specs.Seen as core
use Rattle.tb_live.specs.Session.{history}
use Rattle.tb_work.proofs.Over.{tells_over}
use Rattle.tb_work.proofs.stopping.are_over.Goals as goal

pub returns : goal.returns
returns c =
    tells_over (core.history c.core.result.now.run) (history c.args.live.now.session) c.next_unended.result c.is_none.result c.core.ensures.history c.next_unended.ensures c.is_none.ensures
