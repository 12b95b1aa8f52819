use Rattle.tb_undo.proofs.ActLemmas.{acted_back_start}
use Rattle.tb_undo.proofs.tables.Tables.act_back.Goals as goal

pub returns-in-Start-clause-acted : goal.returns-in-Start-clause-acted
returns-in-Start-clause-acted c =
    acted_back_start c.args.event.now c.args.self.now c.hold.new.self c.in-Start.is c.hold.ensures.store c.hold.ensures.waits c.hold.ensures.marks c.hold.ensures.rows
