use Rattle.std.proofs.Common.{sym, subst}
use Rattle.tb_live.specs.Preparing.{HasRoom}
use Rattle.tb_live.proofs.stepping.enter_apart.Goals as goal

pub returns-clause-serves : goal.returns-clause-serves
returns-clause-serves c P h =
    c.enter_clear.ensures.serves P
    (subst (λ core. HasRoom c.args.limit P core c.args.journal.now.items c.args.journal.now.room c.args.prepared.now) (sym c.turn_to.ensures) h)
