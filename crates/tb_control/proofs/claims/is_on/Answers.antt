use Rattle.tb_control.proofs.ClaimLemmas.{is_claimed}
use Rattle.tb_control.proofs.claims.is_on.Goals as goal

pub returns-in-Some : goal.returns-in-Some
returns-in-Some c = is_claimed c.in-Some.claimed c.args.task.now c.args.row.now c.eq.result c.in-Some.is c.eq.ensures
