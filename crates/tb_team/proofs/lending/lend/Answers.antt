use Rattle.std.proofs.Common.{arith, sym}
use Rattle.tb_team.proofs.Losses.{unlent}
use Rattle.tb_team.proofs.lending.lend.Goals as goal

pub returns-in-Err-clause-lost : goal.returns-in-Err-clause-lost
returns-in-Err-clause-lost g c =
    unlent c.args.workers c.args.live.session c.with_limit-live.result.session _ c.in-Err.why c.with_limit-live.ensures (sym c.if-not-is_seated.ensures) (omega arith) c.in-Err.ensures.lost
