use Rattle.std.proofs.Common.{sym, ◌∙◌}
use Rattle.tb_control.proofs.ClaimLemmas.{is_claimed}
use Rattle.tb_next.proofs.floor.Floor.is_at.Goals as goal

pub returns-in-Some : goal.returns-in-Some
returns-in-Some c = (is_claimed c.in-Some.floor c.args.task.now c.args.self.now c.eq.result (sym c.self.view_is ∙ c.in-Some.is) c.eq.ensures).0
