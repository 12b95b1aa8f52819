use Rattle.tb_model.specs.Names.{same_name}
use Rattle.tb_control.proofs.ClaimLemmas.{fits_withdrawn}
use Rattle.tb_control.proofs.claims.Claims.withdraw.Goals as goal

pub invariant_of-self : goal.invariant_of-self
invariant_of-self c =
    fits_withdrawn (same_name c.args.task.now) c.self.inside.end c.self.inside.rows.items c.withdraw_task.new.rows.items c.withdraw_task.ensures c.self.invariant
