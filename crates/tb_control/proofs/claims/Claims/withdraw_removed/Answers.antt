use Rattle.tb_control.specs.Claims.{is_hit}
use Rattle.tb_control.proofs.ClaimLemmas.{fits_withdrawn}
use Rattle.tb_control.proofs.claims.Claims.withdraw_removed.Goals as goal

pub invariant_of-self : goal.invariant_of-self
invariant_of-self c =
    fits_withdrawn (is_hit c.args.removed.now) c.self.inside.end c.self.inside.rows.items c.withdraw_hit.new.rows.items c.withdraw_hit.ensures c.self.invariant
