use Rattle.std.proofs.Common.{true}
use Rattle.tb_control.proofs.ClaimLemmas.{fits_withdrawn}
use Rattle.tb_control.proofs.claims.Claims.withdraw_all.Goals as goal

pub invariant_of-self : goal.invariant_of-self
invariant_of-self c =
    fits_withdrawn (λ t. true) c.self.inside.end c.self.inside.rows.items c.clear.new.rows.items c.clear.ensures c.self.invariant
