use Rattle.std.proofs.Common.{◌≡◌, None, replicate}
use Rattle.tb_control.proofs.claims.Claims.none.Given as goal

abbrev pub invariant-loop : goal.invariant-loop
invariant-loop l = l.rows.items ≡ replicate l.counter None
