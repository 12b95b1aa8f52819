use Rattle.std.proofs.Common.{◌≡◌, ◌<◌, ℕ, Some}
use Rattle.tb_control.specs.Claims.{claim_of}
use Rattle.tb_control.proofs.claims.holder_beside.Given as goal

abbrev pub invariant-loop-at : goal.invariant-loop-at
invariant-loop-at l = (other : ℕ) → other < l.at → claim_of l.rows other ≡ Some l.task → other ≡ l.seat
