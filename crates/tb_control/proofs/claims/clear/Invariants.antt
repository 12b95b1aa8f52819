use Rattle.std.proofs.Common.{◌≡◌, true}
use Rattle.tb_control.specs.Claims.{unless}
use Rattle.tb_control.proofs.ClaimLemmas.{changed_to}
use Rattle.tb_control.proofs.claims.clear.Given as goal

abbrev pub invariant-loop-at : goal.invariant-loop-at
invariant-loop-at l = l.rows.items ≡ changed_to (unless (λ t. true)) l.at l.fn.rows.items
