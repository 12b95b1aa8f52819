use Rattle.std.proofs.Common.{◌≡◌, [], ◌∷◌}
use Rattle.tb_control.specs.Claims.{unless, is_hit}
use Rattle.tb_control.proofs.ClaimLemmas.{changed_to}
use Rattle.tb_control.proofs.claims.withdraw_by.Given as goal

abbrev pub invariant-loop-at : goal.invariant-loop-at
invariant-loop-at l = l.rows.items ≡ changed_to (unless (is_hit (l.removed ∷ []))) l.at l.fn.rows.items
