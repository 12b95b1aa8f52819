use Rattle.std.proofs.Common.{◌≡◌}
use Rattle.tb_model.specs.Names.{same_name}
use Rattle.tb_control.specs.Claims.{unless}
use Rattle.tb_control.proofs.ClaimLemmas.{changed_to}
use Rattle.tb_control.proofs.claims.withdraw_task.Given as goal

abbrev pub invariant-loop-at : goal.invariant-loop-at
invariant-loop-at l = l.rows.items ≡ changed_to (unless (same_name l.task)) l.at l.fn.rows.items
