use Rattle.std.proofs.Common.{◌≡◌, map, take, Some}
use Rattle.tb_races.specs.declared.cause.Cause.{Cause}
use Rattle.tb_order.specs.Told.{told}
use Rattle.tb_order.proofs.immediate.causes_at.Given as goal

abbrev pub invariant-loop-place : goal.invariant-loop-place
invariant-loop-place l = map (λ (c : Cause). Some c) l.causes.items ≡ map (told l.front (record { task = l.task; action = l.action })) (take l.place-index l.places)
