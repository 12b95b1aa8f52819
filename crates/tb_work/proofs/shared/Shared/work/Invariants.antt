use Rattle.tb_work.specs.Growing.{GrewBySteps}
use Rattle.tb_work.proofs.shared.Shared.work.Given as goal

abbrev pub invariant-loop : goal.invariant-loop
invariant-loop g l = GrewBySteps l.initial.seat l.seat
