use Rattle.tb_steps.proofs.ScanLemmas.{IsNotYet}
use Rattle.tb_core.proofs.places.place_of.Given as goal

abbrev pub invariant-loop-at : goal.invariant-loop-at
invariant-loop-at l = IsNotYet l.id l.entries l.at l.count
