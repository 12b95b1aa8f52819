use Rattle.std.proofs.Common.{◌≤◌}
use Rattle.tb_depend.specs.Nearness.{child_at}
use Rattle.tb_depend.proofs.NearLemmas.{AreOverFrom}
use Rattle.tb_depend.proofs.near.all_over.Given as goal

abbrev pub invariant-loop-at : goal.invariant-loop-at
invariant-loop-at g l = record {
  within : l.at ≤ l.from;
  over : AreOverFrom l.chain.items (λ k. g.T.Over.over l.over (child_at l.ends k)) l.new l.from l.at;
}

abbrev pub decreases-loop-at : goal.decreases-loop-at
decreases-loop-at g l = l.at
