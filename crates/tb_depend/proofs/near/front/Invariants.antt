use Rattle.std.proofs.Common.{◌-◌, ◌≤◌, length}
use Rattle.tb_depend.specs.Chains.{is_met}
use Rattle.tb_depend.proofs.ChainLemmas.{AreNoneLater}
use Rattle.tb_depend.proofs.near.front.Given as goal

abbrev pub invariant-loop-at : goal.invariant-loop-at
invariant-loop-at l = record {
  within : l.at ≤ length l.chain.items;
  none : AreNoneLater (is_met l.new) l.chain.items l.from l.at;
}

abbrev pub decreases-loop-at : goal.decreases-loop-at
decreases-loop-at l = l.at - l.from
