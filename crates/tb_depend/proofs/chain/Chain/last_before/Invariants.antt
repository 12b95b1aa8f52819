use Rattle.std.proofs.Common.{◌≤◌}
use Rattle.tb_model.specs.Items.{is_before, meets}
use Rattle.tb_depend.proofs.ChainLemmas.{AreNoneLater}
use Rattle.tb_depend.proofs.chain.Chain.last_before.Given as goal

abbrev pub invariant-loop-at : goal.invariant-loop-at
invariant-loop-at l = record {
  within : l.at ≤ l.from;
  none : AreNoneLater (meets is_before l.new) l.self.items l.from l.at;
}

abbrev pub decreases-loop-at : goal.decreases-loop-at
decreases-loop-at l = l.at
