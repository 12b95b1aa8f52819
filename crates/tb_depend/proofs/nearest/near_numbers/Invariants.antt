use Rattle.tb_depend.proofs.NearestLemmas.{AreNearSoFar}
use Rattle.tb_depend.proofs.nearest.near_numbers.Given as goal

-- by the child's items so far
abbrev pub invariant-loop-item : goal.invariant-loop-item
invariant-loop-item l = AreNearSoFar l.ends l.chain.items l.n l.from l.item l.near.items
