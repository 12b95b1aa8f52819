use Rattle.std.proofs.Common.{ℕ}
use Rattle.tb_lanes.specs.declared.tasks.Tasks.{Tasks}
use Rattle.tb_order.specs.Pending.{ArePending, IsLinked, IsSettled}
use Rattle.tb_order.proofs.pending.settle_all.Given as goal

-- so far only where lanes begin is another
abbrev pub invariant-loop-bound : goal.invariant-loop-bound
invariant-loop-bound l = record {
  linked : IsLinked l.pending;
  settled : IsSettled l.fn.pending l.pending;
  pending : (tasks : Tasks) (n : ℕ) (lane : ℕ → ℕ) → ArePending l.entries tasks n l.from lane l.fn.pending → ArePending l.entries tasks n l.from lane l.pending;
}
