use Rattle.std.proofs.Common.{◌≡◌, ◌<◌, ◌≤◌, ◌-◌, ℕ, true, length}
use Rattle.tb_lanes.specs.declared.tasks.Tasks.{Tasks}
use Rattle.tb_order.specs.Needed.{is_pending}
use Rattle.tb_order.specs.Pending.{ArePending}
use Rattle.tb_order.proofs.pending.first_asked.Given as goal

-- for none of those that were passed may one ask
abbrev pub invariant-on : goal.invariant-on
invariant-on l = record {
  inside : l.asked < length l.pending.nexts.items;
  passed : (tasks : Tasks) (n : ℕ) (lane : ℕ → ℕ) → ArePending l.entries tasks n l.from lane l.pending
      → (lane l.asked ≡ lane l.first) × ((q : ℕ) → q < n → lane q ≡ lane l.first → l.first ≤ q → is_pending l.entries tasks l.from q ≡ true → l.asked ≤ q);
}

abbrev pub decreases-on : goal.decreases-on
decreases-on l = length l.pending.nexts.items - l.asked
