use Rattle.std.proofs.Common.{◌≡◌, ◌<◌, ℕ, List, Bool, true, false, length}
use Rattle.tb_steps.specs.Entries.{Entry}
use Rattle.tb_races.specs.Orders.{AllNeeds}
use Rattle.tb_lanes.specs.Clocks.{AreTasks, reaches}
use Rattle.tb_lanes.specs.Fewer.{AreFewer}
use Rattle.tb_lanes.specs.Needing.{place_at}
use Rattle.tb_order.proofs.needing.is_reached.Given as goal

-- those so far don't reach it
abbrev pub invariant-loop-late : goal.invariant-loop-late
invariant-loop-late l = (asked : ℕ → Bool) (entries : List Entry) (n : ℕ) → AreTasks entries l.tasks → AreFewer asked AllNeeds entries l.tasks n l.clocks → n ≡ length l.clocks.of.items
    → asked l.early ≡ true → (i : ℕ) → i < l.late-index → reaches AllNeeds entries (place_at l.places i) l.early ≡ false
