-- Clocks whose rows say no more of the steps for which nobody asks.
use Rattle.std.specs.Prelude.{ℕ, ◌≡◌, ◌⊎◌, ◌<◌, ◌≤◌, List, Bool, IsTrue, length, slice_index_or}
use Rattle.tb_steps.specs.Entries.{Entry}
use Rattle.tb_races.specs.Orders.{Order}
use Rattle.tb_lanes.specs.declared.tasks.Tasks.{Tasks}
use Rattle.tb_lanes.specs.declared.clocks.Clocks.{Clocks}
use Rattle.tb_lanes.specs.Bounds.{IsRising, bound_in}
use Rattle.tb_lanes.specs.Clocks.{AreLanes, IsLane, IsLow, Lanes, is_told, lane, lanes_of, reaches, row_in, row_of_step, says}
use Rattle.tb_lanes.specs.Needing.{IsTouched}

-- the lanes that are stored, with these bounds
abbrev pub lanes_with : Clocks → (ℕ → ℕ → ℕ) → Lanes
lanes_with clocks bounds = record {
  lane = λ p. slice_index_or clocks.lanes.items p 0;
  bound = bounds;
  last = λ k. slice_index_or clocks.lasts.items k 0;
  count = length clocks.lasts.items;
}

-- the row tells that the step at q is in front, by its lane
abbrev pub says_of : Clocks → (ℕ → ℕ) → ℕ → Type 0
says_of clocks row q = IsTrue (says row (lane (lanes_of clocks) q) q)

-- what is stored is the lanes of the first n steps, where rows may say nothing of a step for which nobody asks; the bounds that
-- all would have say what is in front of each
pub record AreFewer (asked : ℕ → Bool) (o : Order) (entries : List Entry) (tasks : Tasks) (n : ℕ) (clocks : Clocks) : Type 0 where
  pub bounds : ℕ → ℕ → ℕ
  pub listed : length clocks.of.items ≡ n
  pub laned : length clocks.lanes.items ≡ n
  pub within : (p : ℕ) → p < n → slice_index_or clocks.of.items p 0 ≤ length clocks.rows.items
  pub rising : (p : ℕ) → p < n → IsRising (row_of_step clocks p)
  pub lanes : AreLanes o entries tasks n (lanes_with clocks bounds)
  pub low : (p : ℕ) → p < n → IsLow (bound_in (row_of_step clocks p)) p
  pub sound : (p q : ℕ) → p < n → q < p → says_of clocks (bound_in (row_of_step clocks p)) q → IsTrue (reaches o entries p q)
  pub enough : (p q : ℕ) → p < n → q < p → IsTrue (asked q) → IsTrue (reaches o entries p q)
      → IsTrue (is_told o entries tasks (lanes_of clocks) (bound_in (row_of_step clocks p)) (lane (lanes_of clocks) p) p q)

-- whatever the row tells of, it tells of what that reaches, where somebody asks for it
abbrev pub IsClosedFor : (ℕ → Bool) → Order → List Entry → Tasks → Lanes → (ℕ → ℕ) → ℕ → ℕ → Type 0
IsClosedFor asked o entries tasks clocks row k p =
    (s q : ℕ) → s < p → q < p → IsTrue (asked q) → IsTrue (is_told o entries tasks clocks row k p s) → IsTrue (reaches o entries s q)
    → IsTrue (is_told o entries tasks clocks row k p q)

-- what is in front of the step at s is added to the bounds, where somebody asks for it
pub record AddsFor (asked : ℕ → Bool) (o : Order) (entries : List Entry) (tasks : Tasks) (clocks : Clocks) (k p s : ℕ) (old new : ℕ → ℕ) : Type 0 where
  pub kept : (j q : ℕ) → IsTrue (says old j q) → IsTrue (says new j q)
  pub reached : (q : ℕ) → q < p → IsTrue (asked q) → IsTrue (reaches o entries s q) → IsTrue (is_told o entries tasks (lanes_of clocks) new k p q)
  pub sound : (q : ℕ) → q < p → says_of clocks new q → says_of clocks old q ⊎ IsTrue (reaches o entries s q)
  pub low : IsLow old p → IsLow new p

-- the step at p may begin with this row and in this lane: they tell of what a step reaches that touches its task, where somebody
-- asks for it
pub record BeginsFor (asked : ℕ → Bool) (o : Order) (entries : List Entry) (tasks : Tasks) (clocks : Clocks) (row k p : ℕ) : Type 0 where
  pub within : row ≤ length clocks.rows.items
  pub rising : IsRising (row_in clocks.rows.items row)
  pub lane : IsLane entries (lanes_of clocks) k p
  pub low : IsLow (bound_in (row_in clocks.rows.items row)) p
  pub sound : (q : ℕ) → q < p → IsTrue (is_told o entries tasks (lanes_of clocks) (bound_in (row_in clocks.rows.items row)) k p q) → IsTouched o entries p q
  pub enough : (q : ℕ) → q < p → IsTrue (asked q) → IsTouched o entries p q
      → IsTrue (is_told o entries tasks (lanes_of clocks) (bound_in (row_in clocks.rows.items row)) k p q)
