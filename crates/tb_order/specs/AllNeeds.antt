-- All needs of the steps of a history.
use Rattle.std.specs.Prelude.{ℕ, ◌≡◌, ◌≢◌, ◌⊎◌, ◌<◌, ◌++◌, ◌∷◌, [], List, Option, Some, None, Vec, true, false, length, IsTrue}
use Rattle.tb_steps.specs.Entries.{Entry}
use Rattle.tb_races.specs.Orders.{AllNeeds}
use Rattle.tb_lanes.specs.declared.tasks.Tasks.{Tasks}
use Rattle.std.specs.declared.alloc.Global.{Global}
use Rattle.tb_order.specs.declared.needs.Needs.{Needs}
use Rattle.tb_lanes.specs.declared.clocks.Clocks.{Clocks}
use Rattle.tb_lanes.specs.declared.lane_bound.LaneBound.{LaneBound}
use Rattle.tb_lanes.specs.Clocks.{Lanes, lane, lanes_of, links_at, reaches}
use Rattle.tb_lanes.specs.Fewer.{AreFewer}
use Rattle.tb_lanes.specs.Needing.{place_at}
use Rattle.tb_lanes.specs.Rows.{IsPast}
use Rattle.tb_order.specs.Needed.{AreShared, IsAmong, is_pending}
use Rattle.tb_order.specs.Pending.{ArePending, IsLinked}

-- the order is that of the first n steps
pub record AreNeeds (entries : List Entry) (tasks : Tasks) (n : ℕ) (needs : Needs) : Type 0 where
  pub past : IsPast entries tasks needs.past n
  pub strict : needs.past.exclusion ≡ true
  pub clocks : AreFewer (is_pending entries tasks n) AllNeeds entries tasks n needs.clocks
  pub shared : AreShared entries n needs.kept
  pub linked : IsLinked needs.pending
  pub listed : length needs.pending.until.items ≡ length entries
  pub pending : ArePending entries tasks n n (lane (lanes_of needs.clocks)) needs.pending
  pub counted : length needs.pending.firsts.items ≡ length needs.clocks.lasts.items

-- the step at p needs that at q directly, and no other that it needs so needs that one
pub record IsDirect (entries : List Entry) (p q : ℕ) : Type 0 where
  pub front : q < p
  pub linked : IsTrue (links_at AllNeeds entries p q)
  pub nearest : (x : ℕ) → x < p → IsTrue (links_at AllNeeds entries p x) → x ≢ q → reaches AllNeeds entries x q ≡ false

-- these are those that the step at p needs immediately, the newest first
pub record AreDirect (entries : List Entry) (p : ℕ) (places : List ℕ) : Type 0 where
  pub falling : (i j : ℕ) → i < j → j < length places → place_at places j < place_at places i
  pub each : (i : ℕ) → i < length places → IsDirect entries p (place_at places i)
  pub all : (q : ℕ) → IsDirect entries p q → IsAmong places q

-- the lane is the one with this index, k, or where that is a new one, the lane of the end that is
-- listed, which is the newest there
abbrev pub GoesBehind : Lanes → ℕ → Option ℕ → ℕ → Type 0
GoesBehind clocks k behind j = (j ≡ k) ⊎ ((x : ℕ) × (behind ≡ Some x) × (k ≡ clocks.count) × (j ≡ lane clocks x) × (clocks.last (lane clocks x) ≡ x))

-- the row with this index, or the one that was made and is added
abbrev pub IsMade : Clocks → ℕ → Option (Vec LaneBound Global) → Clocks → ℕ → Type 0
IsMade old row None new n = (new ≡ old) × (n ≡ row)
IsMade old row (Some v) new n = (new.rows.items ≡ old.rows.items ++ v ∷ []) × (new.of ≡ old.of) × (new.lanes ≡ old.lanes) × (new.lasts ≡ old.lasts) × (n ≡ length new.rows.items)
