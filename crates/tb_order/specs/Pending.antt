-- For which steps a later one may still ask, by lanes.
use Rattle.std.specs.Prelude.{ℕ, suc, ◌≡◌, ◌==◌, if◌then◌else◌, ◌≢◌, ◌⊎◌, ◌<◌, ◌≤◌, ◌+◌, List, Bool, Option, Some, None, Vec, IsTrue, nat_lt, length, slice_index_or, ⊤}
use Rattle.std.specs.declared.alloc.Global.{Global}
use Rattle.tb_steps.specs.Entries.{Entry}
use Rattle.tb_lanes.specs.declared.tasks.Tasks.{Tasks}
use Rattle.tb_lanes.specs.declared.lane_bound.LaneBound.{LaneBound}
use Rattle.tb_lanes.specs.Bounds.{IsRising, bound_in}
use Rattle.tb_lanes.specs.Clocks.{previous, says}
use Rattle.tb_order.specs.declared.pending.Pending.{Pending}
use Rattle.tb_order.specs.Needed.{is_pending}

abbrev pub first_of : Pending → ℕ → ℕ
first_of pending k = slice_index_or pending.firsts.items k 0

abbrev pub last_of : Pending → ℕ → ℕ
last_of pending k = slice_index_or pending.lasts.items k 0

abbrev pub next_of : Pending → ℕ → ℕ
next_of pending q = slice_index_or pending.nexts.items q 0

abbrev pub until_of : Pending → ℕ → ℕ
until_of pending q = slice_index_or pending.until.items q 0

-- how many lanes there are when a step has come to this one
abbrev pub grown : ℕ → ℕ → ℕ
grown k n = if k == n then suc n else n

-- each index is that of a step
pub record IsLinked (pending : Pending) : Type 0 where
  pub listed : length pending.nexts.items ≤ length pending.until.items
  pub lasts_listed : length pending.lasts.items ≡ length pending.firsts.items
  pub firsts_in : (k : ℕ) → k < length pending.firsts.items → first_of pending k < length pending.nexts.items
  pub lasts_in : (k : ℕ) → k < length pending.firsts.items → last_of pending k < length pending.nexts.items
  pub nexts_in : (q : ℕ) → q < length pending.nexts.items → next_of pending q < length pending.nexts.items

-- for no step longer than is listed one asks as what touches its task
abbrev pub AreUntil : Tasks → ℕ → List ℕ → Type 0
AreUntil tasks n until = (p q : ℕ) → p < n → previous tasks p ≡ suc q → p ≤ slice_index_or until q 0

-- of the first n steps, which are in these lanes, one from the other index on may ask in each lane for those alone that aren't
-- before the one that is listed
pub record ArePending (entries : List Entry) (tasks : Tasks) (n from : ℕ) (lane : ℕ → ℕ) (pending : Pending) : Type 0 where
  pub until : AreUntil tasks (length entries) pending.until.items
  pub listed : length pending.nexts.items ≡ n
  pub few : (q : ℕ) → q < n → lane q < length pending.firsts.items
  pub first_in : (k : ℕ) → k < length pending.firsts.items → lane (first_of pending k) ≡ k
  pub first : (q : ℕ) → q < n → IsTrue (is_pending entries tasks from q) → first_of pending (lane q) ≤ q
  pub last_in : (k : ℕ) → k < length pending.firsts.items → lane (last_of pending k) ≡ k
  pub newest : (q : ℕ) → q < n → q ≤ last_of pending (lane q)
  pub same : (q : ℕ) → q < n → lane (next_of pending q) ≡ lane q
  pub next : (q x : ℕ) → q < n → q < x → x < n → lane x ≡ lane q → next_of pending q ≤ x

-- only where lanes begin is another
pub record IsSettled (old new : Pending) : Type 0 where
  pub until : new.until ≡ old.until
  pub lasts : new.lasts ≡ old.lasts
  pub nexts : new.nexts ≡ old.nexts
  pub count : length new.firsts.items ≡ length old.firsts.items

-- the step at n was noted as the newest of the lane k: the one that was so has it as the next, if any does
pub record IsNoted (old new : Pending) (n k : ℕ) : Type 0 where
  pub until : new.until ≡ old.until
  pub listed : length new.nexts.items ≡ n + 1
  pub lasts_listed : length new.lasts.items ≡ length new.firsts.items
  pub more : length old.firsts.items ≤ length new.firsts.items
  pub lane_in : k < length new.firsts.items
  pub first_old : (j : ℕ) → j < length old.firsts.items → first_of new j ≡ first_of old j
  pub first_new : (j : ℕ) → length old.firsts.items ≤ j → j < length new.firsts.items → (j ≡ k) × (first_of new j ≡ n)
  pub last_here : last_of new k ≡ n
  pub last_other : (j : ℕ) → j ≢ k → j < length old.firsts.items → last_of new j ≡ last_of old j
  pub next_here : next_of new n ≡ n
  pub next_other : (q : ℕ) → q < n → (next_of new q ≡ next_of old q) ⊎ ((next_of new q ≡ n) × (k < length old.firsts.items) × (q ≡ last_of old k))

-- the step at n is in this lane
pub record IsLaneMore (old new : ℕ → ℕ) (n k : ℕ) : Type 0 where
  pub here : new n ≡ k
  pub before : (q : ℕ) → q < n → new q ≡ old q

-- the bound tells of the step that is listed for its lane
abbrev pub is_left : List ℕ → LaneBound → Bool
is_left firsts b = nat_lt (slice_index_or firsts b.lane 0) b.to

-- the second row tells of what the first does, in each lane of the steps at least that aren't before the one that is listed
pub record IsPartOf (pending : Pending) (row rest : List LaneBound) : Type 0 where
  pub rising : IsRising row → IsRising rest
  pub less : (k q : ℕ) → IsTrue (says (bound_in rest) k q) → IsTrue (says (bound_in row) k q)
  pub left : (k q : ℕ) → IsTrue (says (bound_in row) k q) → first_of pending k ≤ q → IsTrue (says (bound_in rest) k q)

abbrev pub IsPart : Pending → Option (Vec LaneBound Global) → Option (Vec LaneBound Global) → Type 0
IsPart pending None None = ⊤
IsPart pending None (Some rest) = ⊥
IsPart pending (Some row) None = ⊥
IsPart pending (Some row) (Some rest) = IsPartOf pending row.items rest.items
