-- What an order puts in front of each step, by indexes and by tasks.
use Rattle.std.specs.Prelude.{ℕ, suc, ◌≡◌, ◌≢◌, ◌⊎◌, ◌<◌, ◌≤◌, List, [], ◌∷◌, ◌++◌, Bool, false, ◌&&◌, ◌||◌, ◌==◌, ◌-◌, ◌+◌, if◌then◌else◌, Option, Some, None, IsTrue, length, take, slice_get, slice_index_or, nat_lt, nat_le, Vec, map}
use Rattle.std.specs.declared.alloc.Global.{Global}
use Rattle.tb_model.specs.declared.event.Event.{Event}
use Rattle.tb_model.specs.declared.step_id.StepId.{StepId}
use Rattle.tb_model.specs.Facts.{History, is_of, is_end, own, spawns}
use Rattle.tb_steps.specs.Entries.{Entry}
use Rattle.tb_steps.specs.Scans.{history_of, step_at}
use Rattle.tb_races.specs.Orders.{Order, links, comes_after}
use Rattle.tb_lanes.specs.declared.tasks.Tasks.{Tasks}
use Rattle.tb_lanes.specs.declared.clocks.Clocks.{Clocks}
use Rattle.tb_lanes.specs.declared.ends.Ends.{Ends}
use Rattle.tb_lanes.specs.declared.lane_bound.LaneBound.{LaneBound}
use Rattle.tb_lanes.specs.Bounds.{IsRising, bound_in}

-- ---- steps by their indexes

abbrev pub after_so : Order → History → Option Entry → Option StepId → Bool
after_so o H None e = false
after_so o H (Some v) None = false
after_so o H (Some v) (Some e) = comes_after o e H v.event

-- the step at the first index comes after that at the second
abbrev pub is_after : Order → List Entry → ℕ → ℕ → Bool
is_after o entries p q = after_so o (history_of (take p entries)) (slice_get entries p) (step_at entries q)

-- the step at the first index is that at the second, or comes after it
abbrev pub reaches : Order → List Entry → ℕ → ℕ → Bool
reaches o entries p q = p == q || is_after o entries p q

abbrev pub links_so : Order → History → Option Entry → Option Entry → Bool
links_so o H None u = false
links_so o H (Some v) None = false
links_so o H (Some v) (Some u) = links o H v.event u.event

-- the step at the first index is linked to that at the second
abbrev pub links_at : Order → List Entry → ℕ → ℕ → Bool
links_at o entries p x = links_so o (history_of (take p entries)) (slice_get entries p) (slice_get entries x)

abbrev pub both_so : (Event → Event → Bool) → Option Entry → Option Entry → Bool
both_so f None u = false
both_so f (Some v) None = false
both_so f (Some v) (Some u) = f v.event u.event

-- the two pass the test
abbrev pub both_at : (Event → Event → Bool) → List Entry → ℕ → ℕ → Bool
both_at f entries p x = both_so f (slice_get entries p) (slice_get entries x)

abbrev pub of_one : Event → Event → Bool
of_one v u = is_of v.task u

abbrev pub generates : Event → Event → Bool
generates v u = spawns v.task u

-- the second is of the first one's task, or generates it
abbrev pub touches : Event → Event → Bool
touches v u = of_one v u || generates v u

abbrev pub ends_so : Option Entry → Bool
ends_so None = false
ends_so (Some u) = is_end u.event.action

abbrev pub is_end_at : List Entry → ℕ → Bool
is_end_at entries x = ends_so (slice_get entries x)

-- ---- by tasks

abbrev pub number : Tasks → ℕ → ℕ
number tasks p = slice_index_or tasks.numbers.items p 0

abbrev pub origin : Tasks → ℕ → ℕ
origin tasks p = slice_index_or tasks.origins.items p 0

abbrev pub previous : Tasks → ℕ → ℕ
previous tasks p = slice_index_or tasks.previous.items p 0

-- what is before the step at p that touches its task: nothing; the newest generates it, and nothing
-- else does; the newest is of it
pub data Behind : List Entry → Tasks → ℕ → Type 0 where
  alone : (entries : List Entry) (tasks : Tasks) (p : ℕ) → previous tasks p ≡ 0 → origin tasks p ≡ 0
      → ((x : ℕ) → x < p → IsTrue (both_at touches entries p x) → ⊥) → Behind entries tasks p
  generated : (entries : List Entry) (tasks : Tasks) (p b : ℕ) → b < p → previous tasks p ≡ suc b → origin tasks p ≡ suc b → IsTrue (both_at generates entries p b)
      → both_at of_one entries p b ≡ false → ((x : ℕ) → x < p → IsTrue (both_at touches entries p x) → x ≡ b) → Behind entries tasks p
  going_on : (entries : List Entry) (tasks : Tasks) (p b : ℕ) → b < p → previous tasks p ≡ suc b → origin tasks p ≡ origin tasks b → IsTrue (both_at of_one entries p b)
      → ((x : ℕ) → x < p → IsTrue (both_at touches entries p x) → x ≤ b) → Behind entries tasks p

-- each step has a number, and what generates its task is in front
pub record IsShaped (tasks : Tasks) : Type 0 where
  pub origins_listed : length tasks.origins.items ≡ length tasks.numbers.items
  pub previous_listed : length tasks.previous.items ≡ length tasks.numbers.items
  pub low : (p : ℕ) → p < length tasks.numbers.items → origin tasks p ≤ p
  pub near : (p : ℕ) → p < length tasks.numbers.items → previous tasks p ≤ p

-- what generates the task of the step at p: nothing in front of it, or the step that is listed
abbrev pub IsOrigin : List Entry → Tasks → ℕ → Type 0
IsOrigin entries tasks p =
    ((origin tasks p ≡ 0) × ((x : ℕ) → x < p → IsTrue (both_at generates entries p x) → ⊥))
    ⊎ ((u : ℕ) × (origin tasks p ≡ suc u) × (u < p) × IsTrue (both_at generates entries p u))

-- these are the steps by their tasks
pub record AreTasks (entries : List Entry) (tasks : Tasks) : Type 0 where
  pub shaped : IsShaped tasks
  pub numbers_listed : length tasks.numbers.items ≡ length entries
  pub same : (p q : ℕ) → p < length entries → q < length entries → (number tasks p == number tasks q) ≡ both_at of_one entries p q
  pub behind : (p : ℕ) → p < length entries → Behind entries tasks p
  pub origins : (p : ℕ) → p < length entries → IsOrigin entries tasks p

-- ---- by lanes: a lane is a row of tasks, each of which starts after the end of the one in front

-- of each step its lane, and how far each lane is in front of it: all its steps up to a bound; of each lane its newest step, and
-- how many lanes there are
pub record Lanes : Type 0 where
  pub lane : ℕ → ℕ
  pub bound : ℕ → ℕ → ℕ
  pub last : ℕ → ℕ
  pub count : ℕ

-- by these bounds q is in front, as a step of the lane with this index
abbrev pub says : (ℕ → ℕ) → ℕ → ℕ → Bool
says row k q = nat_lt q (row k)

-- the lane of the step at p
abbrev pub lane : Lanes → ℕ → ℕ
lane clocks p = clocks.lane p

-- the bounds of the step at p
abbrev pub row_at : Lanes → ℕ → ℕ → ℕ
row_at clocks p = clocks.bound p

-- q is a step of the lane, not after p, or the row says that it is in front
abbrev pub is_below : Lanes → (ℕ → ℕ) → ℕ → ℕ → ℕ → Bool
is_below clocks row k p q = (k == lane clocks q && nat_le q p) || says row (lane clocks q) q

-- what generates the task is q or comes after it
abbrev pub origin_reaches : Order → List Entry → ℕ → ℕ → Bool
origin_reaches o entries n q = if n == 0 then false else reaches o entries (n - 1) q

-- of what is in front of the step at p, which is in this lane, what the row says of
abbrev pub is_told : Order → List Entry → Tasks → Lanes → (ℕ → ℕ) → ℕ → ℕ → ℕ → Bool
is_told o entries tasks clocks row k p q =
    (k == lane clocks q && nat_lt q p) || (says row (lane clocks q) q || origin_reaches o entries (origin tasks p) q)

-- the clock of the step at p, which is in this lane, says what is in front of it
abbrev pub IsClock : Order → List Entry → Tasks → Lanes → (ℕ → ℕ) → ℕ → ℕ → Type 0
IsClock o entries tasks clocks row k p = (q : ℕ) → q < p → reaches o entries p q ≡ is_told o entries tasks clocks row k p q

-- the row says nothing of what is after the step at p
abbrev pub IsLow : (ℕ → ℕ) → ℕ → Type 0
IsLow row p = (k q : ℕ) → IsTrue (says row k q) → q < p

-- no step among the first n comes after that at b in its lane
abbrev pub IsLastOf : Lanes → ℕ → ℕ → Type 0
IsLastOf clocks n b = (q : ℕ) → b < q → q < n → lane clocks q ≢ lane clocks b

-- the lanes are those of the first n steps: each step's bounds say what is in front of it; the
-- steps of a task are of one lane, and others follow in it only after its end
pub record AreLanes (o : Order) (entries : List Entry) (tasks : Tasks) (n : ℕ) (clocks : Lanes) : Type 0 where
  pub low : (p : ℕ) → p < n → IsLow (row_at clocks p) p
  pub told : (p : ℕ) → p < n → IsClock o entries tasks clocks (row_at clocks p) (lane clocks p) p
  pub own : (p q : ℕ) → p < n → q < p → IsTrue (both_at of_one entries p q) → lane clocks p ≡ lane clocks q
  pub going : (b : ℕ) → b < n → IsLastOf clocks n b ⊎ (((c : ℕ) × (b < c) × (c < n) × IsTrue (both_at of_one entries c b)) ⊎ IsTrue (is_end_at entries b))
  pub few : (q : ℕ) → q < n → lane clocks q < clocks.count
  pub newest : (q : ℕ) → q < n → q ≤ clocks.last (lane clocks q)

-- the step at p can be in the lane with this index: its task's, else a new one or that of a task
-- that has ended
pub record IsLane (entries : List Entry) (clocks : Lanes) (k p : ℕ) : Type 0 where
  pub few : k ≤ clocks.count
  pub own : (q : ℕ) → q < p → IsTrue (both_at of_one entries p q) → k ≡ lane clocks q
  pub follows : (b : ℕ) → b < p → lane clocks b ≡ k → IsLastOf clocks p b → IsTrue (both_at of_one entries p b) ⊎ IsTrue (is_end_at entries b)

abbrev pub end_at : Ends → ℕ → ℕ
end_at ends i = slice_index_or ends.places.items i 0

abbrev pub skip_at : Ends → ℕ → ℕ
skip_at ends i = slice_index_or ends.skips.items i 0

-- an end among the first n steps
abbrev pub IsEnd : List Entry → ℕ → ℕ → Type 0
IsEnd entries n x = (x < n) × IsTrue (is_end_at entries x)

-- the ends are with what is skipped from each, the oldest first
pub record AreTied (o : Order) (entries : List Entry) (ends : Ends) : Type 0 where
  pub listed : length ends.skips.items ≡ length ends.places.items
  pub low : (i : ℕ) → i < length ends.places.items → skip_at ends i ≤ i
  pub ordered : (i j : ℕ) → i < length ends.places.items → j < i → end_at ends j ≤ end_at ends i
  pub skipped : (i j : ℕ) → i < length ends.places.items → skip_at ends i ≤ j → j < i → IsTrue (reaches o entries (end_at ends i) (end_at ends j))

-- these are the ends that are meant, the oldest first; each comes after those in front of it from
-- the one on that is listed
pub record AreRow (o : Order) (entries : List Entry) (P : ℕ → Type 0) (ends : Ends) : Type 0 where
  pub each : (i : ℕ) → i < length ends.places.items → P (end_at ends i)
  pub all : (x : ℕ) → P x → (i : ℕ) × (i < length ends.places.items) × (end_at ends i ≡ x)
  pub tied : AreTied o entries ends

abbrev pub AreEnds : Order → List Entry → ℕ → Ends → Type 0
AreEnds o entries n ends = AreRow o entries (IsEnd entries n) ends

-- one end more, the one at n, which comes after those from the one on that is listed
pub record IsEndMore (old : Ends) (n from : ℕ) (new : Ends) : Type 0 where
  pub places : new.places.items ≡ old.places.items ++ n ∷ []
  pub skips : new.skips.items ≡ old.skips.items ++ from ∷ []

-- what the row says of comes before the step at p, and so does what is in front of that
pub record IsSound (o : Order) (entries : List Entry) (tasks : Tasks) (clocks : Lanes) (row : ℕ → ℕ) (k p : ℕ) : Type 0 where
  pub sound : (q : ℕ) → q < p → IsTrue (is_told o entries tasks clocks row k p q) → IsTrue (is_after o entries p q)
  pub closed : (s q : ℕ) → s < p → q < p → IsTrue (is_told o entries tasks clocks row k p s) → IsTrue (is_after o entries s q) → IsTrue (is_told o entries tasks clocks row k p q)
  pub low : IsLow row p

-- the row has each end to which the step at p is linked
abbrev pub TellsEnds : Order → List Entry → Tasks → Lanes → (ℕ → ℕ) → ℕ → ℕ → Type 0
TellsEnds o entries tasks clocks row k p = (x : ℕ) → x < p → IsTrue (is_end_at entries x) → IsTrue (links_at o entries p x) → IsTrue (is_told o entries tasks clocks row k p x)

-- the row has the end at x, which is in front of the step at p
abbrev pub IsJoined : Order → List Entry → Tasks → Lanes → (ℕ → ℕ) → ℕ → ℕ → ℕ → Type 0
IsJoined o entries tasks clocks row k p x = (x < p) × IsTrue (is_end_at entries x) × IsTrue (is_told o entries tasks clocks row k p x)

-- the lane is the one with this index, k, or where that is a new one, the lane of an end which the
-- row has and that is the newest there
abbrev pub GoesOn : Order → List Entry → Tasks → Lanes → (ℕ → ℕ) → ℕ → ℕ → ℕ → Type 0
GoesOn o entries tasks clocks row k p j =
    (j ≡ k)
    ⊎ ((x : ℕ) × IsJoined o entries tasks clocks row k p x × (k ≡ clocks.count) × (j ≡ lane clocks x) × (clocks.last (lane clocks x) ≡ x))

-- what the step at p adds to the bounds: its lane up to it, and what its own bounds say
abbrev pub adds : Lanes → ℕ → ℕ → ℕ → Bool
adds clocks p k q = (lane clocks p == k && nat_le q p) || says (row_at clocks p) k q

-- what is in front of the step at s is added to the bounds, as far as it isn't listed
pub record Adds (o : Order) (entries : List Entry) (tasks : Tasks) (clocks : Lanes) (k p s : ℕ) (old new : ℕ → ℕ) : Type 0 where
  pub kept : (j q : ℕ) → IsTrue (says old j q) → IsTrue (says new j q)
  pub reached : (q : ℕ) → q < p → IsTrue (reaches o entries s q) → IsTrue (is_told o entries tasks clocks new k p q)
  pub sound : (q : ℕ) → q < p → IsTrue (says new (lane clocks q) q) → IsTrue (says old (lane clocks q) q) ⊎ IsTrue (reaches o entries s q)
  pub low : IsLow new p

-- ---- as they are stored

-- the row with this index, empty where there is none
abbrev pub kept_in : {A : Type 0} → List (Vec A Global) → ℕ → List A
kept_in {A} rows i = slice_index_or (map (λ (v : Vec A Global). v.items) rows) i []

abbrev pub row_in : List (Vec LaneBound Global) → ℕ → List LaneBound
row_in rows n = if n == 0 then [] else kept_in rows (n - 1)

-- the row of the step at p
abbrev pub row_of_step : Clocks → ℕ → List LaneBound
row_of_step clocks p = row_in clocks.rows.items (slice_index_or clocks.of.items p 0)

-- the lanes that are stored
abbrev pub lanes_of : Clocks → Lanes
lanes_of clocks = record {
  lane = λ p. slice_index_or clocks.lanes.items p 0;
  bound = λ p. bound_in (row_of_step clocks p);
  last = λ k. slice_index_or clocks.lasts.items k 0;
  count = length clocks.lasts.items;
}

-- what is stored is the lanes of the first n steps
pub record AreClocks (o : Order) (entries : List Entry) (tasks : Tasks) (n : ℕ) (clocks : Clocks) : Type 0 where
  pub listed : length clocks.of.items ≡ n
  pub laned : length clocks.lanes.items ≡ n
  pub within : (p : ℕ) → p < n → slice_index_or clocks.of.items p 0 ≤ length clocks.rows.items
  pub rising : (p : ℕ) → p < n → IsRising (row_of_step clocks p)
  pub lanes : AreLanes o entries tasks n (lanes_of clocks)

-- the step at p may be there: its row is the one with this index, and its lane this one
pub record IsStanding (o : Order) (entries : List Entry) (tasks : Tasks) (clocks : Clocks) (row k p : ℕ) : Type 0 where
  pub within : row ≤ length clocks.rows.items
  pub rising : IsRising (row_in clocks.rows.items row)
  pub clock : IsClock o entries tasks (lanes_of clocks) (bound_in (row_in clocks.rows.items row)) k p
  pub low : IsLow (bound_in (row_in clocks.rows.items row)) p
  pub lane : IsLane entries (lanes_of clocks) k p

-- the end at p was added
pub record AddsEnd (tasks : Tasks) (clocks : Clocks) (p : ℕ) (old new : Ends) : Type 0 where
  pub from : ℕ
  pub more : IsEndMore old p from new
  pub few : from ≤ length old.places.items
  pub newest : (i : ℕ) → i < length old.places.items → end_at old i ≤ p
  pub reached : (o : Order) (entries : List Entry) → AreTasks entries tasks → AreClocks o entries tasks (p + 1) clocks → AreTied o entries old → (j : ℕ) → from ≤ j → j < length old.places.items → IsTrue (reaches o entries p (end_at old j))

-- one step more, the one at n
pub record IsOneMore (old : Clocks) (row k n : ℕ) (new : Clocks) : Type 0 where
  pub of : new.of.items ≡ old.of.items ++ row ∷ []
  pub rows : new.rows.items ≡ old.rows.items
  pub lanes : new.lanes.items ≡ old.lanes.items ++ k ∷ []
  pub within : k < length new.lasts.items
  pub more : length old.lasts.items ≤ length new.lasts.items
  pub last : slice_index_or new.lasts.items k 0 ≡ n
  pub others : (j : ℕ) → j ≢ k → j < length old.lasts.items → slice_index_or new.lasts.items j 0 ≡ slice_index_or old.lasts.items j 0

-- each of the first n steps has its ordinal among those of its task
abbrev pub AreOrdinals : List Entry → ℕ → List ℕ → Type 0
AreOrdinals entries n ks = (p : ℕ) → p < n → (v : Entry) → slice_get entries p ≡ Some v → slice_index_or ks p 0 ≡ suc (length (own v.event.task (history_of (take p entries))))
