-- The ends to which a step is linked, and what it comes after by way of them.
use Rattle.std.specs.Prelude.{ℕ, ◌⊎◌, ◌<◌, List, length, slice_index_or, IsTrue}
use Rattle.tb_steps.specs.Entries.{Entry}
use Rattle.tb_races.specs.Orders.{Order, counts_conflicts}
use Rattle.tb_lanes.specs.declared.tasks.Tasks.{Tasks}
use Rattle.tb_lanes.specs.Clocks.{Lanes, both_at, is_after, is_end_at, is_told, links_at, reaches, touches}
use Rattle.tb_lanes.specs.Kept.{shares_at}

abbrev pub place_at : List ℕ → ℕ → ℕ
place_at places i = slice_index_or places i 0

-- one of these is the step at q, or comes after it
abbrev pub IsBelow : Order → List Entry → List ℕ → ℕ → Type 0
IsBelow o entries places q = (i : ℕ) × (i < length places) × IsTrue (reaches o entries (place_at places i) q)

-- a step that touches the task of the one at p is the one at q, or comes after it
abbrev pub IsTouched : Order → List Entry → ℕ → ℕ → Type 0
IsTouched o entries p q = (b : ℕ) × (b < p) × IsTrue (both_at touches entries p b) × IsTrue (reaches o entries b q)

-- all which the row has comes from a step that touches the task
abbrev pub IsOwn : Order → List Entry → Tasks → Lanes → (ℕ → ℕ) → ℕ → ℕ → Type 0
IsOwn o entries tasks clocks row k p = (q : ℕ) → q < p → IsTrue (is_told o entries tasks clocks row k p q) → IsTouched o entries p q

-- x is an end in front of the step at p, which is linked to it
abbrev pub IsLinkedEnd : Order → List Entry → ℕ → ℕ → Type 0
IsLinkedEnd o entries p x = (x < p) × IsTrue (is_end_at entries x) × IsTrue (links_at o entries p x)

-- x is an end in front of the step at p, which comes after it
abbrev pub IsEndBefore : Order → List Entry → ℕ → ℕ → Type 0
IsEndBefore o entries p x = (x < p) × IsTrue (is_end_at entries x) × IsTrue (is_after o entries p x)

-- these are ends to which the step at p is linked, and whatever end it is linked to is reached from one of them or by what
-- touches its task
pub record FindsEnds (o : Order) (entries : List Entry) (p : ℕ) (found : List ℕ) : Type 0 where
  pub each : (i : ℕ) → i < length found → IsLinkedEnd o entries p (place_at found i)
  pub all : (x : ℕ) → IsLinkedEnd o entries p x → IsTouched o entries p x ⊎ IsBelow o entries found x

-- where conflicts count, the row has each step with which the one at p shares something
abbrev pub TellsShared : Order → List Entry → Tasks → Lanes → (ℕ → ℕ) → ℕ → ℕ → Type 0
TellsShared o entries tasks clocks row k p = IsTrue (counts_conflicts o) → (x : ℕ) → x < p → IsTrue (shares_at entries p x) → IsTrue (is_told o entries tasks clocks row k p x)
