-- The steps that a step may need, walked from the newest on.
use Rattle.std.specs.Prelude.{ℕ, suc, ◌≡◌, ◌⊎◌, ◌<◌, ◌≤◌, ◌-◌, ◌==◌, List, [], ◌∷◌, if◌then◌else◌, length, IsTrue}
use Rattle.tb_steps.specs.Entries.{Entry}
use Rattle.tb_races.specs.Orders.{AllNeeds}
use Rattle.tb_lanes.specs.declared.tasks.Tasks.{Tasks}
use Rattle.tb_lanes.specs.declared.clocks.Clocks.{Clocks}
use Rattle.tb_lanes.specs.declared.step.Step.{Step}
use Rattle.tb_order.specs.declared.needing.Needed.{Needed}
use Rattle.tb_lanes.specs.Bounds.{AreRising, bound_among}
use Rattle.tb_lanes.specs.Clocks.{IsLow, is_told, lanes_of, previous}
use Rattle.tb_lanes.specs.Needing.{place_at}
use Rattle.tb_order.specs.Needed.{AreApart, IsAmong, IsCandidate, IsMet, is_pending}

-- the index in front of first, none where that is 0
abbrev pub first_places : ℕ → List ℕ
first_places first = if first == 0 then [] else (first - 1) ∷ []

-- these indexes and the one in front of first, the oldest first
pub record IsWalked (found : List ℕ) (first : ℕ) (order : List ℕ) : Type 0 where
  pub each : (i : ℕ) → i < length order → IsAmong found (place_at order i) ⊎ (first ≡ suc (place_at order i))
  pub all : (c : ℕ) → IsAmong found c ⊎ (first ≡ suc c) → IsAmong order c
  pub rising : (i j : ℕ) → i ≤ j → j < length order → place_at order i ≤ place_at order j

-- the rows have q
abbrev pub has_row : List Entry → Tasks → Clocks → Step → Needed → ℕ → Type 0
has_row entries tasks clocks s needed q = IsTrue (is_told AllNeeds entries tasks (lanes_of clocks) (bound_among needed.rows.items) s.lane s.at q)

-- what was found so far is apart, and the rows tell of it and what is in front of it
pub record IsSoFar (entries : List Entry) (tasks : Tasks) (clocks : Clocks) (s : Step) (needed : Needed) : Type 0 where
  pub rising : AreRising needed.rows.items
  pub under : IsLow (bound_among needed.rows.items) s.at
  pub sound : (q : ℕ) → q < s.at → has_row entries tasks clocks s needed q → IsMet entries s.at needed.places.items q
  pub enough : (q : ℕ) → q < s.at → IsTrue (is_pending entries tasks s.at q) → IsMet entries s.at needed.places.items q
      → has_row entries tasks clocks s needed q
  pub low : (i : ℕ) → i < length needed.places.items → place_at needed.places.items i < s.at
  pub listed : (i : ℕ) → i < length needed.places.items
      → (previous tasks s.at ≡ suc (place_at needed.places.items i)) ⊎ IsCandidate entries tasks s.at (place_at needed.places.items i)
  pub apart : AreApart entries needed.places.items

-- the step may be needed: it touches the task, or it is a candidate
abbrev pub IsOffered : List Entry → Tasks → ℕ → ℕ → Type 0
IsOffered entries tasks p c = (previous tasks p ≡ suc c) ⊎ IsCandidate entries tasks p c
