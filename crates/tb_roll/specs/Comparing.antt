-- Whether the steps of a history are found in another, in the order of its direct needs.
use Rattle.std.specs.Prelude.{◌≡◌, ◌<◌, ◌++◌, ℕ, suc, List, Option, Some, IsTrue, length, slice_get, take}
use Rattle.std.specs.Option.{option_map}
use Rattle.tb_model.specs.declared.action.Action.{Action}
use Rattle.tb_model.specs.declared.step_id.StepId.{StepId}
use Rattle.tb_model.specs.Equivalent.{comes_first, needs_in}
use Rattle.tb_model.specs.Facts.{History, own}
use Rattle.tb_model.specs.Names.{Name}
use Rattle.tb_steps.specs.Entries.{Entry}
use Rattle.tb_steps.specs.Scans.{history_of, step_at}

-- the first actions are the oldest of all
abbrev pub AreOldest : List Action → List Action → Type 0
AreOldest acts all = (newer : List Action) × (all ≡ newer ++ acts)

-- each step of G is in H with its action, and each two of which one directly needs the other in G
-- come so in H
pub record IsFoundIn (G H : History) : Type 0 where
  pub acts : (t : Name) → AreOldest (own t G) (own t H)
  pub order : (i j : StepId) → IsTrue (needs_in i j G) → IsTrue (comes_first j i H)

-- ---- by indexes

abbrev pub AreFound : List Entry → List Entry → Type 0
AreFound entries others = (t : Name) → AreOldest (own t (history_of entries)) (own t (history_of others))

-- the action of the step at this index
abbrev pub action_at : List Entry → ℕ → Option Action
action_at entries p = option_map (λ (e : Entry). e.event.action) (slice_get entries p)

-- the step at index p is at index q of the others, with the same action
pub record IsSameStep (entries : List Entry) (p : ℕ) (others : List Entry) (q : ℕ) : Type 0 where
  pub within : q < length others
  pub step : step_at others q ≡ step_at entries p
  pub action : action_at others q ≡ action_at entries p

-- these are the indexes of the first steps among the others
abbrev pub AreMatched : List Entry → List ℕ → List Entry → Type 0
AreMatched entries places others = (p q : ℕ) → slice_get places p ≡ Some q → IsSameStep entries p others q

-- the step of the task that follows those in front of this index
abbrev pub next_step : Name → List Entry → ℕ → StepId
next_step t entries begin = record { task = t; k = suc (length (own t (history_of (take begin entries)))) }
