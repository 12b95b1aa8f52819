-- What goes where a step is taken back with all that need it, and what that leaves.
use Rattle.std.specs.Prelude.{◌≡◌, ℕ, List, [], ◌∷◌, length, reverse}
use Rattle.tb_model.specs.declared.step_id.StepId.{StepId}
use Rattle.tb_model.specs.Facts.{History, prepend_if}
use Rattle.tb_model.specs.Lines.{without_lines}
use Rattle.tb_model.specs.Needs.{is_removed, step_of, without}
use Rattle.tb_core.specs.declared.removed.Removed.{Removed}
use Rattle.tb_core.specs.declared.rollback.Rollback.{Rollback}
use Rattle.tb_core.specs.Seen.{Seen, history}

-- ---- the step e and all that need it, the newest first

-- by their indexes: the index of an event is how many are before it
abbrev pub removed_places : StepId → History → List ℕ
removed_places e [] = []
removed_places e (v ∷ H) = prepend_if (is_removed e H v) (length H) (removed_places e H)

-- by their names
abbrev pub removed_steps : StepId → History → List StepId
removed_steps e [] = []
removed_steps e (v ∷ H) = prepend_if (is_removed e H v) (step_of H v) (removed_steps e H)

-- by their names, with what they did
abbrev pub removals : StepId → History → List Removed
removals e [] = []
removals e (v ∷ H) = prepend_if (is_removed e H v) (record { id = step_of H v; action = v.action }) (removals e H)

-- ---- the call

-- of this history these are the step and all that need it, and it has so many events
pub record IsOfHistory (H : History) (r : Rollback) : Type 0 where
  pub places : r.places.items ≡ reverse (removed_places r.step H)
  pub steps : r.steps.items ≡ reverse (removed_steps r.step H)
  pub count : r.count ≡ length H

-- the step and all that need it are gone, and nothing else; they are returned in the order of the
-- history
pub record RollsBack (s : Seen) (e : StepId) (new : Seen) (answer : List Removed) : Type 0 where
  pub cells : new.cells ≡ s.cells
  pub root_line : new.root_line ≡ s.root_line
  pub limit : new.limit ≡ s.limit
  pub steps : new.steps ≡ without_lines e s.steps
  pub rest : history new ≡ without e (history s)
  pub gone : answer ≡ reverse (removals e (history s))
