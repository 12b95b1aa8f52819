-- How what is stored changes where steps are taken back: it says the stored steps that are gone
-- through. No public clause cites this module.
use Rattle.std.specs.Prelude.{◌≡◌, ◌≤◌, ◌<◌, ◌++◌, ℕ, List, false, length, take, drop, reverse}
use Rattle.tb_model.specs.declared.step_id.StepId.{StepId}
use Rattle.tb_places.specs.Renumbering.{goes_at, left_from}
use Rattle.tb_undo.specs.State.{Seen as Tables}
use Rattle.tb_core.specs.declared.entry.Entry.{Entry as Stored}
use Rattle.tb_core.specs.declared.removed.Removed.{Removed}
use Rattle.tb_steps.specs.Entries.{Entry}
use Rattle.tb_core.specs.Unwinding.{StayTied, Unwinds, Unwound}

-- so many stored steps are as they were; of those after them the ones at the done indexes are
-- hollow, the retained ones stay, and these indexes and steps are still to go
pub record UnwindsAt (e : StepId) (old : List Entry) (before : Tables) (ss now : List Stored) (tables : Tables) (places done : List ℕ) (steps : List StepId) (removed : List Removed) (count : ℕ) : Type 0 where
  pub within : count ≤ length ss
  pub len : length now ≡ length ss
  pub same : take count now ≡ take count ss
  pub others : left_from count done (drop count now) ≡ left_from count done (drop count ss)
  pub behind : (at : ℕ) → at < count → goes_at at done ≡ false
  pub kept : List Entry
  pub stay : reverse kept ≡ left_from count done (drop count old)
  pub unwinds : Unwinds e old (take count old) kept places steps removed
  pub tied : StayTied (reverse old) before (kept ++ reverse (take count old)) tables

-- all that go are taken back, and the others are left
pub record UnwoundOf (e : StepId) (going : List ℕ) (old : List Entry) (before tables : Tables) (removed : List Removed) : Type 0 where
  pub entries : List Entry
  pub kept : List Entry
  pub left : entries ++ reverse kept ≡ left_from 0 going old
  pub unwound : Unwound e old before entries kept tables removed
