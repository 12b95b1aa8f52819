-- What needs a step and what it needs, directly or through others. Lists come from the newest event.
use Rattle.std.specs.Prelude.{◌≡◌, ◌<◌, ◌≤◌, length, ℕ, Bool, List, [], ◌∷◌, ◌++◌, map, reverse, Some, slice_get, take, if◌then◌else◌}
use Rattle.std.specs.Option.{option_to_list}
use Rattle.std.specs.List.{All, list_any}
use Rattle.tb_model.specs.declared.step_id.StepId.{StepId}
use Rattle.tb_model.specs.Facts.{History, prepend_if}
use Rattle.tb_model.specs.Causes.{Placed, causes}
use Rattle.tb_model.specs.Needers.{is_needer}
use Rattle.tb_model.specs.Needs.{is_step, step_of}
use Rattle.tb_steps.specs.Entries.{Entry}
use Rattle.tb_core.specs.Rolled.{removed_places, removed_steps}
use Rattle.tb_steps.specs.Scans.{history_of, step_at}
use Rattle.tb_cause.specs.declared.cone.Cone.{Cone}
use Rattle.tb_cause.specs.Indexes.{items_told}
use Rattle.tb_cause.specs.Keys.{Key, gives}

-- the steps that need e, itself not among them
abbrev pub needers : StepId → History → List StepId
needers e [] = []
needers e (v ∷ H) = prepend_if (is_needer e H v) (step_of H v) (needers e H)

-- the steps that e needs, none where it isn't there
abbrev pub causes_of : StepId → History → List StepId
causes_of e [] = []
causes_of e (v ∷ H) = if is_step e H v then causes H v H else causes_of e H

-- e with all that need it, by their indexes and by their names
pub record IsCone (e : StepId) (H : History) (c : Cone) : Type 0 where
  pub places : c.places.items ≡ reverse (removed_places e H)
  pub steps : c.steps.items ≡ reverse (removed_steps e H)

-- these are the indexes of e and of all that need it, and their names there are theirs
pub record AreAllFound (e : StepId) (entries : List Entry) (found : List ℕ) : Type 0 where
  pub places : found ≡ reverse (removed_places e (history_of entries))
  pub names : map (step_at entries) found ≡ map (λ (s : StepId). Some s) (reverse (removed_steps e (history_of entries)))

-- these are the indexes of e, which is at this index, and of all that need it: all within the
-- stored steps, and none in front of e
pub record AreAllBehind (e : StepId) (entries : List Entry) (at : ℕ) (places : List ℕ) : Type 0 where
  pub found : AreAllFound e entries places
  pub inside : All (λ p. p < length entries) places
  pub behind : All (λ p. at ≤ p) places

-- the events of the stored steps at these indexes
abbrev pub events_at : List Entry → List ℕ → History
events_at entries [] = []
events_at entries (p ∷ places) = map (λ (x : Entry). x.event) (option_to_list (slice_get entries p)) ++ events_at entries places

-- these are the keys that the events at these indexes give
abbrev pub AreGivenAt : List Entry → List ℕ → (Key → Bool) → Type 0
AreGivenAt entries places f = (k : Key) → f k ≡ list_any (λ u. gives (items_told entries) u k) (events_at entries places)

-- the events of the stored steps at these indexes, each with what is before it
abbrev pub placed_at : List Entry → List ℕ → List Placed
placed_at entries [] = []
placed_at entries (p ∷ places) =
    map (λ (x : Entry). record { event = x.event; front = history_of (take p entries) }) (option_to_list (slice_get entries p)) ++ placed_at entries places
