-- The steps that an event needs, and one pass from the newest event of the history that finds them.
use Rattle.std.specs.Prelude.{List, [], ◌∷◌, Bool, if◌then◌else◌}
use Rattle.std.specs.List.{list_any}
use Rattle.tb_model.specs.declared.event.Event.{Event}
use Rattle.tb_model.specs.declared.step_id.StepId.{StepId}
use Rattle.tb_model.specs.Facts.{History, prepend_if}
use Rattle.tb_model.specs.Needs.{needs, step_of, is_removed}

-- the steps of K, the front part of H, that v needs after H, the newest first
abbrev pub causes : History → Event → History → List StepId
causes H v [] = []
causes H v (u ∷ K) = prepend_if (is_removed (step_of K u) H v) (step_of K u) (causes H v K)

-- an event, and what is before it
pub record Placed : Type 0 where
  pub event : Event
  pub front : History

-- one of these directly needs u
abbrev pub some_needs : List Placed → Event → Bool
some_needs found u = list_any (λ p. needs p.front p.event u) found

-- the steps that one of these needs, directly or by way of those found on the way
abbrev pub causes_by_pass : List Placed → History → List StepId
causes_by_pass found [] = []
causes_by_pass found (u ∷ K) =
    if some_needs found u then step_of K u ∷ causes_by_pass (record { event = u; front = K } ∷ found) K else causes_by_pass found K
