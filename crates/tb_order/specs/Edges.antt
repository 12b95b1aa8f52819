-- The immediate needs of all steps.
use Rattle.std.specs.Prelude.{List, [], ◌∷◌, ◌++◌, map}
use Rattle.tb_model.specs.declared.step_id.StepId.{StepId}
use Rattle.tb_model.specs.Facts.{History}
use Rattle.tb_model.specs.Needs.{step_of}
use Rattle.tb_races.specs.declared.cause.Cause.{Cause}
use Rattle.tb_races.specs.Immediate.{immediate}
use Rattle.tb_order.specs.declared.edge.Edge.{Edge}

-- an immediate need of the step e
abbrev pub as_edge : StepId → Cause → Edge
as_edge e c = record { earlier = c.step; later = e; kind = c.kind }

-- the immediate needs of each event, the newest first; of an event that with the newest step first
abbrev pub edges : History → List Edge
edges [] = []
edges (v ∷ H) = map (as_edge (step_of H v)) (immediate H v H) ++ edges H
