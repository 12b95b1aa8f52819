-- What needs a step and what it needs are steps of the history, in its order.
use Rattle.std.proofs.Common.{List, [], ◌∷◌, inl, inr, Bool, true, false, cond, refl}
use Rattle.tb_model.specs.declared.event.Event.{Event}
use Rattle.tb_model.specs.declared.step_id.StepId.{StepId}
use Rattle.tb_model.specs.Facts.{History, prepend_if}
use Rattle.tb_model.specs.Needs.{is_step, is_removed, step_of}
use Rattle.tb_model.specs.Needers.{is_needer}
use Rattle.tb_model.specs.Causes.{causes}
use Rattle.tb_cause.specs.Chains.{needers, causes_of}
use Rattle.tb_view.specs.Steps.{AreStepsOf}

more : (b : Bool) (S : List StepId) (H : History) (v : Event) → AreStepsOf S H → AreStepsOf (prepend_if b (step_of H v) S) (v ∷ H)
more true S H v h = inr (S, refl, h)
more false S H v h = inl h

pub needers_are : (e : StepId) (H : History) → AreStepsOf (needers e H) H
needers_are e [] = refl
needers_are e (v ∷ H) = more (is_needer e H v) (needers e H) H v (needers_are e H)

causes_are : (H : History) (v : Event) (K : History) → AreStepsOf (causes H v K) K
causes_are H v [] = refl
causes_are H v (u ∷ K) = more (is_removed (step_of K u) H v) (causes H v K) K u (causes_are H v K)

pub causes_of_are : (e : StepId) (H : History) → AreStepsOf (causes_of e H) H
causes_of_are e [] = refl
causes_of_are e (v ∷ H) = inl (at (is_step e H v) (causes_of_are e H))
  where
    at : (b : Bool) → AreStepsOf (causes_of e H) H → AreStepsOf (cond b (causes H v H) (causes_of e H)) H
    at true more = causes_are H v H
    at false more = more
