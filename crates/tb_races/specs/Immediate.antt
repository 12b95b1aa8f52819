-- The immediate needs of an event: those that no other need of it needs too.
use Rattle.std.specs.Prelude.{List, [], ◌∷◌, ◌++◌, Bool, Option, None, option_map, if◌then◌else◌}
use Rattle.std.specs.Option.{option_to_list}
use Rattle.std.specs.List.{list_any}
use Rattle.tb_model.specs.declared.event.Event.{Event}
use Rattle.tb_model.specs.declared.step_id.StepId.{StepId}
use Rattle.tb_model.specs.Facts.{History, prepend_if}
use Rattle.tb_model.specs.Needs.{needs, is_step, step_of}
use Rattle.tb_model.specs.Needers.{is_needer}
use Rattle.tb_model.specs.Closure.{Needs}
use Rattle.tb_races.specs.declared.cause.Cause.{Cause}
use Rattle.tb_races.specs.declared.need_kind.NeedKind.{NeedKind}
use Rattle.tb_races.specs.Kinds.{need_kind}

-- the newest event of F needs that of H, and no event that it needs does; an event is named with all in front of it
pub record IsImmediate (F H : History) : Type 0 where
  pub needs : Needs F H
  pub nothing_between : (G : History) → Needs F G → Needs G H → ⊥

-- the events that need the step e, itself not among them
abbrev pub needing : StepId → History → History
needing e [] = []
needing e (v ∷ H) = prepend_if (is_needer e H v) v (needing e H)

-- the kind and the step together
abbrev pub as_cause : StepId → NeedKind → Cause
as_cause e kind = record { kind = kind; step = e }

-- v, after H, directly needs an event that needs the step e
abbrev pub needs_by_way : StepId → History → Event → Bool
needs_by_way e H v = list_any (needs H v) (needing e H)

-- u, the newest event of the front part u ∷ K of H, as an immediate need of v, after H: none where
-- it isn't one
abbrev pub cause : History → Event → History → Event → Option Cause
cause H v K u = if needs_by_way (step_of K u) H v then None else option_map (as_cause (step_of K u)) (need_kind H v u)

-- the immediate needs of v, after H, among the events of K, the front part of H, the newest first
abbrev pub immediate : History → Event → History → List Cause
immediate H v [] = []
immediate H v (u ∷ K) = option_to_list (cause H v K u) ++ immediate H v K

-- the immediate needs of the step e, none where it isn't there
abbrev pub immediate_of : StepId → History → List Cause
immediate_of e [] = []
immediate_of e (v ∷ H) = if is_step e H v then immediate H v H else immediate_of e H
