-- Which events need which, and what is left without one of them and all that need it.
use Rattle.std.specs.Prelude.{suc, [], ◌∷◌, Bool, false, ◌&&◌, ◌||◌, not, ◌==◌, length, ◌++◌}
use Rattle.std.specs.List.{list_any}
use Rattle.tb_model.specs.declared.action.Action.{Action}
use Rattle.tb_model.specs.declared.action.Action.TheVariants.{Start, Load, Store, Wait, Close}
use Rattle.tb_model.specs.declared.event.Event.{Event}
use Rattle.tb_model.specs.declared.step_id.StepId.{StepId}
use Rattle.tb_model.specs.Names.{Name}
use Rattle.tb_model.specs.Facts.{History, is_of, own, before, apart, is_member, covers, holds, is_end, is_print, is_store_to, touches, spawns, prepend_if}

-- both actions touch one cell, and at least one of them stores
abbrev pub conflicts : Action → Action → Bool
conflicts (Store c x) b = touches c b
conflicts (Load r c x) b = is_store_to c b
conflicts _ b = false

-- the action, of t and after H, waits for the end of u: a start for those before it and those that
-- exclude it, a `taskwait` for the children that it covers, the end of a `taskgroup` for its
-- members
abbrev pub waits_for : History → Name → Action → Name → Bool
waits_for H t Start u = before H u t || apart H u t
waits_for H t (Wait items) u = covers H t items u
waits_for H t Close u = is_member (own t H) u
waits_for H t _ u = false

-- the action, of t and after H, needs the end of u: it waits for it, or u is the undeferred child
-- for which t waited
abbrev pub needs_end_of : History → Name → Action → Name → Bool
needs_end_of H t a u = holds (own t H) u || waits_for H t a u

-- v, after H, directly needs the event u of H: both are of one task; u generates the task of v;
-- they conflict over a cell; v waits for the end that u is; both print
abbrev pub needs : History → Event → Event → Bool
needs H v u =
    is_of v.task u
    || (spawns v.task u
    || (conflicts v.action u.action
    || ((is_end u.action && needs_end_of H v.task v.action u.task)
    || (is_print v.action && is_print u.action))))

-- v, after H, is the step e
abbrev pub is_step : StepId → History → Event → Bool
is_step e H v = is_of e.task v && (e.k == suc (length (own e.task H)))

-- the step that v is after H
abbrev pub step_of : History → Event → StepId
step_of H v = record { task = v.task; k = suc (length (own v.task H)) }

-- the step e and all that need it, in the order of the history
abbrev pub removed : StepId → History → History
removed e [] = []
removed e (v ∷ H) = prepend_if (is_step e H v || list_any (needs H v) (removed e H)) v (removed e H)

-- v, after H, is e or needs it
abbrev pub is_removed : StepId → History → Event → Bool
is_removed e H v = is_step e H v || list_any (needs H v) (removed e H)

-- what is left of H without the step e and all that need it
abbrev pub without : StepId → History → History
without e [] = []
without e (v ∷ H) = prepend_if (not (is_removed e H v)) v (without e H)

-- of the later part of a history, what is left without the step e and all that need it
abbrev pub kept : StepId → History → History → History
kept e [] front = []
kept e (w ∷ later) front = prepend_if (not (is_removed e (later ++ front) w)) w (kept e later front)
