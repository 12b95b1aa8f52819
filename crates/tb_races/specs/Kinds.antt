-- Why a later event directly needs an earlier one. Where several kinds hold, the first counts.
use Rattle.std.specs.Prelude.{Bool, Option, Some, None, option_map, if◌then◌else◌}
use Rattle.std.specs.Option.{option_or}
use Rattle.tb_model.specs.declared.action.Action.{Action}
use Rattle.tb_model.specs.declared.action.Action.TheVariants.{Start, Load, Store, Print, Wait, Close}
use Rattle.tb_model.specs.declared.event.Event.{Event}
use Rattle.tb_model.specs.Names.{Name}
use Rattle.tb_model.specs.Facts.{History, is_of, own, before, apart, is_member, covers, holds, is_end, is_print, is_store_to, touches, spawns}
use Rattle.tb_races.specs.declared.conflict.Conflict.{Conflict}
use Rattle.tb_races.specs.declared.conflict.Conflict.TheVariants.{Cell, Print as Prints}
use Rattle.tb_races.specs.declared.need_kind.NeedKind.{NeedKind}
use Rattle.tb_races.specs.declared.need_kind.NeedKind.TheVariants.{Task, Spawn, Conflict as Conflicts, Before, Apart, Wait as Waits, Group, Undeferred}

-- the value, where the test passed
abbrev pub some_if : {A : Type 0} → Bool → A → Option A
some_if b x = if b then Some x else None

-- what a later and an earlier action share: a cell that both touch and one of them stores to, or the output
abbrev pub shared : Action → Action → Option Conflict
shared (Store c x) b = some_if (touches c b) (Cell c)
shared (Load r c x) b = some_if (is_store_to c b) (Cell c)
shared (Print x) b = some_if (is_print b) Prints
shared _ b = None

-- why the action, of t and after H, waits for the end of u
abbrev pub wait_kind : History → Name → Action → Name → Option NeedKind
wait_kind H t Start u = option_or (some_if (before H u t) Before) (some_if (apart H u t) Apart)
wait_kind H t (Wait items) u = some_if (covers H t items u) Waits
wait_kind H t Close u = some_if (is_member (own t H) u) Group
wait_kind H t _ u = None

-- why the action, of t and after H, needs the end of u: why it waits for it, or that u is the
-- undeferred child for which t waited
abbrev pub end_kind : History → Name → Action → Name → Option NeedKind
end_kind H t a u = option_or (wait_kind H t a u) (some_if (holds (own t H) u) Undeferred)

-- why v, after H, directly needs the event u of H: none where it doesn't
abbrev pub need_kind : History → Event → Event → Option NeedKind
need_kind H v u =
    if is_of v.task u then Some Task
    else (if spawns v.task u then Some Spawn
    else option_or (option_map Conflicts (shared v.action u.action)) (if is_end u.action then end_kind H v.task v.action u.task else None))
