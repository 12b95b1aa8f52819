-- What a step replaced, as it is in its stored step.
use Rattle.std.specs.Prelude.{ℕ, ℤ, Option, Some, None, unwrap_or}
use Rattle.tb_model.specs.declared.action.Action.{Action}
use Rattle.tb_model.specs.declared.action.Action.TheVariants.{Let, Load, Store}
use Rattle.tb_model.specs.declared.event.Event.{Event}
use Rattle.tb_store.specs.declared.replaced.Replaced.{Replaced}
use Rattle.tb_undo.specs.Tasks.{register_by}
use Rattle.tb_steps.specs.Entries.{Entry}

-- the value, where the action is one that replaces a value
abbrev pub number_in : Action → ℤ → Option ℤ
number_in (Let r x) n = Some n
number_in (Load r c x) n = Some n
number_in (Store c x) n = Some n
number_in _ n = None

abbrev pub replaced_in : Entry → Replaced
replaced_in e = record { number = number_in e.event.action e.number; reg = register_by e.event.action; at = e.at }

abbrev pub packed : Event → ℕ → Replaced → Entry
packed v to r = record { event = v; to = to; at = r.at; number = unwrap_or r.number (ℤ.pos 0) }
