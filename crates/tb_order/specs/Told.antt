-- The immediate needs of a step by their indexes.
use Rattle.std.specs.Prelude.{ℕ, List, Option, Some, None, take, slice_get}
use Rattle.tb_model.specs.declared.event.Event.{Event}
use Rattle.tb_model.specs.Facts.{History}
use Rattle.tb_steps.specs.Entries.{Entry}
use Rattle.tb_steps.specs.Scans.{history_of}
use Rattle.tb_races.specs.declared.cause.Cause.{Cause}
use Rattle.tb_races.specs.Immediate.{cause}

abbrev pub told_so : History → Event → History → Option Entry → Option Cause
told_so H v K None = None
told_so H v K (Some u) = cause H v K u.event

-- the stored step at this index, as an immediate need of v after these stored steps
abbrev pub told : List Entry → Event → ℕ → Option Cause
told front v p = told_so (history_of front) v (history_of (take p front)) (slice_get front p)
