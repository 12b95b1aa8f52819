-- Which kinds of need count as order.
use Rattle.std.specs.Prelude.{Bool, true, false, Option}
use Rattle.std.specs.Option.{option_or}
use Rattle.tb_model.specs.Names.{Name}
use Rattle.tb_model.specs.Facts.{History, before, apart}
use Rattle.tb_races.specs.declared.need_kind.NeedKind.{NeedKind}
use Rattle.tb_races.specs.declared.need_kind.NeedKind.TheVariants.{Before, Apart}
use Rattle.tb_races.specs.Kinds.{some_if}
use Rattle.tb_races.specs.Orders.{Order, Synchronised, WithExclusion, counts_some}

-- with exclusion or without
abbrev pub order_of : Bool → Order
order_of true = WithExclusion
order_of false = Synchronised

abbrev pub counts_in : Bool → Option NeedKind → Bool
counts_in exclusion kind = counts_some (order_of exclusion) kind

abbrev pub start_kind : History → Name → Name → Option NeedKind
start_kind H t u = option_or (some_if (before H u t) Before) (some_if (apart H u t) Apart)
