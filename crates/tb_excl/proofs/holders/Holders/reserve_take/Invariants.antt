use Rattle.std.proofs.Common.{drop}
use Rattle.tb_excl.specs.Holders.{HasRoomFor, KeepsRoom, IsSame}
use Rattle.tb_excl.proofs.RoomLemmas.{AreDone}
use Rattle.tb_excl.proofs.holders.Holders.reserve_take.Given as goal

abbrev pub invariant-loop-item : goal.invariant-loop-item
invariant-loop-item l = record {
  same : IsSame l.fn.self l.self;
  done : AreDone l.self l.items (drop l.item-index l.items);
  room : HasRoomFor l.fn.self l.items → HasRoomFor l.self (drop l.item-index l.items);
  kept : KeepsRoom l.fn.self l.self;
}
