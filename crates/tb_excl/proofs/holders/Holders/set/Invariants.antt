use Rattle.std.proofs.Common.{◌≡◌, ℕ, Some, drop}
use Rattle.tb_excl.specs.Holders.{HasRoomFor, KeepsRoom}
use Rattle.tb_excl.proofs.RoomLemmas.{IsLeft}
use Rattle.tb_excl.proofs.holders.Holders.set.Given as goal

abbrev pub invariant-loop-item : goal.invariant-loop-item
invariant-loop-item l = record {
  left : IsLeft l.fn.self l.items l.to l.self (drop l.item-index l.items);
  room : (n : ℕ) → l.to ≡ Some n → HasRoomFor l.self (drop l.item-index l.items);
  kept : KeepsRoom l.fn.self l.self;
}
