use Rattle.std.proofs.Common.{◌≡◌, length}
use Rattle.tb_order.specs.Pending.{AreUntil}
use Rattle.tb_order.proofs.pending.last_uses.Given as goal

-- so far no step asks later than is listed
abbrev pub invariant-loop-at : goal.invariant-loop-at
invariant-loop-at l = record {
  listed : length l.until.items ≡ l.at;
  until : AreUntil l.tasks l.at l.until.items;
}
