use Rattle.std.proofs.Common.{◌≡◌, ◌*◌, ◌≤◌, take}
use Rattle.tb_work.specs.Receipts.{receipts_in}
use Rattle.tb_work.proofs.going.count.Given as goal

-- the receipts so far are counted
abbrev pub invariant-loop-seat : goal.invariant-loop-seat
invariant-loop-seat g l = (l.sum ≡ receipts_in (take l.seat-index l.seats)) × (l.sum ≤ l.seat-index * 4294967295)
