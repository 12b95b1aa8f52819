use Rattle.std.proofs.Common.{◌≡◌, ◌+◌, vec_len}
use Rattle.tb_work.specs.Receipts.{HaveNumbers, AreBelow, receipts_in}
use Rattle.tb_work.proofs.adopting.seats_for.Given as goal

-- the seats so far have their numbers, and the rest of the share is for the others
abbrev pub invariant-loop-number : goal.invariant-loop-number
invariant-loop-number g l = (l.rest.parts + l.number ≡ l.count) × (l.rest.amount ≡ 0) × (vec_len l.seats ≡ l.number) × HaveNumbers l.seats.items × AreBelow 1 l.seats.items × (receipts_in l.seats.items ≡ 0)
