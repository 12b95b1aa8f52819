use Rattle.std.proofs.Common.{◌≡◌, ◌≤◌, ◌++◌, length, All, vec_len, vec_capacity}
use Rattle.std.specs.Vec.Iter.{into_iter_items, into_iter_len}
use Rattle.tb_work.specs.Receipts.{first_gap, all_receipts, receipts_in, Stands, IsRow}
use Rattle.tb_work.proofs.closing.take_seats.Given as goal

-- the seats so far are taken in
abbrev pub invariant-loop-seat : goal.invariant-loop-seat
invariant-loop-seat g l =
    (l.yielded ++ into_iter_items l.seat-iterator ≡ into_iter_items l.initial.seat-iterator)
    × (into_iter_len l.seat-iterator ≡ length (into_iter_items l.seat-iterator))
    × (l.told ≡ l.initial.told)
    × (l.receipts.items ≡ all_receipts l.yielded)
    × (vec_len l.receipts ≡ receipts_in l.yielded)
    × (vec_capacity l.receipts ≡ vec_capacity l.initial.receipts)
    × All (Stands l.journal.items) (all_receipts l.yielded)
    × All (λ r. g.N.Team.slots.first ≤ r.place) (all_receipts l.yielded)
    × (l.gap ≡ first_gap (length l.journal.items) (all_receipts l.yielded))
    × (l.all.parts ≡ length l.yielded)
    × (l.all.amount ≡ receipts_in l.yielded)
    × (l.book.total ≡ l.initial.book.total)
    × All IsRow l.yielded
