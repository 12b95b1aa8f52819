use Rattle.std.proofs.Common.{◌≡◌, ◌≤◌, ◌+◌, ◌++◌, length, map, All, Some, vec_len, vec_capacity}
use Rattle.std.specs.Option.{MatchOption}
use Rattle.std.specs.Vec.Iter.{into_iter_items, into_iter_len}
use Rattle.tb_work.specs.Receipts.{first_gap, Stands}
use Rattle.tb_work.proofs.closing.take_all.Given as goal

-- the receipts so far are taken in
abbrev pub invariant-loop-one : goal.invariant-loop-one
invariant-loop-one g l =
    (l.yielded ++ into_iter_items l.one-iterator ≡ into_iter_items l.initial.one-iterator)
    × (into_iter_len l.one-iterator ≡ length (into_iter_items l.one-iterator))
    × (l.told ≡ l.initial.told)
    × (l.receipts.items ≡ l.initial.receipts.items ++ map (λ k. k.receipt) l.yielded)
    × (vec_len l.receipts ≡ vec_len l.initial.receipts + length l.yielded)
    × (vec_capacity l.receipts ≡ vec_capacity l.initial.receipts)
    × All (Stands l.journal.items) (map (λ k. k.receipt) l.yielded)
    × All (λ r. g.N.Team.slots.first ≤ r.place) (map (λ k. k.receipt) l.yielded)
    × MatchOption l.initial.gap (l.gap ≡ first_gap (length l.journal.items) (map (λ k. k.receipt) l.yielded)) (λ n. l.gap ≡ Some n)
