use Rattle.std.proofs.Common.{◌≡◌, ◌+◌, ◌≤◌, map, take, drop, length, Some}
use Rattle.tb_work.specs.Receipts.{HaveNumbers, AreBelow, receipts_in}
use Rattle.tb_work.proofs.adopting.tell_all.Given as goal

-- all is noted up to the slot
abbrev pub invariant-loop-place : goal.invariant-loop-place
invariant-loop-place g l =
    (g.N.Team.slots.first ≤ l.place)
    × (map (λ t. t.note.cell) l.told.items ≡ drop g.N.Team.slots.first (take l.place g.N.Team.slots.cells))
    × (map (λ t. t.note.known) l.told.items ≡ map (λ e. Some e) (drop g.N.Team.slots.first (take l.place l.journal.items)))
    × (l.book.total + g.N.Team.slots.first ≡ l.place)
    × (length l.seats ≡ length l.initial.seats)
    × HaveNumbers l.seats
    × AreBelow l.place l.seats
    × (receipts_in l.seats + g.N.Team.slots.first ≡ l.place)
