use Rattle.std.proofs.Common.{rules, ◌≡◌, ◌<◌, ◌≤◌, [], ◌∷◌, ◌++◌, Some, map, length, slice_index, arith, ap, sym, ◌∙◌}
use Rattle.tb_work.proofs.Seats.{below_at}
use Rattle.tb_work.proofs.Telling.{none_yet, told_more, cells_more}
use Rattle.tb_work.proofs.adopting.tell_all.Goals as goal

pub give-requires-clause-seat : goal.give-requires-clause-seat
give-requires-clause-seat g c =
    let journal = c.args.journal.now.items in
    let below = below_at (length c.args.seats.now) journal c.loop-place.place c.in_ok-entry.entry (search rules) c.requires.own in
    search rules

pub loop-place-init : goal.loop-place-init
loop-place-init g c =
    let f = g.N.Team.slots.first in
    let at : c.first-first.result ≡ f = c.first-first.ensures.first ∙ ap (λ p. p.first) c.requires.cells in
    let none = ap (map (λ t. t.note.cell)) c.new-told.ensures.items in (
      omega (arith, at),
      none ∙ sym (none_yet f c.first-first.result g.N.Team.slots.cells (omega (arith, at))),
      ap (map (λ t. t.note.known)) c.new-told.ensures.items ∙ ap (map (λ e. Some e)) (sym (none_yet f c.first-first.result c.args.journal.now.items (omega (arith, at)))),
      omega (arith, at, c.requires.total),
      search rules,
      search rules,
      (λ i d lt. omega (arith, at, c.requires.some, c.requires.above i d lt)),
      omega (arith, at, c.requires.none),
    )

pub loop-place-preserved : goal.loop-place-preserved
loop-place-preserved g c =
    let es = c.args.journal.now.items in
    let f = g.N.Team.slots.first in
    let place = c.loop-place.place in
    let cells = g.N.Team.slots.cells in
    let i = c.loop-place.invariant in
    let lt : place < length es = search rules in
    let within : place < length cells = omega (arith, lt, c.requires.enough) in (
      omega (arith, i.0),
      c.in_ok-give.ensures.cells ∙ ap (λ l. l ++ slice_index cells place ∷ []) i.1 ∙ cells_more f cells place i.0 within,
      c.in_ok-give.ensures.known ∙ ap (λ l. l ++ Some c.in_ok-entry.entry ∷ []) i.2 ∙ told_more f es place c.in_ok-entry.entry i.0 lt c.in_ok-entry.ensures,
      omega (arith, c.in_ok-give.ensures.total, i.3),
      search rules,
      search rules,
      search rules,
      omega (arith, c.in_ok-give.ensures.receipts, i.7),
    )
