use Rattle.std.proofs.Common.{◌≡◌, ◌+◌, ◌-◌, get_or, slice_get, length, arith, ap, ◌∙◌}
use Rattle.tb_work.proofs.Slotted.{noted_as, notes_count}
use Rattle.tb_work.proofs.closing.take_in.Goals as goal
use Rattle.tb_work.proofs.closing.take_in.Goals.{then-place-len, else-place-len}

pub returns-clause-stands : goal.returns-clause-stands
returns-clause-stands g c lt =
    let journal = c.args.journal.now.items in
    let receipt = c.args.kept.receipt in
    let f = g.N.Team.slots.first in
    let count = notes_count c.args.told.now g.N.Team.slots (length journal) c.requires.cells c.requires.enough in
    elim c.if-place-len.branch [
      | then-place-len w ↦
          let i = receipt.place + length c.args.told.now - w.len-then-place-len.result in
          w.compare.ensures.agrees (get_or journal receipt.place receipt.entry) receipt.entry
          (ap (λ l. slice_get l i) c.requires.known ∙ noted_as journal f receipt.place i receipt.entry (omega (arith, count, c.args.kept.from, lt)) lt)
          c.args.kept.known
      | else-place-len w ↦ absurd (omega arith)
    ]
